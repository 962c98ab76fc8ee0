-- What adds leave of a content, by the deltas of their holders.
use Rattle.std.proofs.Common.{Bool, List, None, Option, Some, [], ap, cond, false, filter, inl, inr, refl, sym, true, ℤ, ◌&&◌, ◌∙◌, ◌∷◌, ◌≡◌, ◌||◌}
use Rattle.std.specs.Prelude.{is_some, pos, ◌+ℤ◌}
use Rattle.std.specs.Int.{int_wrap, w64}
use Rattle.std.proofs.lemmas.Bool.{and_from, and_left, and_parts, false_from_ne_true, false≢true, or_cases, or_left, or_right, true≢false}
use Rattle.std.proofs.lemmas.Int.{int_wrap-add_left}
use Rattle.std.specs.List.{list_any}
use Rattle.action_names.specs.Names.{Name, same_name}
use Rattle.values.specs.declared.content.Content.{Content}
use Rattle.values.specs.declared.value.Value.TheVariants.{Int, Text}
use Rattle.atomic_types.specs.declared.op.Class.{Class}
use Rattle.atomic_types.specs.declared.op.Class.TheVariants.{Read, Write}
use Rattle.atomic_types.specs.declared.op.Class.TheVariants as class
use Rattle.atomic_types.specs.declared.operation.Operation.TheVariants.{Add}
use Rattle.atomic_types.specs.declared.part.Part.TheVariants.{Delta, Value}
use Rattle.atomic_types.specs.Counters.{sum_of}
use Rattle.atomic_types.specs.Objects.{content_after}
use Rattle.atomic_types.specs.Operations as op
use Rattle.atomic_types.specs.Operations.{class_of, is_add_class, is_read_class, is_write_class}
use Rattle.atomic_types.specs.Parts.{laid}
use Rattle.run_model.specs.Actions.{is_exactly}
use Rattle.run_model.specs.Versions.{with_add}
use Rattle.run_laws.proofs.Each.{Each, each_map}
use Rattle.run_laws.proofs.Names.{clash, same_name_self, same_name_true}
use Rattle.local_laws.specs.Tops.{adds_text}
use Rattle.local_laws.proofs.Acts.{Act, after_act, after_acts, deed_of}
use Rattle.local_laws.proofs.Rising.{Rising}
use Rattle.object_model.specs.Deltas.{delta_sum}
use Rattle.object_model.specs.Objects.{with_sum}
use Rattle.object_model.specs.Stacks.{owners_of, version_at}
use Rattle.object_laws.proofs.Choosing.{any_none, exactly, none_added, none_any, same_left, same_sum}
use Rattle.object_laws.proofs.Held.{KnownAct, holds, sum_acts, with_act}
use Rattle.object_laws.proofs.Names.{first_absent, same_turned}
use Rattle.object_laws.proofs.Sums.{known_adds, sum_fits, sums_join, wrapped_sum}
use Rattle.object_laws.proofs.Topmost.{delta_alone, deltas_join, has_owner}

pub all_of : (P : Act → Type 0) → ((x : Act) → P x) → (xs : List Act) → Each P xs
all_of P f [] = tt
all_of P f (x ∷ xs) = (f x, all_of P f xs)

pub any_more : (p q : Act → Bool) (xs : List Act) → Each (λ x. p x ≡ true → q x ≡ true) xs → list_any p xs ≡ true → list_any q xs ≡ true
any_more p q [] h k = k
any_more p q (x ∷ xs) h k = elim (or_cases (p x) (list_any p xs) k) [
  | inl e ↦ or_left (q x) (list_any q xs) (h.0 e)
  | inr e ↦ or_right (q x) (list_any q xs) (any_more p q xs h.1 e)
]

-- what adds is no read, and what is neither a read nor a write adds
pub adds_not_read : (d : Class) → is_add_class d ≡ true → is_read_class d ≡ false
adds_not_read Read h = absurd (false≢true h)
adds_not_read Write h = refl
adds_not_read class.Add h = refl

pub rest_adds : (d : Class) → is_read_class d ≡ false → is_write_class d ≡ false → is_add_class d ≡ true
rest_adds Read h k = absurd (true≢false h)
rest_adds Write h k = absurd (true≢false k)
rest_adds class.Add h k = refl

-- ---- adds alone

-- an add adds some number
one_add : (c : Content) (x : Act) → KnownAct c x → is_add_class (deed_of x).1 ≡ true
    → (z : ℤ) × ((d : Content) → after_act d x ≡ laid (Delta z) d) × ((n : ℤ) → with_act n x ≡ sum_of n z)
one_add c (inr (b, Value v)) known h = absurd (false≢true h)
one_add c (inr (b, Delta z)) known h = (z, λ d. refl, λ n. refl)
one_add c (inl o) known h = of o.operation (known_adds c o.operation known) h
  where
    of : (w : op.Op) → adds_text w ≡ false → is_add_class (class_of w) ≡ true
        → (z : ℤ) × ((d : Content) → content_after d w ≡ laid (Delta z) d) × ((n : ℤ) → with_add n w ≡ sum_of n z)
    of (Add (Int z)) t h = (z, λ d. refl, λ n. refl)
    of (Add (Text bytes)) t h = absurd (true≢false t)
    of _ t h = absurd (false≢true h)

none_adds : (r : Act → Bool) (xs : List Act) → list_any r xs ≡ false → sum_acts r xs ≡ pos 0
none_adds r xs h = same_sum r (λ x. false) xs (each_map _ _ xs (λ x e k. e) (none_any r xs h)) ∙ none_added xs

-- what adds leave is their sum, if there are any
adds_are_sum : (c d : Content) (r : Act → Bool) (xs : List Act) → Each (λ x. KnownAct c x) xs
    → Each (λ x. r x ≡ true → is_add_class (deed_of x).1 ≡ true) xs
    → after_acts d (filter r xs) ≡ cond (list_any r xs) (laid (Delta (sum_acts r xs)) d) d
adds_are_sum c d r [] known adds = refl
adds_are_sum c d r (x ∷ xs) known adds = of (r x) refl (adds_are_sum c d r xs known.1 adds.1)
  where
    step : (z : ℤ) (t : Bool) → list_any r xs ≡ t
        → laid (Delta z) (cond t (laid (Delta (sum_acts r xs)) d) d) ≡ laid (Delta (sum_of (sum_acts r xs) z)) d
    step z true q = deltas_join d (sum_acts r xs) z
    step z false q = delta_alone d z ∙ ap (λ n. laid (Delta (sum_of n z)) d) (sym (none_adds r xs q))

    of : (t : Bool) → r x ≡ t → after_acts d (filter r xs) ≡ cond (list_any r xs) (laid (Delta (sum_acts r xs)) d) d
        → after_acts d (cond t (x ∷ filter r xs) (filter r xs))
        ≡ cond (t || list_any r xs) (laid (Delta (cond t (with_act (sum_acts r xs) x) (sum_acts r xs))) d) d
    of false e ih = ih
    of true e ih =
        let one = one_add c x known.0 (adds.0 e) in
        one.1 (after_acts d (filter r xs)) ∙ ap (λ b. laid (Delta one.0) b) ih ∙ step one.0 (list_any r xs) refl
        ∙ ap (λ n. laid (Delta n) d) (sym (one.2 (sum_acts r xs)))

-- ---- the deltas of holders

-- the holder has one of these deltas
abbrev pub is_among : List (Name × ℤ) → Option Name → Bool
is_among ds None = false
is_among ds (Some b) = is_some (version_at ds b)

-- the deltas of holders are together what these add
deltas_are_sum : (hold : Act → Option Name) (xs : List Act) (ds : List (Name × ℤ)) → Rising (owners_of ds)
    → ((b : Name) → is_some (version_at ds b) ≡ true → version_at ds b ≡ Some (sum_acts (λ x. is_exactly (hold x) b) xs))
    → int_wrap w64 (sum_acts (λ x. is_among ds (hold x)) xs) ≡ int_wrap w64 (delta_sum ds)
deltas_are_sum hold xs [] r h =
    ap (λ n. int_wrap w64 n) (same_sum (λ x. is_among [] (hold x)) (λ x. false) xs (all_of _ (λ x k. none (hold x)) xs) ∙ none_added xs)
  where
    none : (o : Option Name) → is_among [] o ≡ false
    none None = refl
    none (Some b) = refl
deltas_are_sum hold xs (d ∷ ds) r h =
    ap (λ n. int_wrap w64 n)
    (same_sum (λ x. is_among (d ∷ ds) (hold x)) (λ x. is_exactly (hold x) d.0 || is_among ds (hold x)) xs (all_of _ (λ x k. split (hold x)) xs))
    ∙ sums_join (λ x. is_exactly (hold x) d.0) (λ x. is_among ds (hold x)) xs (all_of _ (λ x e. apart x e) xs)
    ∙ ap (λ n. sum_of (sum_acts (λ x. is_among ds (hold x)) xs) n) (sym first)
    ∙ sym (int_wrap-add_left w64 (sum_acts (λ x. is_among ds (hold x)) xs) d.1)
    ∙ ap (λ k. int_wrap w64 (k +ℤ d.1)) (deltas_are_sum hold xs ds r.1 rest)
    ∙ int_wrap-add_left w64 (delta_sum ds) d.1 ∙ sym (wrapped_sum (delta_sum ds) d.1)
  where
    here : version_at (d ∷ ds) d.0 ≡ Some d.1
    here = ap (λ (t : Bool). cond t (Some d.1) (version_at ds d.0)) (same_name_self d.0)

    first : d.1 ≡ sum_acts (λ x. is_exactly (hold x) d.0) xs
    first = of (sym here ∙ h d.0 (ap (λ o. is_some o) here))
      where
        of : Some d.1 ≡ Some (sum_acts (λ x. is_exactly (hold x) d.0) xs) → d.1 ≡ sum_acts (λ x. is_exactly (hold x) d.0) xs
        of e = cc

    absent : is_some (version_at ds d.0) ≡ false
    absent = sym (has_owner ds d.0) ∙ first_absent d.0 (owners_of ds) r.0

    split : (o : Option Name) → is_among (d ∷ ds) o ≡ (is_exactly o d.0 || is_among ds o)
    split None = refl
    split (Some e) = ap (λ (t : Bool). is_some (cond t (Some d.1) (version_at ds e))) (same_turned d.0 e) ∙ of (same_name e d.0)
      where
        of : (t : Bool) → is_some (cond t (Some d.1) (version_at ds e)) ≡ (t || is_some (version_at ds e))
        of true = refl
        of false = refl

    apart : (x : Act) → is_exactly (hold x) d.0 ≡ true → is_among ds (hold x) ≡ false
    apart x e = ap (λ o. is_among ds o) (exactly (hold x) d.0 e) ∙ absent

    rest : (b : Name) → is_some (version_at ds b) ≡ true → version_at ds b ≡ Some (sum_acts (λ x. is_exactly (hold x) b) xs)
    rest b k = of (same_name d.0 b) refl
      where
        of : (t : Bool) → same_name d.0 b ≡ t → version_at ds b ≡ Some (sum_acts (λ x. is_exactly (hold x) b) xs)
        of true e = absurd (clash k (ap (λ y. is_some (version_at ds y)) (sym (same_name_true d.0 b e)) ∙ absent))
        of false e =
            let at : version_at (d ∷ ds) b ≡ version_at ds b = ap (λ (t : Bool). cond t (Some d.1) (version_at ds b)) e in
            sym at ∙ h b (ap (λ o. is_some o) at ∙ k)

-- these are the deltas of just those acts whose holders pass the test, none of which writes
pub record AreDeltas (c : Content) (hold : Act → Option Name) (xs : List Act) (q : Option Name → Bool) (ds : List (Name × ℤ)) : Type 0 where
  pub rising : Rising (owners_of ds)
  pub sums : (b : Name) → is_some (version_at ds b) ≡ true → version_at ds b ≡ Some (sum_acts (λ x. is_exactly (hold x) b) xs)
  pub adders : (b : Name) → is_some (version_at ds b) ≡ true → holds hold is_add_class b xs ≡ true
  pub just : Each (λ x. is_read_class (deed_of x).1 ≡ false → q (hold x) ≡ is_among ds (hold x)) xs
  pub adding : Each (λ x. q (hold x) ≡ true → is_write_class (deed_of x).1 ≡ false) xs
  pub known : Each (λ x. KnownAct c x) xs

module _ (c : Content) (hold : Act → Option Name) (xs : List Act) (q : Option Name → Bool) where
  abbrev pub chosen_adds : Act → Bool
  chosen_adds x = q (hold x) && is_add_class (deed_of x).1

  -- of them those count that add
  pub adds_count : (ds : List (Name × ℤ)) → AreDeltas c hold xs q ds → Each (λ x. is_read_class (deed_of x).1 ≡ false → q (hold x) ≡ chosen_adds x) xs
  adds_count ds are = each_map _ _ xs (λ x k r. of x (q (hold x)) refl k r) are.adding
    where
      of : (x : Act) (t : Bool) → q (hold x) ≡ t → (q (hold x) ≡ true → is_write_class (deed_of x).1 ≡ false) → is_read_class (deed_of x).1 ≡ false
          → q (hold x) ≡ chosen_adds x
      of x true e k r = sym (ap (λ t. q (hold x) && t) (rest_adds (deed_of x).1 r (k e)) ∙ whole (q (hold x)))
        where
          whole : (t : Bool) → (t && true) ≡ t
          whole true = refl
          whole false = refl
      of x false e k r = e ∙ sym (and_left (q (hold x)) (is_add_class (deed_of x).1) e)

  -- where there are no deltas nothing is added
  pub none_chosen : AreDeltas c hold xs q [] → list_any (λ x. chosen_adds x) xs ≡ false
  none_chosen are = any_none (λ x. chosen_adds x) xs (each_map _ _ xs (λ x k. false_from_ne_true (chosen_adds x) (λ e.
      let p = and_parts (q (hold x)) (is_add_class (deed_of x).1) e in
      clash p.0 (k (adds_not_read (deed_of x).1 p.1) ∙ none (hold x)))) are.just)
    where
      none : (o : Option Name) → is_among [] o ≡ false
      none None = refl
      none (Some b) = refl

  -- else the sum is that of the deltas
  pub some_chosen : (d : Name × ℤ) (ds : List (Name × ℤ)) → AreDeltas c hold xs q (d ∷ ds)
      → (list_any (λ x. chosen_adds x) xs ≡ true) × (sum_acts (λ x. q (hold x)) xs ≡ delta_sum (d ∷ ds))
  some_chosen d ds are = (
    some,
    sym (sum_fits c (λ x. q (hold x)) xs are.known some)
        ∙ ap (λ n. int_wrap w64 n) (same_sum (λ x. q (hold x)) (λ x. is_among (d ∷ ds) (hold x)) xs are.just)
        ∙ deltas_are_sum hold xs (d ∷ ds) are.rising are.sums ∙ wrapped_sum (delta_sum ds) d.1,
  )
    where
      here : is_some (version_at (d ∷ ds) d.0) ≡ true
      here = ap (λ (t : Bool). is_some (cond t (Some d.1) (version_at ds d.0))) (same_name_self d.0)

      some : list_any (λ x. chosen_adds x) xs ≡ true
      some = any_more (λ x. is_exactly (hold x) d.0 && is_add_class (deed_of x).1) (λ x. chosen_adds x) xs
          (each_map _ _ xs (λ x k e.
          let p = and_parts (is_exactly (hold x) d.0) (is_add_class (deed_of x).1) e in
          and_from (q (hold x)) (is_add_class (deed_of x).1)
          (k (adds_not_read (deed_of x).1 p.1) ∙ ap (λ o. is_among (d ∷ ds) o) (exactly (hold x) d.0 p.0) ∙ here) p.1) are.just)
          (are.adders d.0 here)

  -- on a content they leave the sum of the deltas
  pub deltas_leave : (d : Content) (ds : List (Name × ℤ)) → AreDeltas c hold xs q ds → after_acts d (filter (λ x. q (hold x)) xs) ≡ with_sum d ds
  deltas_leave d ds are =
      same_left d (λ x. q (hold x)) (λ x. chosen_adds x) xs (adds_count ds are)
      ∙ adds_are_sum c d (λ x. chosen_adds x) xs are.known (all_of _ (λ x e. (and_parts (q (hold x)) (is_add_class (deed_of x).1) e).1) xs)
      ∙ of ds are
    where
      of : (ds : List (Name × ℤ)) → AreDeltas c hold xs q ds
          → cond (list_any (λ x. chosen_adds x) xs) (laid (Delta (sum_acts (λ x. chosen_adds x) xs)) d) d ≡ with_sum d ds
      of [] are = ap (λ t. cond t (laid (Delta (sum_acts (λ x. chosen_adds x) xs)) d) d) (none_chosen are)
      of (e ∷ ds) are =
          let some = some_chosen e ds are in
          ap (λ t. cond t (laid (Delta (sum_acts (λ x. chosen_adds x) xs)) d) d) some.0
          ∙ ap (λ n. laid (Delta n) d) (sym (same_sum (λ x. q (hold x)) (λ x. chosen_adds x) xs (adds_count (e ∷ ds) are)) ∙ some.1)
