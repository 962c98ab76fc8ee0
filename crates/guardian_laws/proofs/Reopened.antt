-- A store from which a guardian is opened again by itself holds what the time before says.
use Rattle.std.proofs.Common.{inl, inr, Bool, List, None, Option, Some, [], ap, ap₂, arith, cond, eqb-true, false, filter_map, length, map as each, max, nat_cmp, option_map, refl, subst, suc, sym, true, zero, ℕ, ◌&&◌, ◌==◌, ◌∙◌, ◌∷◌, ◌≡◌, ◌<◌, ◌||◌, Contains}
use Rattle.std.proofs.lemmas.Bool.{false≢true, or_cases}
use Rattle.std.proofs.lemmas.List.Elements.{Contains-append_left, Contains-append_right, Contains-push}
use Rattle.std.proofs.lemmas.Option.{same_Some}
use Rattle.std.specs.Cmp.{unsigned_tied}
use Rattle.std.specs.FinMap as map
use Rattle.std.specs.List.{AllByRecursion, cons_option, list_any}
use Rattle.std.specs.Prelude.{is_some}
use Rattle.action_names.specs.Names.{Name, is_top, same_name}
use Rattle.atomic_types.specs.declared.part.Part.{Part}
use Rattle.atomic_types.specs.Parts.{laid_where}
use Rattle.run_model.specs.declared.step.ObjectId.{ObjectId}
use Rattle.run_model.specs.Keeping.{Standing}
use Rattle.run_model.specs.Lists.{up_to}
use Rattle.run_model.specs.LocalReadings.{LocalEvent, events_here, or_zero, prepared_here, standing_here}
use Rattle.run_model.specs.Openings.{Held, Opening, Setup, first_content, nothing_held, objects_at, set_up}
use Rattle.run_model.specs.Reopening.{life_before, opened_alone}
use Rattle.run_model.specs.StableContent.{Prepared, parts_by, stable_next_top, step_decides, step_told}
use Rattle.run_model.specs.Versions.{part_held}
use Rattle.run_model.specs.Visibility.{votes_yes}
use Rattle.stable_store.specs.Stored.{Record}
use Rattle.run_laws.proofs.Names.{eqb_self, same_name_true}
use Rattle.local_laws.specs.Reopened.{AreReadBack, IsReopened, AreRecords, is_prepared}
use Rattle.local_laws.proofs.ReadBack.{records_read_back}
use Rattle.local_laws.proofs.Reopened.{crashed, life_before_is, votes}
use Rattle.guardian_laws.specs.StoreLaws.{LifeIsStored}
use Rattle.guardian_laws.specs.Reopened.{held_by, records_in}
use Rattle.guardian_laws.specs.Stored.{prepared_of, record_of}
use Rattle.guardian_laws.proofs.Laid.{turned}

-- ---- of an opening a guardian reads its own store and the setup alone

own_store : (setup : Setup) (g : ℕ) (held : Held) → (opened_alone setup g held).stores g ≡ held
own_store setup g held = ap (λ t. cond t held nothing_held) (eqb_self g)

module _ (opening : Opening) (g : ℕ) where
  abbrev alone : Opening
  alone = opened_alone opening.setup g (opening.stores g)

  own_content : (n : ℕ) → first_content opening (record { guardian = g; number = n }) ≡ first_content alone (record { guardian = g; number = n })
  own_content n =
      ap (λ (held : Held). laid_where (held.base n) (set_up opening.setup (record { guardian = g; number = n }))) (sym (own_store opening.setup g (opening.stores g)))

  own_parts : (standing : ObjectId → Standing) (t : Name) → parts_by opening g standing t ≡ parts_by alone g standing t
  own_parts standing t = through (up_to (length (objects_at opening.setup g)))
    where
      part_in : Opening → ℕ → Option (ℕ × Part)
      part_in o n =
          let x : ObjectId = record { guardian = g; number = n } in
          option_map (λ p. (n, p)) (part_held (first_content o x) (standing x) t)

      through : (ns : List ℕ) → filter_map (part_in opening) ns ≡ filter_map (part_in alone) ns
      through [] = refl
      through (n ∷ ns) =
          let x : ObjectId = record { guardian = g; number = n } in
          ap₂ (λ c more. cons_option (option_map (λ p. (n, p)) (part_held c (standing x) t)) more) (own_content n) (through ns)

  pub prepared_alone : (t : Name) (here : List LocalEvent) → prepared_here opening g t here ≡ prepared_here alone g t here
  prepared_alone t [] = refl
  prepared_alone t (c ∷ here) =
      ap₂ (λ (parts : List (ℕ × Part)) o. cond (votes_yes c.event.step c.event.answer g t) (Some (record { home = or_zero c.carried.sender; parts = parts }))
      (cond (step_told c.event.step g t) None o))
      (own_parts (λ x. standing_here (c ∷ here) x) t) (prepared_alone t here)

-- what it reads of its records in the time before
pub read_back : (opening : Opening) (g : ℕ) (records : List (Name × Prepared)) → AreRecords opening.setup g records
    → AreReadBack opening.setup g (opening.stores g) records
read_back opening g records are = records_read_back opening.setup g (opening.stores g) records are

-- who has a record there has one among these
pub recorded_before : (opening : Opening) (g : ℕ) (records : List (Name × Prepared)) (t : Name) → AreRecords opening.setup g records
    → is_some (prepared_here opening g t (life_before g (opening.stores g) records)) ≡ true → is_prepared records t ≡ true
recorded_before opening g records t are h = of (is_prepared records t) refl
  where
    of : (b : Bool) → is_prepared records t ≡ b → b ≡ true
    of true is = refl
    of false is =
        absurd (false≢true (sym (ap (λ o. is_some o) (prepared_alone opening g t (life_before g (opening.stores g) records)
        ∙ (read_back opening g records are).others t is)) ∙ h))

-- ---- the entries of the store's records

abbrev entry_in : ℕ × Record → Name × Prepared
entry_in e = (e.0 ∷ [], prepared_of e.1)

named_top : (es : List (ℕ × Record)) (t : Name) → is_prepared (each entry_in es) t ≡ true → is_top t ≡ true
named_top [] t h = absurd (false≢true h)
named_top (e ∷ es) t h = elim (or_cases (same_name (e.0 ∷ []) t) (is_prepared (each entry_in es) t) h) [
  | inl here ↦ ap is_top (sym (same_name_true (e.0 ∷ []) t here))
  | inr behind ↦ named_top es t behind
]

module _ (n : ℕ) where
  found : (es : List (ℕ × Record)) (r : Record) → map.find nat_cmp n es ≡ Some r → Contains (each entry_in es) (n ∷ [], prepared_of r)
  found [] r h = absurd (let e : ◌≡◌ {A = Option Record} None (Some r) = h in cc)
  found (e ∷ es) r h = of (n == e.0) refl (sym (ap (λ t. cond t (Some e.1) (map.find nat_cmp n es)) (unsigned_tied n e.0)) ∙ h) (found es r)
    where
      of : (b : Bool) → (n == e.0) ≡ b → cond b (Some e.1) (map.find nat_cmp n es) ≡ Some r
          → (map.find nat_cmp n es ≡ Some r → Contains (each entry_in es) (n ∷ [], prepared_of r)) → Contains (entry_in e ∷ each entry_in es) (n ∷ [], prepared_of r)
      of true is k ih =
          let same : e.1 ≡ r = same_Some e.1 r k in
          subst (Contains (entry_in e ∷ each entry_in es)) (ap₂ (λ m q. (m ∷ [], prepared_of q)) (sym (eqb-true n e.0 is)) same)
          (Contains-append_left (entry_in e ∷ []) (each entry_in es) (entry_in e) (Contains-push [] (entry_in e)))
      of false is k ih = Contains-append_right (entry_in e ∷ []) (each entry_in es) (n ∷ [], prepared_of r) (ih k)

  missed : (es : List (ℕ × Record)) → map.find nat_cmp n es ≡ None → is_prepared (each entry_in es) (n ∷ []) ≡ false
  missed [] h = refl
  missed (e ∷ es) h = of (n == e.0) refl (sym (ap (λ t. cond t (Some e.1) (map.find nat_cmp n es)) (unsigned_tied n e.0)) ∙ h) (missed es)
    where
      of : (b : Bool) → (n == e.0) ≡ b → cond b (Some e.1) (map.find nat_cmp n es) ≡ None
          → (map.find nat_cmp n es ≡ None → is_prepared (each entry_in es) (n ∷ []) ≡ false)
          → (((e.0 == n) && true) || is_prepared (each entry_in es) (n ∷ [])) ≡ false
      of true is k ih = absurd (let no : ◌≡◌ {A = Option Record} (Some e.1) None = k in cc)
      of false is k ih = ap₂ (λ a b. (a && true) || b) (turned e.0 n ∙ is) (ih k)

-- ---- the number after the greatest

none_raised : (g n : ℕ) (opening : Opening) (es : List (ℕ × Record)) → AllByRecursion (λ e. e.0 < (opening.stores g).next_top) es
    → stable_next_top opening g (events_here (crashed g n (votes g (each entry_in es)))) ≡ (opening.stores g).next_top
none_raised g zero opening [] low = refl
none_raised g zero opening (e ∷ es) low =
    ap₂ (λ t k. cond t (max k (suc e.0)) k) (eqb_self g) (none_raised g 0 opening es low.1) ∙ omega (arith, low.0)
none_raised g (suc n) opening es low = none_raised g n opening es low

none_decided : (g n : ℕ) (records : List (Name × Prepared)) (t : Name) → list_any (λ c. step_decides c.event.step t) (crashed g n (votes g records)) ≡ false
none_decided g zero [] t = refl
none_decided g zero (p ∷ records) t = none_decided g 0 records t
none_decided g (suc n) records t = none_decided g n records t

or_false : (b : Bool) → b ≡ (b || false)
or_false true = refl
or_false false = refl

pub life_is_stored : LifeIsStored
life_is_stored setup g s opening low opened are below = record {
  base = λ n. sym (is.base opening n ∙ ap (λ (h : Held). h.base n) same);
  prepared = λ n. recorded n (map.get s.prepared n) refl;
  decided = λ n.
      sym (ap (λ (h : Held). h.decided (n ∷ [])) same) ∙ or_false ((opening.stores g).decided (n ∷ []))
      ∙ ap (λ b. (opening.stores g).decided (n ∷ []) || b) (sym (none_decided g (suc (opening.stores g).count) (records_in s) (n ∷ [])));
  count = sym (is.count opening ∙ ap (λ (h : Held). h.count) same);
  next_top = sym (none_raised g (suc (opening.stores g).count) opening (map.entries s.prepared)
      (subst (λ k. AllByRecursion (λ e. e.0 < k) (map.entries s.prepared)) (sym next) below) ∙ next);
  tops = λ t h. named_top (map.entries s.prepared) t (recorded_before opening g (records_in s) t here h);
}
  where
    same : opening.stores g ≡ held_by s
    same = opened.stores g low ∙ own_store setup g (held_by s)

    next : (opening.stores g).next_top ≡ s.next_top
    next = ap (λ (h : Held). h.next_top) same

    here : AreRecords opening.setup g (records_in s)
    here = subst (λ o. AreRecords o g (records_in s)) (sym opened.guardians) are

    is : IsReopened g (opening.stores g) (records_in s) (life_before g (opening.stores g) (records_in s))
    is = life_before_is g (opening.stores g) (records_in s)

    back : AreReadBack opening.setup g (opening.stores g) (records_in s)
    back = read_back opening g (records_in s) here

    recorded : (n : ℕ) (r : Option Record) → map.get s.prepared n ≡ r
        → map.get s.prepared n ≡ option_map record_of (prepared_here opening g (n ∷ []) (life_before g (opening.stores g) (records_in s)))
    recorded n None e =
        e ∙ ap (option_map record_of) (sym (prepared_alone opening g (n ∷ []) (life_before g (opening.stores g) (records_in s))
        ∙ back.others (n ∷ []) (missed n (map.entries s.prepared) (sym (map.get-entries s.prepared n) ∙ e))))
    recorded n (Some r) e =
        e ∙ ap (option_map record_of) (sym (prepared_alone opening g (n ∷ []) (life_before g (opening.stores g) (records_in s))
        ∙ back.each (n ∷ []) (prepared_of r) (found n (map.entries s.prepared) r (sym (map.get-entries s.prepared n) ∙ e))))
