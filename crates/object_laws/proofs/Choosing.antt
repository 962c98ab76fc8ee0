-- What acts leave that are chosen by their holders; and who holds them, by Moss's rule.
use Rattle.std.proofs.Common.{Bool, List, None, Option, Some, [], ap, ap₂, cond, false, filter, inl, inr, map, not, pos, refl, sym, true, true≢false, ℤ, ◌&&◌, ◌∙◌, ◌∷◌, ◌≡◌, ◌||◌, ◌⊎◌}
use Rattle.std.proofs.lemmas.Bool.{and_parts, false≢true, not-false, or_cases, or_from, or_parts}
use Rattle.std.specs.List.{AllByRecursion, list_any}
use Rattle.action_names.specs.Names.{Name, is_ancestor}
use Rattle.values.specs.declared.content.Content.{Content}
use Rattle.values.specs.declared.content.Content.TheVariants.{Array, Counter, Record, Variant}
use Rattle.values.specs.declared.value.Value.TheVariants.{Int}
use Rattle.atomic_types.specs.declared.op.Class.{Class}
use Rattle.atomic_types.specs.declared.op.Class.TheVariants.{Read, Write}
use Rattle.atomic_types.specs.declared.op.Class.TheVariants as class
use Rattle.atomic_types.specs.declared.operation.Operation.TheVariants.{Add}
use Rattle.atomic_types.specs.declared.part.Part.TheVariants.{Delta, Value}
use Rattle.atomic_types.specs.Objects.{knows}
use Rattle.atomic_types.specs.Operations as op
use Rattle.atomic_types.specs.Operations.{class_of, classes_conflict, is_add_class, is_read_class, is_write_class}
use Rattle.atomic_types.specs.Parts.{laid}
use Rattle.atomic_types.specs.TypeLaws.{known_stay, reads_leave}
use Rattle.run_model.specs.Actions.{is_exactly}
use Rattle.run_model.specs.Telling.{holder_by}
use Rattle.run_model.specs.Versions.{with_add}
use Rattle.run_laws.proofs.Each.{Each, each_filter, each_map}
use Rattle.run_laws.proofs.Names.{ancestor_both, ancestor_chain, ancestor_is_own, clash, same_name_self, same_name_true}
use Rattle.run_laws.proofs.Seen.{last_facts}
use Rattle.local_laws.specs.Orderly.{AreOrderly, IsUnder}
use Rattle.local_laws.proofs.Acts.{Act, after_act, after_acts, deed_of}
use Rattle.local_laws.proofs.Orderly.{holder_is, writes_conflict}
use Rattle.object_laws.proofs.Held.{KnownAct, held, holds, sum_acts, with_act}

-- ---- choices

-- a read leaves the content
read_leaves : (c : Content) (x : Act) → is_read_class (deed_of x).1 ≡ true → after_act c x ≡ c
read_leaves c (inl o) h = reads_leave c o.operation h
read_leaves c (inr (b, Value v)) h = absurd (false≢true h)
read_leaves c (inr (b, Delta z)) h = absurd (false≢true h)

-- choices of the same writes and adds leave the same
pub same_left : (c : Content) (p q : Act → Bool) (xs : List Act) → Each (λ x. is_read_class (deed_of x).1 ≡ false → p x ≡ q x) xs
    → after_acts c (filter p xs) ≡ after_acts c (filter q xs)
same_left c p q [] h = refl
same_left c p q (x ∷ xs) h = of (is_read_class (deed_of x).1) refl (same_left c p q xs h.1)
  where
    skip : (t : Bool) (ys : List Act) → is_read_class (deed_of x).1 ≡ true → after_acts c (cond t (x ∷ ys) ys) ≡ after_acts c ys
    skip true ys r = read_leaves (after_acts c ys) x r
    skip false ys r = refl

    both : (t : Bool) → after_acts c (filter p xs) ≡ after_acts c (filter q xs)
        → after_acts c (cond t (x ∷ filter p xs) (filter p xs)) ≡ after_acts c (cond t (x ∷ filter q xs) (filter q xs))
    both true e = ap (λ d. after_act d x) e
    both false e = e

    of : (t : Bool) → is_read_class (deed_of x).1 ≡ t → after_acts c (filter p xs) ≡ after_acts c (filter q xs)
        → after_acts c (cond (p x) (x ∷ filter p xs) (filter p xs)) ≡ after_acts c (cond (q x) (x ∷ filter q xs) (filter q xs))
    of true r e = skip (p x) (filter p xs) r ∙ e ∙ sym (skip (q x) (filter q xs) r)
    of false r e = both (p x) e ∙ ap (λ t. after_acts c (cond t (x ∷ filter q xs) (filter q xs))) (h.0 r)

-- a choice of a choice
pub twice : (p q : Act → Bool) (xs : List Act) → filter p (filter q xs) ≡ filter (λ x. q x && p x) xs
twice p q [] = refl
twice p q (x ∷ xs) = of (q x) (twice p q xs)
  where
    of : (t : Bool) → filter p (filter q xs) ≡ filter (λ x. q x && p x) xs
        → filter p (cond t (x ∷ filter q xs) (filter q xs)) ≡ cond (t && p x) (x ∷ filter (λ x. q x && p x) xs) (filter (λ x. q x && p x) xs)
    of true e = ap (λ ys. cond (p x) (x ∷ ys) ys) e
    of false e = e

-- a fact of all, of those that are chosen
pub each_chosen : (P : Act → Type 0) (p : Act → Bool) (xs : List Act) → Each P xs → Each P (filter p xs)
each_chosen P p xs h = each_filter P p xs (each_map P (λ x. p x ≡ true → P x) xs (λ x k q. k) h)

any_chosen : (t p : Act → Bool) (xs : List Act) → list_any t (filter p xs) ≡ list_any (λ x. p x && t x) xs
any_chosen t p [] = refl
any_chosen t p (x ∷ xs) = of (p x) (any_chosen t p xs)
  where
    of : (b : Bool) → list_any t (filter p xs) ≡ list_any (λ x. p x && t x) xs
        → list_any t (cond b (x ∷ filter p xs) (filter p xs)) ≡ ((b && t x) || list_any (λ x. p x && t x) xs)
    of true e = ap (λ u. t x || u) e
    of false e = e

pub any_same : (p q : Act → Bool) (xs : List Act) → Each (λ x. p x ≡ q x) xs → list_any p xs ≡ list_any q xs
any_same p q [] h = refl
any_same p q (x ∷ xs) h = ap₂ (λ t u. t || u) h.0 (any_same p q xs h.1)

pub any_none : (p : Act → Bool) (xs : List Act) → Each (λ x. p x ≡ false) xs → list_any p xs ≡ false
any_none p [] h = refl
any_none p (x ∷ xs) h = or_from (p x) (list_any p xs) h.0 (any_none p xs h.1)

pub none_any : (p : Act → Bool) (xs : List Act) → list_any p xs ≡ false → Each (λ x. p x ≡ false) xs
none_any p [] h = tt
none_any p (x ∷ xs) h = let q = or_parts (p x) (list_any p xs) h in (q.0, none_any p xs q.1)

-- who holds a choice
pub holds_chosen : (hold : Act → Option Name) (k : Class → Bool) (a : Name) (p : Act → Bool) (xs : List Act)
    → holds hold k a (filter p xs) ≡ list_any (λ x. p x && (is_exactly (hold x) a && k (deed_of x).1)) xs
holds_chosen hold k a p xs = any_chosen (λ x. is_exactly (hold x) a && k (deed_of x).1) p xs

-- a read adds nothing
read_adds_nothing : (n : ℤ) (x : Act) → is_read_class (deed_of x).1 ≡ true → with_act n x ≡ n
read_adds_nothing n (inl o) h = of o.operation h
  where
    of : (o : op.Op) → is_read_class (class_of o) ≡ true → with_add n o ≡ n
    of (Add v) h = absurd (false≢true h)
    of _ h = refl
read_adds_nothing n (inr (b, Value v)) h = refl
read_adds_nothing n (inr (b, Delta z)) h = absurd (false≢true h)

-- sums of the same writes and adds
pub same_sum : (p q : Act → Bool) (xs : List Act) → Each (λ x. is_read_class (deed_of x).1 ≡ false → p x ≡ q x) xs → sum_acts p xs ≡ sum_acts q xs
same_sum p q [] h = refl
same_sum p q (x ∷ xs) h = of (is_read_class (deed_of x).1) refl (same_sum p q xs h.1)
  where
    skip : (t : Bool) (n : ℤ) → is_read_class (deed_of x).1 ≡ true → cond t (with_act n x) n ≡ n
    skip true n r = read_adds_nothing n x r
    skip false n r = refl

    of : (t : Bool) → is_read_class (deed_of x).1 ≡ t → sum_acts p xs ≡ sum_acts q xs
        → cond (p x) (with_act (sum_acts p xs) x) (sum_acts p xs) ≡ cond (q x) (with_act (sum_acts q xs) x) (sum_acts q xs)
    of true r e = skip (p x) (sum_acts p xs) r ∙ e ∙ sym (skip (q x) (sum_acts q xs) r)
    of false r e = ap₂ (λ t n. cond t (with_act n x) n) (h.0 r) e

pub sum_chosen : (p q : Act → Bool) (xs : List Act) → sum_acts p (filter q xs) ≡ sum_acts (λ x. q x && p x) xs
sum_chosen p q [] = refl
sum_chosen p q (x ∷ xs) = of (q x) (sum_chosen p q xs)
  where
    of : (t : Bool) → sum_acts p (filter q xs) ≡ sum_acts (λ x. q x && p x) xs
        → sum_acts p (cond t (x ∷ filter q xs) (filter q xs)) ≡ cond (t && p x) (with_act (sum_acts (λ x. q x && p x) xs) x) (sum_acts (λ x. q x && p x) xs)
    of true e = ap (λ n. cond (p x) (with_act n x) n) e
    of false e = e

-- where nothing is chosen
pub none_left : (c : Content) (xs : List Act) → after_acts c (filter (λ x. false) xs) ≡ c
none_left c [] = refl
none_left c (x ∷ xs) = none_left c xs

pub none_added : (xs : List Act) → sum_acts (λ x. false) xs ≡ pos 0
none_added [] = refl
none_added (x ∷ xs) = none_added xs

-- neither a write nor an add is held by a
pub reads_alone : (hold : Act → Option Name) (a : Name) (xs : List Act) → holds hold is_write_class a xs ≡ false → holds hold is_add_class a xs ≡ false
    → Each (λ x. is_read_class (deed_of x).1 ≡ false → is_exactly (hold x) a ≡ false) xs
reads_alone hold a xs h k = both xs (none_any (λ x. is_exactly (hold x) a && is_write_class (deed_of x).1) xs h) (none_any (λ x. is_exactly (hold x) a && is_add_class (deed_of x).1) xs k)
  where
    of : (e : Bool) (d : Class) → (e && is_write_class d) ≡ false → (e && is_add_class d) ≡ false → is_read_class d ≡ false → e ≡ false
    of false d w z r = refl
    of true Read w z r = absurd (true≢false r)
    of true Write w z r = absurd (true≢false w)
    of true class.Add w z r = absurd (true≢false z)

    both : (xs : List Act) → Each (λ x. (is_exactly (hold x) a && is_write_class (deed_of x).1) ≡ false) xs
        → Each (λ x. (is_exactly (hold x) a && is_add_class (deed_of x).1) ≡ false) xs
        → Each (λ x. is_read_class (deed_of x).1 ≡ false → is_exactly (hold x) a ≡ false) xs
    both [] w z = tt
    both (x ∷ xs) w z = (λ r. of (is_exactly (hold x) a) (deed_of x).1 w.0 z.0 r, both xs w.1 z.1)

-- ---- the operations of an object stay known

pub delta_known : (c : Content) (z : ℤ) (wanted : op.Op) → knows (laid (Delta z) c) wanted ≡ knows c wanted
delta_known (Record fields) z wanted = refl
delta_known (Array a) z wanted = refl
delta_known (Variant v) z wanted = refl
delta_known (Counter n) z wanted = known_stay (Counter n) (Add (Int z)) wanted refl

pub left_known : (c : Content) (xs : List Act) → Each (λ x. KnownAct c x) xs → (wanted : op.Op) → knows (after_acts c xs) wanted ≡ knows c wanted
left_known c [] h wanted = refl
left_known c (inl o ∷ xs) h wanted =
    known_stay (after_acts c xs) o.operation wanted (left_known c xs h.1 o.operation ∙ h.0) ∙ left_known c xs h.1 wanted
left_known c (inr (b, Value v) ∷ xs) h wanted = h.0 wanted
left_known c (inr (b, Delta z) ∷ xs) h wanted = delta_known (after_acts c xs) z wanted ∙ left_known c xs h.1 wanted

-- ---- holders

-- an untold ancestor is above the holder
pub above_holder : (told : Name → Bool) (b c : Name) → is_ancestor c b ≡ true → told c ≡ false
    → (d : Name) × (holder_by told b ≡ Some d) × (is_ancestor c d ≡ true)
above_holder told b c k n = elim (last_facts (λ a. not (told a)) b c k) [ inl x ↦ absurd (clash (not-false _ x) n) | inr x ↦ x ]

-- an action that was not told committed holds its own
pub holds_own : (told : Name → Bool) (a : Name) → is_ancestor a a ≡ true → told a ≡ false → holder_by told a ≡ Some a
holds_own told a k n =
    let x = above_holder told a a k n in
    let q = holder_is told a x.0 x.1 in
    x.1 ∙ ap (λ d. Some d) (ancestor_both x.0 a q.0 x.2)

pub exactly_self : (a : Name) → is_exactly (Some a) a ≡ true
exactly_self a = same_name_self a

-- the holder of this name
pub exactly : (h : Option Name) (a : Name) → is_exactly h a ≡ true → h ≡ Some a
exactly None a k = absurd (false≢true k)
exactly (Some d) a k = ap (λ c. Some c) (same_name_true d a k)

abbrev pub Comparable : Name → Name → Type 0
Comparable a b = (is_ancestor a b ≡ true) ⊎ (is_ancestor b a ≡ true)

-- who holds something, and who holds a write, are above one another
module _ (told : Name → Bool) (a b : Name) where
  abbrev pub BothHold : Act → Act → Type 0
  BothHold x y = (held told x ≡ Some a) × (held told y ≡ Some b)

  older_conflicts : (c d : Class) → is_write_class d ≡ true → classes_conflict c d ≡ true
  older_conflicts Read Write h = refl
  older_conflicts class.Add Write h = refl
  older_conflicts Write d h = refl
  older_conflicts c Read h = absurd (false≢true h)
  older_conflicts c class.Add h = absurd (false≢true h)

  -- x is newer than a write of b's
  newer_than : (x : Act) (ys : List Act) → held told x ≡ Some a → AllByRecursion (λ e. IsUnder told (deed_of x) e) (map (λ y. deed_of y) ys)
      → holds (λ y. held told y) is_write_class b ys ≡ true → Comparable a b
  newer_than x [] h k w = absurd (false≢true w)
  newer_than x (y ∷ ys) h k w = elim (or_cases _ _ w) [
    | inl q ↦
        let p = and_parts _ _ q in
        let mine = holder_is told (deed_of x).0 a h in
        let its = holder_is told (deed_of y).0 b (exactly (held told y) b p.0) in
        ancestor_chain a b (deed_of x).0 mine.0 (k.0 (writes_conflict (deed_of y).1 (deed_of x).1 p.1) b its.0 its.1)
    | inr q ↦ newer_than x ys h k.1 q
  ]

  -- x is older than it
  older_than : (y : Act) (xs : List Act) → held told y ≡ Some b → is_write_class (deed_of y).1 ≡ true
      → AllByRecursion (λ e. IsUnder told (deed_of y) e) (map (λ x. deed_of x) xs) → Each (λ x. is_exactly (held told x) a ≡ true → Comparable a b) xs
  older_than y [] h w k = tt
  older_than y (x ∷ xs) h w k = (
    λ q.
        let its = holder_is told (deed_of y).0 b h in
        let mine = holder_is told (deed_of x).0 a (exactly (held told x) a q) in
        ancestor_chain a b (deed_of y).0 (k.0 (older_conflicts (deed_of x).1 (deed_of y).1 w) a mine.0 mine.1) its.0,
    older_than y xs h w k.1,
  )

  pub beside_write : (xs : List Act) → AreOrderly told (map (λ x. deed_of x) xs) → holds (λ y. held told y) is_write_class b xs ≡ true
      → Each (λ x. is_exactly (held told x) a ≡ true → Comparable a b) xs
  beside_write [] h w = tt
  beside_write (x ∷ xs) h w = elim (or_cases _ _ w) [
    | inl q ↦
        let p = and_parts _ _ q in
        let e = exactly (held told x) b p.0 in
        let its = holder_is told (deed_of x).0 b e in (
          λ m.
              let mine = holder_is told (deed_of x).0 a (exactly (held told x) a m) in
              ancestor_chain a b (deed_of x).0 mine.0 its.0,
          older_than x xs e p.1 h.0,
        )
    | inr q ↦ (λ m. newer_than x xs (exactly (held told x) a m) h.0 q, beside_write xs h.1 q)
  ]

-- each owner is an owner of some act, that was not told
pub holder_untold : (told : Name → Bool) (k : Class → Bool) (b : Name) (xs : List Act) → holds (λ y. held told y) k b xs ≡ true
    → (is_ancestor b b ≡ true) × (told b ≡ false)
holder_untold told k b [] h = absurd (false≢true h)
holder_untold told k b (x ∷ xs) h = elim (or_cases (is_exactly (held told x) b && k (deed_of x).1) (holds (λ y. held told y) k b xs) h) [
  | inl q ↦
      let its = holder_is told (deed_of x).0 b (exactly (held told x) b (and_parts (is_exactly (held told x) b) (k (deed_of x).1) q).0) in
      (ancestor_is_own b (deed_of x).0 its.0, its.1)
  | inr q ↦ holder_untold told k b xs q
]

-- ---- Moss's rule

-- of those that are chosen
pub chosen_orderly : (told : Name → Bool) (p : Act → Bool) (xs : List Act) → AreOrderly told (map (λ x. deed_of x) xs)
    → AreOrderly told (map (λ x. deed_of x) (filter p xs))
chosen_orderly told p [] h = tt
chosen_orderly told p (x ∷ xs) h = of (p x) (chosen_orderly told p xs h.1)
  where
    fewer : (ys : List Act) → AllByRecursion (λ e. IsUnder told (deed_of x) e) (map (λ y. deed_of y) ys)
        → AllByRecursion (λ e. IsUnder told (deed_of x) e) (map (λ y. deed_of y) (filter p ys))
    fewer [] k = tt
    fewer (y ∷ ys) k = step (p y) (fewer ys k.1)
      where
        step : (t : Bool) → AllByRecursion (λ e. IsUnder told (deed_of x) e) (map (λ y. deed_of y) (filter p ys))
            → AllByRecursion (λ e. IsUnder told (deed_of x) e) (map (λ y. deed_of y) (cond t (y ∷ filter p ys) (filter p ys)))
        step true l = (k.0, l)
        step false l = l

    of : (t : Bool) → AreOrderly told (map (λ x. deed_of x) (filter p xs)) → AreOrderly told (map (λ x. deed_of x) (cond t (x ∷ filter p xs) (filter p xs)))
    of true k = (fewer xs h.0, k)
    of false k = k

-- where more was told
pub told_orderly : (told more : Name → Bool) → ((c : Name) → more c ≡ false → told c ≡ false) → (xs : List Act)
    → AreOrderly told (map (λ x. deed_of x) xs) → AreOrderly more (map (λ x. deed_of x) xs)
told_orderly told more fewer [] h = tt
told_orderly told more fewer (x ∷ xs) h = (each xs h.0, told_orderly told more fewer xs h.1)
  where
    each : (ys : List Act) → AllByRecursion (λ e. IsUnder told (deed_of x) e) (map (λ y. deed_of y) ys)
        → AllByRecursion (λ e. IsUnder more (deed_of x) e) (map (λ y. deed_of y) ys)
    each [] k = tt
    each (y ∷ ys) k = (λ t c l n. k.0 t c l (fewer c n), each ys k.1)
