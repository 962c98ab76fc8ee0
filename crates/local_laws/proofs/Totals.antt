-- What all acts leave of a content is the version on top, with the deltas beside it.
use Rattle.std.proofs.Common.{Bool, List, None, Option, Some, [], ap, ap₂, cond, false, filter, filter_map, inl, inr, map, not, refl, subst, sym, true, ◌&&◌, ◌++◌, ◌∙◌, ◌∷◌, ◌≡◌, ◌||◌}
use Rattle.std.proofs.lemmas.Bool.{and_from, and_parts, false_from_ne_true, false≢true, not-false, not-true, or_cases, or_from, or_left, or_right, true≢false}
use Rattle.std.specs.List.{cons_option, list_any}
use Rattle.std.specs.Prelude.{ℕ, ℤ, is_some, pos}
use Rattle.action_names.specs.Comparison.{same_name-equivalence}
use Rattle.action_names.specs.Names.{Name, has_name, same_name}
use Rattle.values.specs.declared.content.Content.{Content}
use Rattle.values.specs.declared.content.Content.TheVariants.{Array, Counter, Record, Variant}
use Rattle.values.specs.declared.value.Value.TheVariants.{Int, Text}
use Rattle.atomic_types.specs.TypeLaws.{reads_leave}
use Rattle.atomic_types.specs.declared.op.Class.{Class}
use Rattle.atomic_types.specs.declared.op.Class.TheVariants.{Read, Write}
use Rattle.atomic_types.specs.declared.op.Class.TheVariants as class
use Rattle.atomic_types.specs.Operations as op
use Rattle.atomic_types.specs.declared.operation.Operation.TheVariants.{Add, Total}
use Rattle.atomic_types.specs.declared.part.Part.{Part}
use Rattle.atomic_types.specs.declared.part.Part.TheVariants.{Delta, Value}
use Rattle.atomic_types.specs.Operations.{class_of, classes_conflict, is_add_class, is_read_class, is_write_class}
use Rattle.atomic_types.specs.Objects.{knows}
use Rattle.atomic_types.specs.Parts.{laid}
use Rattle.run_model.specs.declared.answer.Refusal.TheVariants as why
use Rattle.run_model.specs.declared.history.Event.{Event}
use Rattle.run_model.specs.declared.step.ObjectId.{ObjectId}
use Rattle.run_model.specs.declared.step.Step.{Step}
use Rattle.run_model.specs.declared.step.Step.TheVariants.{Op}
use Rattle.run_model.specs.Openings.{Opening, first_content}
use Rattle.run_model.specs.Refusals.{checks}
use Rattle.run_model.specs.Runs.{IsRun}
use Rattle.run_model.specs.Actions.{is_exactly}
use Rattle.run_model.specs.Keeping.{Performed, Standing, is_kept, kept_on, part_class, performed, same_object, standing_of}
use Rattle.run_model.specs.Telling.{holder_by, last_passing, or_else}
use Rattle.run_model.specs.Versions.{adders_by, delta_by, is_held_above, is_held_by, last_version, owners_by, top_by, version_by, written_by}
use Rattle.run_laws.proofs.Accepted.{NoneApplies, checked}
use Rattle.run_laws.proofs.Granted.{each_performed, grant_parts}
use Rattle.run_laws.proofs.Growth.{run_before}
use Rattle.run_laws.proofs.Each.{Each, each_filter, each_map}
use Rattle.run_laws.proofs.Names.{clash, has_name_append, same_name_self, same_name_true}
use Rattle.local_laws.specs.Orderly.{IsOrderly}
use Rattle.local_laws.specs.Tops.{TextsAddNothing, TopWithDeltas, TopsOfRuns, VersionWithDeltas, adds_text, is_beside, top_owner, with_deltas}
use Rattle.local_laws.proofs.Acts.{Act, act_adds_text, acts_by, acts_of, after_acts, all_acts, belonging_goes_up, belongs_to, deed_of, orderly_acts, others_last, passing_acts}
use Rattle.local_laws.proofs.Orderly.{owners_are_chain}
use Rattle.local_laws.proofs.Outcomes.{has_filter, has_rising}
use Rattle.local_laws.proofs.Replying.{others_free}
use Rattle.local_laws.proofs.Rising.{Distinct, Rising, last_none, last_of_chain, last_there, rising_is, some_rising_distinct}
use Rattle.local_laws.proofs.Waiting.{runs_are_orderly}
use Rattle.local_laws.proofs.Sums.{adds_leave, amount_first, amount_of, amounts_are_adds, delta_is, with_amount, with_amounts, zero_adds_nothing}

-- ---- the holders of acts of a class

-- those of the acts whose class passes a test
abbrev holders_of : (Name → Bool) → (Class → Bool) → List Act → List Name
holders_of told k xs = filter_map (λ x. cond (k (deed_of x).1) (holder_by told (deed_of x).0) None) xs

-- each of them is there
each_there : (told : Name → Bool) (k : Class → Bool) (xs : List Act)
    → Each (λ x. (a : Name) → k (deed_of x).1 ≡ true → holder_by told (deed_of x).0 ≡ Some a → has_name (holders_of told k xs) a ≡ true) xs
each_there told k [] = tt
each_there told k (x ∷ xs) =
    (first, each_map _ _ xs (λ y h a q e. more (cond (k (deed_of x).1) (holder_by told (deed_of x).0) None) a (h a q e)) (each_there told k xs))
  where
    first : (a : Name) → k (deed_of x).1 ≡ true → holder_by told (deed_of x).0 ≡ Some a → has_name (holders_of told k (x ∷ xs)) a ≡ true
    first a q e =
        ap₂ (λ t o. has_name (cons_option (cond t o None) (holders_of told k xs)) a) q e
        ∙ or_left (same_name a a) (has_name (holders_of told k xs) a) (same_name_self a)

    more : (o : Option Name) (a : Name) → has_name (holders_of told k xs) a ≡ true → has_name (cons_option o (holders_of told k xs)) a ≡ true
    more None a h = h
    more (Some b) a h = or_right _ _ h

-- and no others
some_act : (told : Name → Bool) (k : Class → Bool) (a : Name) (xs : List Act) → has_name (holders_of told k xs) a ≡ true
    → list_any (λ x. is_exactly (holder_by told (deed_of x).0) a && k (deed_of x).1) xs ≡ true
some_act told k a [] h = absurd (false≢true h)
some_act told k a (x ∷ xs) h = of (k (deed_of x).1) (holder_by told (deed_of x).0) h (some_act told k a xs)
  where
    rest : Bool
    rest = list_any (λ y. is_exactly (holder_by told (deed_of y).0) a && k (deed_of y).1) xs

    of : (t : Bool) (o : Option Name) → has_name (cons_option (cond t o None) (holders_of told k xs)) a ≡ true
        → (has_name (holders_of told k xs) a ≡ true → rest ≡ true) → ((is_exactly o a && t) || rest) ≡ true
    of false o q ih = or_right (is_exactly o a && false) rest (ih q)
    of true None q ih = ih q
    of true (Some b) q ih = elim (or_cases (same_name b a) (has_name (holders_of told k xs) a) q) [
      | inl e ↦ or_left (same_name b a && true) rest (and_from (same_name b a) true e refl)
      | inr e ↦ or_right (same_name b a && true) rest (ih e)
    ]

or_turned : (x y : Bool) → (x || y) ≡ (y || x)
or_turned true true = refl
or_turned true false = refl
or_turned false true = refl
or_turned false false = refl

-- the two lists of which they come
module _ (told : Name → Bool) (k : Class → Bool) where
  abbrev holders_back : List (Name × Part) → List Name
  holders_back rs = filter_map (λ r. cond (k (part_class r.1)) (holder_by told r.0) None) rs

  abbrev holders_kept : List Performed → List Name
  holders_kept os = filter_map (λ o. cond (k (class_of o.operation)) (holder_by told o.action) None) os

  holders_split : (os : List Performed) (rs : List (Name × Part)) → holders_of told k (acts_of os rs) ≡ holders_kept os ++ holders_back rs
  holders_split [] [] = refl
  holders_split [] (r ∷ rs) = ap (λ names. cons_option (cond (k (part_class r.1)) (holder_by told r.0) None) names) (holders_split [] rs)
  holders_split (o ∷ os) rs =
      ap (λ names. cons_option (cond (k (class_of o.operation)) (holder_by told o.action) None) names) (holders_split os rs)
      ∙ front (cond (k (class_of o.operation)) (holder_by told o.action) None)
    where
      front : (p : Option Name) → cons_option p (holders_kept os ++ holders_back rs) ≡ cons_option p (holders_kept os) ++ holders_back rs
      front None = refl
      front (Some b) = refl

  holders_there : (os : List Performed) (rs : List (Name × Part)) (a : Name)
      → has_name (holders_back rs ++ holders_kept os) a ≡ has_name (holders_of told k (acts_of os rs)) a
  holders_there os rs a =
      has_name_append (holders_back rs) (holders_kept os) a ∙ or_turned (has_name (holders_back rs) a) (has_name (holders_kept os) a)
      ∙ sym (has_name_append (holders_kept os) (holders_back rs) a) ∙ sym (ap (λ names. has_name names a) (holders_split os rs))

owners_hold : (s : Standing) (a : Name) → has_name (owners_by s) a ≡ has_name (holders_of s.told is_write_class (acts_by s)) a
owners_hold s a = has_rising _ a ∙ holders_there s.told is_write_class s.kept s.restored a

adders_hold : (s : Standing) (a : Name)
    → has_name (adders_by s) a ≡ (has_name (holders_of s.told is_add_class (acts_by s)) a && not (has_name (owners_by s) a))
adders_hold s a =
    has_rising _ a ∙ has_filter (λ b. not (has_name (owners_by s) b)) _ a
    ∙ ap (λ t. t && not (has_name (owners_by s) a)) (holders_there s.told is_add_class s.kept s.restored a)

-- ---- the version on top

-- it is that of the last owner
top_is : (c : Content) (s : Standing)
    → top_by c s ≡ after_acts c (filter (λ x. belongs_to (top_owner s) (holder_by s.told (deed_of x).0)) (acts_by s))
top_is c s =
    last (owners_by s) None ∙ ap at (alone (top_owner s))
    ∙ sym (passing_acts c (λ b. belongs_to (top_owner s) (holder_by s.told b)) s.kept s.restored)
  where
    at : Option Name → Content
    at owner = written_by c s (λ b. belongs_to owner (holder_by s.told b))

    alone : (o : Option Name) → or_else o None ≡ o
    alone None = refl
    alone (Some a) = refl

    last : (names : List Name) (o : Option Name)
        → last_version (at o) (map (λ a. (a, version_by c s a)) names) ≡ at (or_else (last_passing (λ b. true) names) o)
    last [] o = refl
    last (b ∷ names) o = last names (Some b) ∙ ap at (sooner (last_passing (λ d. true) names))
      where
        sooner : (p : Option Name) → or_else p (Some b) ≡ or_else (or_else p (Some b)) o
        sooner None = refl
        sooner (Some d) = refl

owners_rise : (s : Standing) → Rising (owners_by s)
owners_rise s = rising_is (holders_back s.told is_write_class s.restored ++ holders_kept s.told is_write_class s.kept)

-- what the other owners hold is in it
owner_belongs : (s : Standing) (a : Name) → IsOrderly s → has_name (owners_by s) a ≡ true → belongs_to (top_owner s) (Some a) ≡ true
owner_belongs s a orderly h = of (top_owner s) refl
  where
    of : (o : Option Name) → top_owner s ≡ o → belongs_to o (Some a) ≡ true
    of None e = absurd (clash h (last_none (owners_by s) a e))
    of (Some l) e =
        last_of_chain (owners_by s) a l (owners_rise s) e h (owners_are_chain s a l orderly h (last_there (owners_by s) l e))

beside_is : (o : Option Name) (a : Name) → is_beside o a ≡ not (belongs_to o (Some a))
beside_is None a = refl
beside_is (Some l) a = refl

-- ---- sums by holder

-- the holder is one of these
abbrev held_among : List Name → Option Name → Bool
held_among names None = false
held_among names (Some a) = has_name names a

none_among : (c : Content) (told : Name → Bool) (xs : List Act)
    → with_amounts c (filter (λ x. held_among [] (holder_by told (deed_of x).0)) xs) ≡ c
none_among c told [] = refl
none_among c told (x ∷ xs) = of (holder_by told (deed_of x).0) (none_among c told xs)
  where
    rest : List Act
    rest = filter (λ y. held_among [] (holder_by told (deed_of y).0)) xs

    of : (o : Option Name) → with_amounts c rest ≡ c → with_amounts c (cond (held_among [] o) (x ∷ rest) rest) ≡ c
    of None e = e
    of (Some a) e = e

-- what one holder added, and then what the others did
one_first : (c : Content) (told : Name → Bool) (a : Name) (names : List Name) → has_name names a ≡ false → (xs : List Act)
    → with_amounts c (filter (λ x. held_among (a ∷ names) (holder_by told (deed_of x).0)) xs)
    ≡ with_amounts (with_amounts c (filter (λ x. is_exactly (holder_by told (deed_of x).0) a) xs))
    (filter (λ x. held_among names (holder_by told (deed_of x).0)) xs)
one_first c told a names absent [] = refl
one_first c told a names absent (x ∷ xs) = of (holder_by told (deed_of x).0) (one_first c told a names absent xs)
  where
    all : List Act
    all = filter (λ y. held_among (a ∷ names) (holder_by told (deed_of y).0)) xs

    own : List Act
    own = filter (λ y. is_exactly (holder_by told (deed_of y).0) a) xs

    others : List Act
    others = filter (λ y. held_among names (holder_by told (deed_of y).0)) xs

    by : (b : Name) (t u : Bool) → same_name a b ≡ t → has_name names b ≡ u → with_amounts c all ≡ with_amounts (with_amounts c own) others
        → with_amounts c (cond (t || u) (x ∷ all) all) ≡ with_amounts (with_amounts c (cond t (x ∷ own) own)) (cond u (x ∷ others) others)
    by b true true p q e = absurd (clash q (ap (λ d. has_name names d) (sym (same_name_true a b p)) ∙ absent))
    by b true false p q e = ap (λ d. with_amount (amount_of x) d) e ∙ sym (amount_first (amount_of x) (with_amounts c own) others)
    by b false true p q e = ap (λ d. with_amount (amount_of x) d) e
    by b false false p q e = e

    of : (o : Option Name) → with_amounts c all ≡ with_amounts (with_amounts c own) others
        → with_amounts c (cond (held_among (a ∷ names) o) (x ∷ all) all)
        ≡ with_amounts (with_amounts c (cond (is_exactly o a) (x ∷ own) own)) (cond (held_among names o) (x ∷ others) others)
    of None e = e
    of (Some b) e =
        by b (same_name a b) (has_name names b) refl refl e
        ∙ ap (λ t. with_amounts (with_amounts c (cond t (x ∷ own) own)) (cond (has_name names b) (x ∷ others) others))
        (same_name-equivalence.symm a b)

-- some act that a holds adds
abbrev Adds : Standing → Name → Type 0
Adds s a = list_any (λ x. is_held_by s a (deed_of x).0 && is_some (amount_of x)) (acts_by s) ≡ true

-- what some holders added, each of whom added something, is their deltas
by_holder : (s : Standing) (names : List Name) → Distinct names → Each (λ a. Adds s a) names → (c : Content)
    → with_amounts c (filter (λ x. held_among names (holder_by s.told (deed_of x).0)) (acts_by s))
    ≡ with_deltas c (map (λ a. (a, delta_by s a)) names)
by_holder s [] d h c = none_among c s.told (acts_by s)
by_holder s (a ∷ names) d h c =
    one_first c s.told a names d.0 (acts_by s)
    ∙ ap (λ b. with_amounts b (filter (λ x. held_among names (holder_by s.told (deed_of x).0)) (acts_by s))) (delta_is c s a h.0)
    ∙ by_holder s names d.1 h.1 (laid (Delta (delta_by s a)) c)

-- only adds count
same_adds : (c : Content) (p q : Act → Bool) (xs : List Act) → Each (λ x. is_some (amount_of x) ≡ true → p x ≡ q x) xs
    → with_amounts c (filter p xs) ≡ with_amounts c (filter q xs)
same_adds c p q [] h = refl
same_adds c p q (x ∷ xs) h = of (amount_of x) refl (p x) refl (q x) refl (same_adds c p q xs h.1)
  where
    of : (m : Option ℤ) → amount_of x ≡ m → (t : Bool) → p x ≡ t → (u : Bool) → q x ≡ u
        → with_amounts c (filter p xs) ≡ with_amounts c (filter q xs)
        → with_amounts c (cond t (x ∷ filter p xs) (filter p xs)) ≡ with_amounts c (cond u (x ∷ filter q xs) (filter q xs))
    of m e true k true l i = ap (λ d. with_amount (amount_of x) d) i
    of m e false k false l i = i
    of None e true k false l i = ap (λ n. with_amount n (with_amounts c (filter p xs))) e ∙ i
    of None e false k true l i = i ∙ sym (ap (λ n. with_amount n (with_amounts c (filter q xs))) e)
    of (Some z) e true k false l i = absurd (clash k (h.0 (ap (λ n. is_some n) e) ∙ l))
    of (Some z) e false k true l i = absurd (clash l (sym (h.0 (ap (λ n. is_some n) e)) ∙ k))

-- ---- the acts that are not in the version on top

-- whether an act is not in it
abbrev is_other : Standing → Act → Bool
is_other s x = not (belongs_to (top_owner s) (holder_by s.told (deed_of x).0))

-- none of them writes
others_write_nothing : (s : Standing) → IsOrderly s → Each (λ x. is_write_class (deed_of x).1 ≡ false) (filter (λ x. is_other s x) (acts_by s))
others_write_nothing s orderly =
    each_filter _ (λ x. is_other s x) (acts_by s)
    (each_map _ _ (acts_by s) (λ x there q. of x there q (holder_by s.told (deed_of x).0) refl) (each_there s.told is_write_class (acts_by s)))
  where
    of : (x : Act)
        → ((a : Name) → is_write_class (deed_of x).1 ≡ true → holder_by s.told (deed_of x).0 ≡ Some a
        → has_name (holders_of s.told is_write_class (acts_by s)) a ≡ true)
        → is_other s x ≡ true → (o : Option Name) → holder_by s.told (deed_of x).0 ≡ o → is_write_class (deed_of x).1 ≡ false
    of x there q o e = false_from_ne_true _ (λ w. clash (belongs w o e) (ap (λ p. belongs_to (top_owner s) p) (sym e) ∙ not-true _ q))
      where
        base : (t : Option Name) → belongs_to t None ≡ true
        base None = refl
        base (Some l) = refl

        belongs : is_write_class (deed_of x).1 ≡ true → (o : Option Name) → holder_by s.told (deed_of x).0 ≡ o
            → belongs_to (top_owner s) o ≡ true
        belongs w None e = base (top_owner s)
        belongs w (Some a) e = owner_belongs s a orderly (owners_hold s a ∙ there a w e)

-- those that add are those of the holders of deltas beside it
others_are_beside : (s : Standing) → IsOrderly s
    → Each (λ x. is_some (amount_of x) ≡ true
    → is_other s x ≡ held_among (filter (λ a. is_beside (top_owner s) a) (adders_by s)) (holder_by s.told (deed_of x).0)) (acts_by s)
others_are_beside s orderly =
    each_map _ _ (acts_by s) (λ x there q. of x there (sym (amounts_are_adds x) ∙ q) (holder_by s.told (deed_of x).0) refl)
    (each_there s.told is_add_class (acts_by s))
  where
    beside : List Name
    beside = filter (λ a. is_beside (top_owner s) a) (adders_by s)

    base : (t : Option Name) → not (belongs_to t None) ≡ false
    base None = refl
    base (Some l) = refl

    -- an adder beside it is no owner
    among : (a : Name) → has_name (holders_of s.told is_add_class (acts_by s)) a ≡ true → not (belongs_to (top_owner s) (Some a)) ≡ has_name beside a
    among a h =
        owned (has_name (owners_by s) a) refl
        ∙ ap₂ (λ t u. t && u) (sym (adders_hold s a ∙ ap (λ t. t && not (has_name (owners_by s) a)) h)) (sym (beside_is (top_owner s) a))
        ∙ sym (has_filter (λ b. is_beside (top_owner s) b) (adders_by s) a)
      where
        owned : (t : Bool) → has_name (owners_by s) a ≡ t
            → not (belongs_to (top_owner s) (Some a)) ≡ (not (has_name (owners_by s) a) && not (belongs_to (top_owner s) (Some a)))
        owned true e =
            ap (λ t. not t) (owner_belongs s a orderly e)
            ∙ sym (ap (λ t. not t && not (belongs_to (top_owner s) (Some a))) e)
        owned false e = sym (ap (λ t. not t && not (belongs_to (top_owner s) (Some a))) e)

    of : (x : Act)
        → ((a : Name) → is_add_class (deed_of x).1 ≡ true → holder_by s.told (deed_of x).0 ≡ Some a
        → has_name (holders_of s.told is_add_class (acts_by s)) a ≡ true)
        → is_add_class (deed_of x).1 ≡ true → (o : Option Name) → holder_by s.told (deed_of x).0 ≡ o
        → is_other s x ≡ held_among beside (holder_by s.told (deed_of x).0)
    of x there w None e =
        ap (λ o. not (belongs_to (top_owner s) o)) e ∙ base (top_owner s) ∙ sym (ap (λ o. held_among beside o) e)
    of x there w (Some a) e =
        ap (λ o. not (belongs_to (top_owner s) o)) e ∙ among a (there a w e) ∙ sym (ap (λ o. held_among beside o) e)

-- each of these holders added something
each_name : (names : List Name) → Each (λ a. has_name names a ≡ true) names
each_name [] = tt
each_name (a ∷ names) = (or_left _ _ (same_name_self a), each_map _ _ names (λ b h. or_right _ _ h) (each_name names))

adders_add : (s : Standing) → Each (λ a. Adds s a) (filter (λ a. is_beside (top_owner s) a) (adders_by s))
adders_add s =
    each_filter _ (λ a. is_beside (top_owner s) a) (adders_by s)
    (each_map _ _ (adders_by s) (λ a h q. ap (λ p. list_any p (acts_by s)) (same a)
    ∙ some_act s.told is_add_class a (acts_by s) (and_parts _ _ (sym (adders_hold s a) ∙ h)).0) (each_name (adders_by s)))
  where
    same : (a : Name)
        → ◌≡◌ {A = Act → Bool} (λ x. is_held_by s a (deed_of x).0 && is_some (amount_of x))
        (λ x. is_held_by s a (deed_of x).0 && is_add_class (deed_of x).1)
    same a = λ i x. is_held_by s a (deed_of x).0 && amounts_are_adds x i

mapped_beside : (s : Standing) (o : Option Name) (names : List Name)
    → map {B = Name × ℤ} (λ a. (a, delta_by s a)) (filter (λ a. is_beside o a) names)
    ≡ filter (λ d. is_beside o d.0) (map {B = Name × ℤ} (λ a. (a, delta_by s a)) names)
mapped_beside s o [] = refl
mapped_beside s o (a ∷ names) = of (is_beside o a) (mapped_beside s o names)
  where
    f : Name → Name × ℤ
    f b = (b, delta_by s b)

    of : (t : Bool) → map f (filter (λ b. is_beside o b) names) ≡ filter (λ d. is_beside o d.0) (map f names)
        → map f (cond t (a ∷ filter (λ b. is_beside o b) names) (filter (λ b. is_beside o b) names))
        ≡ cond t (f a ∷ filter (λ d. is_beside o d.0) (map f names)) (filter (λ d. is_beside o d.0) (map f names))
    of true e = ap (λ ds. f a ∷ ds) e
    of false e = e

-- where a text is added, the number on top is within 64 bits
texts_add_nothing : (c : Content) (s : Standing) → TextsAddNothing c s
    → Each (λ x. act_adds_text x ≡ true → laid (Delta (pos 0)) (top_by c s) ≡ top_by c s) (acts_by s)
texts_add_nothing c s fits = acts s.kept s.restored (λ h. zero_adds_nothing (top_by c s) (fits h))
  where
    Whole : Type 0
    Whole = laid (Delta (pos 0)) (top_by c s) ≡ top_by c s

    acts : (os : List Performed) (rs : List (Name × Part)) → (list_any (λ o. adds_text o.operation) os ≡ true → Whole)
        → Each (λ x. act_adds_text x ≡ true → Whole) (acts_of os rs)
    acts [] [] f = tt
    acts [] (r ∷ rs) f = (λ t. absurd (false≢true t), acts [] rs f)
    acts (o ∷ os) rs f = (λ t. f (or_left _ _ t), acts os rs (λ t. f (or_right _ _ t)))

-- ---- the laws

pub top_with_deltas : TopWithDeltas
top_with_deltas c s orderly fits =
    sym (all_acts c s.kept s.restored)
    ∙ others_last c s.told (λ b. belongs_to owner (holder_by s.told b)) (belonging_goes_up s.told owner) (acts_by s) (orderly_acts s orderly)
    ∙ ap (λ d. after_acts d others) (sym (top_is c s))
    ∙ adds_leave (top_by c s) others (others_write_nothing s orderly)
    (each_filter _ (λ x. is_other s x) (acts_by s) (each_map _ _ (acts_by s) (λ x h q t. h t) (texts_add_nothing c s fits)))
    ∙ same_adds (top_by c s) (λ x. is_other s x) (λ x. held_among beside (holder_by s.told (deed_of x).0)) (acts_by s) (others_are_beside s orderly)
    ∙ by_holder s beside (some_rising_distinct (λ a. is_beside owner a) adders) (adders_add s) (top_by c s)
    ∙ ap (λ ds. with_deltas (top_by c s) ds) (mapped_beside s owner (adders_by s))
  where
    owner : Option Name
    owner = top_owner s

    others : List Act
    others = filter (λ x. is_other s x) (acts_by s)

    adders : List Name
    adders =
        filter (λ a. not (has_name (owners_by s) a))
        (holders_back s.told is_add_class s.restored ++ holders_kept s.told is_add_class s.kept)

    beside : List Name
    beside = filter (λ a. is_beside owner a) (adders_by s)

-- acts that a total does not conflict with leave the content
reads_only : (c : Content) (xs : List Act) → Each (λ x. classes_conflict (deed_of x).1 Read ≡ false) xs → after_acts c xs ≡ c
reads_only c [] h = refl
reads_only c (x ∷ xs) h = one x (after_acts c xs) h.0 ∙ reads_only c xs h.1
  where
    reads : (k : Class) → classes_conflict k Read ≡ false → is_read_class k ≡ true
    reads Read q = refl
    reads class.Add q = absurd (true≢false q)
    reads Write q = absurd (true≢false q)

    one : (x : Act) (d : Content) → classes_conflict (deed_of x).1 Read ≡ false → after_acts d (x ∷ []) ≡ d
    one (inl o) d q = reads_leave d o.operation (reads (class_of o.operation) q)
    one (inr (b, Delta z)) d q = absurd (true≢false q)
    one (inr (b, Value v)) d q = absurd (true≢false q)

pub version_with_deltas : VersionWithDeltas
version_with_deltas c s a orderly free fits =
    sym (passing_acts c seen s.kept s.restored) ∙ sym (reads_only _ _ (others_free s a Total free))
    ∙ sym (others_last c s.told seen (belonging_goes_up s.told (Some a)) (acts_by s) (orderly_acts s orderly))
    ∙ all_acts c s.kept s.restored ∙ top_with_deltas c s orderly fits
  where
    seen : Name → Bool
    seen b = is_held_above (holder_by s.told b) a

-- ---- in runs

-- no object knows an add of a text
known_adds : (c : Content) (o : op.Op) → knows c o ≡ true → adds_text o ≡ false
known_adds c o h = of o h
  where
    unknown : (d : Content) (bytes : List ℕ) → knows d (Add (Text bytes)) ≡ false
    unknown (Record fields) bytes = refl
    unknown (Array a) bytes = refl
    unknown (Variant v) bytes = refl
    unknown (Counter n) bytes = refl

    of : (o : op.Op) → knows c o ≡ true → adds_text o ≡ false
    of (Add (Text bytes)) k = absurd (clash k (unknown c bytes))
    of (Add (Int z)) k = refl
    of _ k = refl

granted_add_numbers : (opening : Opening) (past : List Event) → IsRun opening past → Each (λ o. adds_text o.operation ≡ false) (performed past)
granted_add_numbers opening past r =
    each_performed past (λ o. adds_text o.operation ≡ false) (λ o e before g w.
    let P : Step → Type 0 = λ s. NoneApplies (checks opening s before) in
    known o.action o.object o.operation before (subst P (grant_parts o e before g).0 (checked opening e before (run_before opening w r))))
  where
    known : (a : Name) (x : ObjectId) (o : op.Op) (before : List Event) → NoneApplies (checks opening (Op a x o) before) → adds_text o ≡ false
    known a x o before f = known_adds (first_content opening x) o (not-false _ (f why.BadOp))

none_adds_text : (os : List Performed) → Each (λ o. adds_text o.operation ≡ false) os → list_any (λ o. adds_text o.operation) os ≡ false
none_adds_text [] h = refl
none_adds_text (o ∷ os) h = or_from (adds_text o.operation) (list_any (λ p. adds_text p.operation) os) h.0 (none_adds_text os h.1)

pub tops_of_runs : TopsOfRuns
tops_of_runs opening past x r =
    top_with_deltas (first_content opening x) (standing_of x past) (runs_are_orderly opening past x r)
    (λ t. absurd (clash t (none_adds_text (kept_on x past)
    (each_filter (λ o. adds_text o.operation ≡ false) (λ o. same_object o.object x && is_kept o past) (performed past)
    (each_map _ _ (performed past) (λ o h q. h) (granted_add_numbers opening past r))))))
