-- Moss's rule over all that is kept of an object, and that the owners of its versions are a chain.
use Rattle.std.proofs.Common.{Bool, List, None, Option, Some, [], ap, cond, false, filter_map, inl, inr, map, not, option_map, refl, subst, sym, true, ◌++◌, ◌∙◌, ◌∷◌, ◌≡◌, ◌⊎◌}
use Rattle.std.proofs.lemmas.Bool.{and_from, false≢true, not-true, or_cases}
use Rattle.std.specs.List.{AllByRecursion, cons_option}
use Rattle.action_names.specs.Names.{Name, ancestors, has_name, is_ancestor}
use Rattle.atomic_types.specs.declared.op.Class.{Class}
use Rattle.atomic_types.specs.declared.op.Class.TheVariants.{Read, Write}
use Rattle.atomic_types.specs.declared.op.Class.TheVariants as class
use Rattle.atomic_types.specs.Operations.{class_of, classes_conflict, is_write_class}
use Rattle.run_model.specs.Keeping.{Performed, Standing, part_class}
use Rattle.atomic_types.specs.declared.part.Part.{Part}
use Rattle.run_model.specs.Telling.{holder_by, last_passing, or_else}
use Rattle.run_model.specs.Versions.{owners_by}
use Rattle.run_laws.proofs.Names.{ancestor_chain, eqb_self, has_name_append, same_name_true}
use Rattle.run_laws.proofs.Seen.{last_cons}
use Rattle.local_laws.specs.Orderly.{AreOrderly, Deed, IsUnder, OwnersAreChain, deeds_by}
use Rattle.local_laws.proofs.Outcomes.{has_rising}

-- the last that passes is an ancestor, and passes
last_is : (p : Name → Bool) (b a : Name) → last_passing p (ancestors b) ≡ Some a → (is_ancestor a b ≡ true) × (p a ≡ true)
last_is p [] a h = absurd (none h)
  where
    none : None ≡ Some a → ⊥
    none k = cc
last_is p (x ∷ b) a h =
    of (last_passing (λ c. p (x ∷ c)) (ancestors b)) (p (x ∷ [])) refl (sym (last_cons p x b) ∙ h) (λ c k. last_is (λ d. p (x ∷ d)) b c k)
  where
    of : (o : Option Name) (t : Bool) → p (x ∷ []) ≡ t → or_else (option_map (λ c. x ∷ c) o) (cond t (Some (x ∷ [])) None) ≡ Some a
        → ((c : Name) → o ≡ Some c → (is_ancestor c b ≡ true) × (p (x ∷ c) ≡ true))
        → (is_ancestor a (x ∷ b) ≡ true) × (p a ≡ true)
    of (Some []) t e k ih = absurd (false≢true (ih [] refl).0)
    of (Some (y ∷ c)) t e k ih =
        let is : (x ∷ y ∷ c) ≡ a = cc in
        let q = ih (y ∷ c) refl in
        subst (λ d. (is_ancestor d (x ∷ b) ≡ true) × (p d ≡ true)) is (and_from _ _ (eqb_self x) q.0, q.1)
    of None true e k ih =
        let is : (x ∷ []) ≡ a = cc in
        subst (λ d. (is_ancestor d (x ∷ b) ≡ true) × (p d ≡ true)) is (and_from _ _ (eqb_self x) refl, e)
    of None false e k ih = absurd cc

-- the holder of what b did, of which there are untold ancestors
pub holder_is : (told : Name → Bool) (b a : Name) → holder_by told b ≡ Some a → (is_ancestor a b ≡ true) × (told a ≡ false)
holder_is told b a h = let q = last_is (λ c. not (told c)) b a h in (q.0, not-true _ q.1)

-- a deed that writes, which a holds
abbrev Writes : (Name → Bool) → Name → Deed → Type 0
Writes told a d = (is_write_class d.1 ≡ true) × (holder_by told d.0 ≡ Some a)

-- some deed of the list
data Some_deed (P : Deed → Type 0) : List Deed → Type 0 where
  now : {d : Deed} {ds : List Deed} → P d → Some_deed P (d ∷ ds)
  before : {d : Deed} {ds : List Deed} → Some_deed P ds → Some_deed P (d ∷ ds)

behind : (P : Deed → Type 0) (ds es : List Deed) → Some_deed P es → Some_deed P (ds ++ es)
behind P [] es h = h
behind P (d ∷ ds) es h = before (behind P ds es h)

in_front : (P : Deed → Type 0) (ds es : List Deed) → Some_deed P ds → Some_deed P (ds ++ es)
in_front P [] es h = elim h [ ]
in_front P (d ∷ ds) es (now p) = now p
in_front P (d ∷ ds) es (before h) = before (in_front P ds es h)

-- the names that a list of deeds gives
holders_deed : {X : Type 0} (deed : X → Deed) (told : Name → Bool) (a : Name) (xs : List X)
    → has_name (filter_map (λ x. cond (is_write_class (deed x).1) (holder_by told (deed x).0) None) xs) a ≡ true
    → Some_deed (Writes told a) (map deed xs)
holders_deed deed told a [] h = absurd (false≢true h)
holders_deed deed told a (x ∷ xs) h = of (is_write_class (deed x).1) refl (holder_by told (deed x).0) refl h (λ k. holders_deed deed told a xs k)
  where
    rest : List Name
    rest = filter_map (λ y. cond (is_write_class (deed y).1) (holder_by told (deed y).0) None) xs

    of : (t : Bool) → is_write_class (deed x).1 ≡ t → (o : Option Name) → holder_by told (deed x).0 ≡ o
        → has_name (cons_option (cond t o None) rest) a ≡ true
        → (has_name rest a ≡ true → Some_deed (Writes told a) (map deed xs))
        → Some_deed (Writes told a) (deed x ∷ map deed xs)
    of false q o e k ih = before (ih k)
    of true q None e k ih = before (ih k)
    of true q (Some b) e k ih = elim (or_cases _ _ k) [
      | inl y ↦ now (q, e ∙ ap (λ c. Some c) (same_name_true b a y))
      | inr y ↦ before (ih y)
    ]

-- each owner holds a deed that writes
owner_deed : (s : Standing) (a : Name) → has_name (owners_by s) a ≡ true → Some_deed (Writes s.told a) (deeds_by s)
owner_deed s a h = elim (or_cases _ _ (sym (has_name_append back own a) ∙ sym (has_rising (back ++ own) a) ∙ h)) [
  | inl k ↦ behind (Writes s.told a) (map of_kept s.kept) (map of_restored s.restored) (holders_deed of_restored s.told a s.restored k)
  | inr k ↦ in_front (Writes s.told a) (map of_kept s.kept) (map of_restored s.restored) (holders_deed of_kept s.told a s.kept k)
]
  where
    of_restored : Name × Part → Deed
    of_restored r = (r.0, part_class r.1)

    of_kept : Performed → Deed
    of_kept o = (o.action, class_of o.operation)

    back : List Name
    back = filter_map (λ r. cond (is_write_class (part_class r.1)) (holder_by s.told r.0) None) s.restored

    own : List Name
    own = filter_map (λ o. cond (is_write_class (class_of o.operation)) (holder_by s.told o.action) None) s.kept

-- two classes that write conflict
pub writes_conflict : (c d : Class) → is_write_class c ≡ true → classes_conflict c d ≡ true
writes_conflict Write d h = refl
writes_conflict Read d h = absurd (false≢true h)
writes_conflict class.Add d h = absurd (false≢true h)

-- of an older deed under which a newer one stands
abbrev Comparable : Name → Name → Type 0
Comparable a b = (is_ancestor a b ≡ true) ⊎ (is_ancestor b a ≡ true)

one_under : (told : Name → Bool) (a b : Name) (d : Deed) (ds : List Deed) → Writes told a d → AllByRecursion (λ e. IsUnder told d e) ds
    → Some_deed (Writes told b) ds → Comparable a b
one_under told a b d [] w all h = elim h [ ]
one_under told a b d (e ∷ ds) w all (before h) = one_under told a b d ds w all.1 h
one_under told a b d (e ∷ ds) w all (now v) =
    let held = holder_is told d.0 a w.1 in
    let older = holder_is told e.0 b v.1 in
    ancestor_chain a b d.0 held.0 (all.0 (writes_conflict e.1 d.1 v.0) b older.0 older.1)

turned : (a b : Name) → Comparable b a → Comparable a b
turned a b (inl h) = inr h
turned a b (inr h) = inl h

chained : (told : Name → Bool) (a b : Name) (ds : List Deed) → AreOrderly told ds → Some_deed (Writes told a) ds → Some_deed (Writes told b) ds
    → Comparable a b
chained told a b [] h w v = elim w [ ]
chained told a b (d ∷ ds) h (now w) (now v) =
    let held = holder_is told d.0 a w.1 in
    let also = holder_is told d.0 b v.1 in
    ancestor_chain a b d.0 held.0 also.0
chained told a b (d ∷ ds) h (now w) (before v) = one_under told a b d ds w h.0 v
chained told a b (d ∷ ds) h (before w) (now v) = turned a b (one_under told b a d ds v h.0 w)
chained told a b (d ∷ ds) h (before w) (before v) = chained told a b ds h.1 w v

-- the law
pub owners_are_chain : OwnersAreChain
owners_are_chain s a b h k l = chained s.told a b (deeds_by s) h (owner_deed s a k) (owner_deed s b l)
