-- What a guardian does by its own history keeps Moss's rule.
use Rattle.std.proofs.Common.{Bool, List, None, Option, Some, [], ap, cond, false, filter, filter_map, inl, inr, map, not, refl, subst, sym, true, ℕ, suc, length, ◌++◌, ◌==◌, ◌∙◌, ◌∷◌, ◌≡◌}
use Rattle.std.proofs.lemmas.Bool.{not-false, or_parts}
use Rattle.std.specs.List.{AllByRecursion, list_any}
use Rattle.action_names.specs.Names.{Name, ancestors, is_ancestor}
use Rattle.atomic_types.specs.Operations.{class_of, classes_conflict, conflicts}
use Rattle.atomic_types.specs.Operations as op
use Rattle.values.specs.declared.content.Content.{Content}
use Rattle.run_model.specs.declared.answer.Answer.{Answer}
use Rattle.atomic_types.specs.declared.op.Reply.{Reply}
use Rattle.run_model.specs.declared.answer.Answer.TheVariants.{Granted, Refused, Waits}
use Rattle.run_model.specs.declared.answer.Refusal.{Refusal}
use Rattle.run_model.specs.declared.step.ObjectId.{ObjectId}
use Rattle.run_model.specs.declared.step.Step.{Step}
use Rattle.run_model.specs.declared.step.Step.TheVariants.{Op, Prepare}
use Rattle.run_model.specs.Answers.{granted_by, operated_by, refused_or}
use Rattle.run_model.specs.Keeping.{Performed, Standing, blockers_by, part_class, performed_by, same_object, undoes_by}
use Rattle.run_model.specs.Openings.{Opening, first_content}
use Rattle.atomic_types.specs.declared.part.Part.{Part}
use Rattle.run_model.specs.Refusals.{checks_by, first_refusal}
use Rattle.run_model.specs.Telling.{holder_by}
use Rattle.run_model.specs.LocalReadings.{LocalEvent, brings, events_here, facts_here, given_back, kept_here, operation_here, restored_here, says_aborted, says_committed, standing_here, told_committed_here}
use Rattle.run_laws.proofs.Each.{Each, each_fails, each_filtered, each_map, each_mapped}
use Rattle.run_laws.proofs.Exchanged.{same_object_true}
use Rattle.run_laws.proofs.Names.{ancestor_trans, clash}
use Rattle.run_laws.proofs.Seen.{last_facts, rising_none}
use Rattle.local_laws.specs.Orderly.{AreOrderly, Deed, IsOrderly, IsUnder, LocalRunsAreOrderly, deeds_by}
use Rattle.local_laws.specs.Owed.{IsOwed, begins, goes_on}

abbrev pub of_kept : Performed → Deed
of_kept o = (o.action, class_of o.operation)

abbrev pub of_restored : Name × Part → Deed
of_restored r = (r.0, part_class r.1)

-- ---- more is told, and less is kept

more_told : (told told' : Name → Bool) → ((c : Name) → told' c ≡ false → told c ≡ false) → (ds : List Deed) → AreOrderly told ds → AreOrderly told' ds
more_told told told' mono [] h = tt
more_told told told' mono (d ∷ ds) h = (all_more ds h.0, more_told told told' mono ds h.1)
  where
    all_more : (es : List Deed) → AllByRecursion (λ e. IsUnder told d e) es → AllByRecursion (λ e. IsUnder told' d e) es
    all_more [] k = tt
    all_more (e ∷ es) k = (λ q c a u. k.0 q c a (mono c u), all_more es k.1)

module _ {X Y : Type 0} (f : X → Deed) (g : Y → Deed) (p : X → Bool) (q : Y → Bool) where
  all_filter : (P : Deed → Type 0) (ys : List Y) → AllByRecursion P (map g ys) → AllByRecursion P (map g (filter q ys))
  all_filter P [] h = tt
  all_filter P (y ∷ ys) h = of (q y) (all_filter P ys h.1)
    where
      of : (t : Bool) → AllByRecursion P (map g (filter q ys)) → AllByRecursion P (map g (cond t (y ∷ filter q ys) (filter q ys)))
      of true k = (h.0, k)
      of false k = k

  all_fewer : (P : Deed → Type 0) (xs : List X) (ys : List Y) → AllByRecursion P (map f xs ++ map g ys)
      → AllByRecursion P (map f (filter p xs) ++ map g (filter q ys))
  all_fewer P [] ys h = all_filter P ys h
  all_fewer P (x ∷ xs) ys h = of (p x) (all_fewer P xs ys h.1)
    where
      of : (t : Bool) → AllByRecursion P (map f (filter p xs) ++ map g (filter q ys))
          → AllByRecursion P (map f (cond t (x ∷ filter p xs) (filter p xs)) ++ map g (filter q ys))
      of true k = (h.0, k)
      of false k = k

  last_fewer : (told : Name → Bool) (ys : List Y) → AreOrderly told (map g ys) → AreOrderly told (map g (filter q ys))
  last_fewer told [] h = tt
  last_fewer told (y ∷ ys) h = of (q y) (last_fewer told ys h.1)
    where
      of : (t : Bool) → AreOrderly told (map g (filter q ys)) → AreOrderly told (map g (cond t (y ∷ filter q ys) (filter q ys)))
      of true k = (all_filter (λ e. IsUnder told (g y) e) ys h.0, k)
      of false k = k

  fewer : (told : Name → Bool) (xs : List X) (ys : List Y) → AreOrderly told (map f xs ++ map g ys)
      → AreOrderly told (map f (filter p xs) ++ map g (filter q ys))
  fewer told [] ys h = last_fewer told ys h
  fewer told (x ∷ xs) ys h = of (p x) (fewer told xs ys h.1)
    where
      of : (t : Bool) → AreOrderly told (map f (filter p xs) ++ map g (filter q ys))
          → AreOrderly told (map f (cond t (x ∷ filter p xs) (filter p xs)) ++ map g (filter q ys))
      of true k = (all_fewer (λ e. IsUnder told (f x) e) xs ys h.0, k)
      of false k = k

-- ---- what is granted stands under all that it conflicts with

each_left : {X : Type 0} (P : X → Type 0) (xs ys : List X) → Each P (xs ++ ys) → Each P xs
each_left P [] ys h = tt
each_left P (x ∷ xs) ys h = (h.0, each_left P xs ys h.1)

each_right : {X : Type 0} (P : X → Type 0) (xs ys : List X) → Each P (xs ++ ys) → Each P ys
each_right P [] ys h = h
each_right P (x ∷ xs) ys h = each_right P xs ys h.1

deeds_of : {X : Type 0} (f : X → Deed) (P : Deed → Type 0) (xs : List X) → Each (λ x. P (f x)) xs → AllByRecursion P (map f xs)
deeds_of f P [] h = tt
deeds_of f P (x ∷ xs) h = (h.0, deeds_of f P xs h.1)

both_deeds : (P : Deed → Type 0) (ds es : List Deed) → AllByRecursion P ds → AllByRecursion P es → AllByRecursion P (ds ++ es)
both_deeds P [] es h k = k
both_deeds P (d ∷ ds) es h k = (h.0, both_deeds P ds es h.1 k)

-- where the holder of a deed is above a, so is each of its untold ancestors
under_holder : (told : Name → Bool) (b a : Name) → ((d : Name) → holder_by told b ≡ Some d → not (is_ancestor d a) ≡ false)
    → (c : Name) → is_ancestor c b ≡ true → told c ≡ false → is_ancestor c a ≡ true
under_holder told b a h c k u = elim (last_facts (λ d. not (told d)) b c k) [
  | inl m ↦ absurd (clash (not-false _ m) u)
  | inr m ↦ ancestor_trans c m.0 a m.2 (not-false _ (h m.0 m.1))
]

pub free_deeds : (s : Standing) (a : Name) (wanted : op.Op) → blockers_by s a wanted ≡ []
    → AllByRecursion (λ e. IsUnder s.told (a, class_of wanted) e) (deeds_by s)
free_deeds s a wanted e =
    both_deeds (λ d. IsUnder s.told (a, class_of wanted) d) (map of_kept s.kept) (map of_restored s.restored)
    (deeds_of of_kept (λ d. IsUnder s.told (a, class_of wanted) d) s.kept
    (each_map _ _ s.kept (λ o h q. under_holder s.told o.action a (h q))
    (each_filtered _ (λ o. conflicts o.operation wanted) s.kept
    (each_mapped (λ d. not (is_ancestor d a) ≡ false) (λ o. holder_by s.told o.action) (filter (λ o. conflicts o.operation wanted) s.kept)
    (each_right (λ d. not (is_ancestor d a) ≡ false) back own free)))))
    (deeds_of of_restored (λ d. IsUnder s.told (a, class_of wanted) d) s.restored
    (each_map _ _ s.restored (λ r h q. under_holder s.told r.0 a (h q))
    (each_filtered _ (λ r. classes_conflict (part_class r.1) (class_of wanted)) s.restored
    (each_mapped (λ d. not (is_ancestor d a) ≡ false) (λ r. holder_by s.told r.0) (filter (λ r. classes_conflict (part_class r.1) (class_of wanted)) s.restored)
    (each_left (λ d. not (is_ancestor d a) ≡ false) back own free)))))
  where
    back : List Name
    back = filter_map (λ r. holder_by s.told r.0) (filter (λ r. classes_conflict (part_class r.1) (class_of wanted)) s.restored)

    own : List Name
    own = filter_map (λ o. holder_by s.told o.action) (filter (λ o. conflicts o.operation wanted) s.kept)

    free : Each (λ d. not (is_ancestor d a) ≡ false) (back ++ own)
    free = each_fails (λ d. not (is_ancestor d a)) (back ++ own) (rising_none (filter (λ d. not (is_ancestor d a)) (back ++ own)) e)

-- ---- one event

-- what was granted had nobody in its way
granted_free : (opening : Opening) (g : ℕ) (a : Name) (x : ObjectId) (wanted : op.Op) (here : List LocalEvent) (r : Reply)
    → operation_here opening g a x wanted here ≡ Granted r → blockers_by (standing_here here x) a wanted ≡ []
granted_free opening g a x wanted here r h = of (first_refusal (checks_by opening (facts_here opening g here) (Op a x wanted))) h
  where
    s : Standing
    s = standing_here here x

    unblocked : (c : Content) (bs : List Name) → granted_by c s.kept wanted bs ≡ Granted r → bs ≡ []
    unblocked c [] k = refl
    unblocked c (b ∷ bs) k = absurd (let e : Waits (b ∷ bs) ≡ Granted r = k in cc)

    of : (o : Option Refusal) → refused_or o (operated_by (first_content opening x) s a wanted) ≡ Granted r → blockers_by s a wanted ≡ []
    of None k = unblocked _ (blockers_by s a wanted) k
    of (Some why) k = absurd (let e : Refused why ≡ Granted r = k in cc)

-- nothing given back
none_back : (step : Step) (x : ObjectId) → given_back step [] x ≡ []
none_back (Prepare h t) x = of (h == x.guardian)
  where
    given_if : Bool → List (Name × Part)
    given_if u = cond u [] []

    of : (u : Bool) → given_if u ≡ []
    of true = refl
    of false = refl
none_back _ x = refl

one_more : (opening : Opening) (x : ObjectId) (c : LocalEvent) (here : List LocalEvent) → IsOwed opening x.guardian c here c.event.step
    → c.carried.restored ≡ [] → IsOrderly (standing_here here x) → IsOrderly (standing_here (c ∷ here) x)
one_more opening x c here owed none h =
    subst (λ rs. AreOrderly told' (map of_kept (kept_here x (c ∷ here)) ++ map of_restored rs)) (sym back)
    (of c.event.step refl c.event.answer refl)
  where
    s : Standing
    s = standing_here here x

    told' : Name → Bool
    told' b = told_committed_here b (c ∷ here)

    stays : Performed → Bool
    stays o = not (undoes_by (λ b. says_aborted (brings c b)) c.event.step (events_here here) o)

    stays_back : Name × Part → Bool
    stays_back r = not (list_any (λ b. says_aborted (brings c b)) (ancestors r.0))

    back : restored_here x (c ∷ here) ≡ filter stays_back (restored_here x here)
    back = ap (λ rs. rs ++ filter stays_back (restored_here x here)) (ap (λ rs. given_back c.event.step rs x) none ∙ none_back c.event.step x)

    mono : (b : Name) → told' b ≡ false → s.told b ≡ false
    mono b q = (or_parts (says_committed (brings c b)) (told_committed_here b here) q).1

    rest : List Deed
    rest = map of_kept (filter stays (kept_here x here)) ++ map of_restored (filter stays_back (restored_here x here))

    old : AreOrderly told' rest
    old = more_told s.told told' mono rest (fewer of_kept of_restored stays stays_back s.told (kept_here x here) (restored_here x here) h)

    told_more : (d : Deed) (es : List Deed) → AllByRecursion (λ e. IsUnder s.told d e) es → AllByRecursion (λ e. IsUnder told' d e) es
    told_more d [] k = tt
    told_more d (e ∷ es) k = (λ q b a u. k.0 q b a (mono b u), told_more d es k.1)

    -- a granted operation
    granted : (a : Name) (y : ObjectId) (o : op.Op) (r : Reply) → Op a y o ≡ c.event.step → Granted r ≡ c.event.answer → (t : Bool) → same_object y x ≡ t
        → AreOrderly told' (map of_kept (cond t (record { number = suc (length here); action = a; object = y; operation = o; reply = r } ∷ []) []
        ++ filter stays (kept_here x here)) ++ map of_restored (filter stays_back (restored_here x here)))
    granted a y o r q e false k = old
    granted a y o r q e true k =
        let owes = subst (λ step. IsOwed opening x.guardian c here step) (sym q) owed in
        let answered = ap (λ z. operation_here opening x.guardian a z o here) (sym (same_object_true y x k)) ∙ sym owes.1 ∙ sym e in
        let free = free_deeds s a o (granted_free opening x.guardian a x o here r answered) in
        (told_more (a, class_of o) rest (all_fewer of_kept of_restored stays stays_back (λ d. IsUnder s.told (a, class_of o) d) (kept_here x here) (restored_here x here) free), old)

    of : (step : Step) → step ≡ c.event.step → (answer : Answer) → answer ≡ c.event.answer
        → AreOrderly told' (map of_kept (filter (λ o. same_object o.object x) (performed_by (suc (length here)) step answer)
        ++ filter stays (kept_here x here)) ++ map of_restored (filter stays_back (restored_here x here)))
    of (Op a y o) q (Granted r) e = granted a y o r q e (same_object y x) refl
    of _ q _ e = old

-- the law
pub local_runs_are_orderly : LocalRunsAreOrderly
local_runs_are_orderly opening x before here begins h = h
local_runs_are_orderly opening x before _ (goes_on {here = here} c owed none run) h =
    one_more opening x c here owed none (local_runs_are_orderly opening x before here run h)
