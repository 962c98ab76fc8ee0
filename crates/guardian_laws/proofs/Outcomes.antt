-- What an event says of outcomes agrees with what the guardian was told.
use Rattle.std.proofs.Common.{Bool, List, [], ap, cond, false, filter, map, not, refl, subst, sym, true, ℕ, ◌&&◌, ◌==◌, ◌∙◌, ◌∷◌, ◌≡◌}
use Rattle.std.proofs.lemmas.Bool.{and_from, and_parts, false_from_ne_true, or_left}
use Rattle.std.specs.List.{AllByRecursion, list_all}
use Rattle.std.specs.List.Sorted.{IsStrictlySortedBy}
use Rattle.std.specs.declared.cmp.Ordering.TheVariants.{Less}
use Rattle.action_names.specs.Names.{Name, insert_name, is_proper_ancestor, name_cmp, name_lt, rising_names, same_name}
use Rattle.run_model.specs.declared.answer.Refusal.TheVariants as why
use Rattle.run_model.specs.declared.history.Event.{Event}
use Rattle.run_model.specs.declared.step.Step.{Step}
use Rattle.run_model.specs.declared.step.Step.TheVariants.{Op, Prepare, Tell}
use Rattle.run_model.specs.Actions.{begun, is_aborted, is_committed, is_ended}
use Rattle.run_model.specs.LocalHistories.{Stamped, events_of, local_history, outcomes_carried}
use Rattle.run_model.specs.LocalReadings.{LocalEvent, outcome_in, says_aborted, told_committed_here, told_here}
use Rattle.run_model.specs.Openings.{Opening}
use Rattle.run_model.specs.Refusals.{checks}
use Rattle.run_model.specs.Runs.{IsRun}
use Rattle.run_model.specs.Telling.{tells, was_told}
use Rattle.run_laws.proofs.Accepted.{NoneApplies, checked}
use Rattle.run_laws.proofs.Each.{Each}
use Rattle.run_laws.proofs.Ended.{not_both}
use Rattle.run_laws.proofs.Names.{clash, same_name_self}
use Rattle.local_laws.proofs.Outcomes.{aborts_told}
use Rattle.local_laws.proofs.Rising.{Rising, rising_is}
use Rattle.local_laws.proofs.Told.{told_committed_same, told_same}
use Rattle.guardian_laws.specs.Laws.{kept_event}
use Rattle.guardian_laws.specs.Outcomes.{AgreesOnOutcomes, are_brought, is_by_told}

-- ---- outcomes come by name

every : (P : Name → Type 0) (names : List Name) → Each P names → AllByRecursion P names
every P [] h = tt
every P (a ∷ names) h = (h.0, every P names h.1)

sorted : (names : List Name) → Rising names → IsStrictlySortedBy name_cmp names
unfolding IsStrictlySortedBy
sorted [] h = tt
sorted (a ∷ names) h = (every (λ b. name_cmp a b ≡ Less) names h.0, sorted names h.1)

names_alone : (out : Name → Bool) (names : List Name) → map (λ (x : Name × Bool). x.0) (map (λ b. (b, out b)) names) ≡ names
names_alone out [] = refl
names_alone out (b ∷ names) = ap (λ bs. b ∷ bs) (names_alone out names)

by_name : (step : Step) (g : ℕ) (past : List Event) (here : List LocalEvent)
    → IsStrictlySortedBy name_cmp (map (λ (x : Name × Bool). x.0) (outcomes_carried step g past here))
unfolding IsStrictlySortedBy
by_name (Tell h a) g past here = of (h == g)
  where
    of : (t : Bool) → IsStrictlySortedBy name_cmp (map (λ (x : Name × Bool). x.0) (cond t ((a, is_committed a past) ∷ []) []))
    of true = (tt, tt)
    of false = tt
by_name (Prepare h t) g past here =
    of (h == g) (filter (λ b. is_proper_ancestor t b && (is_ended b past && not (told_here g b here))) (begun past))
  where
    of : (u : Bool) (names : List Name)
        → IsStrictlySortedBy name_cmp (map (λ (x : Name × Bool). x.0) (cond u (map (λ b. (b, is_committed b past)) (rising_names names)) []))
    of true names =
        subst (λ bs. IsStrictlySortedBy name_cmp bs) (sym (names_alone (λ b. is_committed b past) (rising_names names)))
        (sorted (rising_names names) (rising_is names))
    of false names = tt
by_name _ g past here = tt

-- ---- and of those that the step tells of

all_insert : (p : Name → Bool) (a : Name) (names : List Name) → p a ≡ true → list_all p names ≡ true → list_all p (insert_name a names) ≡ true
all_insert p a [] h k = and_from _ _ h refl
all_insert p a (b ∷ names) h k =
    step (same_name a b) (name_lt a b) (all_insert p a names h (and_parts (p b) (list_all p names) k).1)
  where
    step : (t u : Bool) → list_all p (insert_name a names) ≡ true
        → list_all p (cond t (b ∷ names) (cond u (a ∷ b ∷ names) (b ∷ insert_name a names))) ≡ true
    step true u later = k
    step false true later = and_from _ _ h k
    step false false later = and_from _ _ (and_parts (p b) (list_all p names) k).0 later

all_rising : (p : Name → Bool) (names : List Name) → list_all p names ≡ true → list_all p (rising_names names) ≡ true
all_rising p [] h = refl
all_rising p (a ∷ names) h =
    let parts = and_parts (p a) (list_all p names) h in
    all_insert p a (rising_names names) parts.0 (all_rising p names parts.1)

all_with : (p : Name → Bool) (out : Name → Bool) (names : List Name)
    → list_all p names ≡ true → list_all (λ (x : Name × Bool). p x.0) (map (λ b. (b, out b)) names) ≡ true
all_with p out [] h = refl
all_with p out (b ∷ names) h =
    let parts = and_parts (p b) (list_all p names) h in
    and_from _ _ parts.0 (all_with p out names parts.1)

all_chosen : (p q : Name → Bool) (names : List Name) → list_all p (filter (λ b. p b && q b) names) ≡ true
all_chosen p q [] = refl
all_chosen p q (b ∷ names) = step (p b) refl (q b) (all_chosen p q names)
  where
    step : (t : Bool) → p b ≡ t → (u : Bool) → list_all p (filter (λ c. p c && q c) names) ≡ true
        → list_all p (cond (t && u) (b ∷ filter (λ c. p c && q c) names) (filter (λ c. p c && q c) names)) ≡ true
    step true e true later = and_from _ _ e later
    step true e false later = later
    step false e u later = later

brought_by : (step : Step) (g : ℕ) (past : List Event) (here : List LocalEvent) → are_brought step (outcomes_carried step g past here) ≡ true
brought_by (Tell h a) g past here = of (h == g)
  where
    of : (t : Bool) → list_all (λ (x : Name × Bool). same_name x.0 a) (cond t ((a, is_committed a past) ∷ []) []) ≡ true
    of true = and_from _ _ (same_name_self a) refl
    of false = refl
brought_by (Prepare h t) g past here =
    of (h == g) (all_chosen (λ b. is_proper_ancestor t b) (λ b. is_ended b past && not (told_here g b here)) (begun past))
  where
    below : List Name
    below = filter (λ b. is_proper_ancestor t b && (is_ended b past && not (told_here g b here))) (begun past)

    of : (u : Bool) → list_all (λ b. is_proper_ancestor t b) below ≡ true
        → list_all (λ (x : Name × Bool). is_proper_ancestor t x.0) (cond u (map (λ b. (b, is_committed b past)) (rising_names below)) []) ≡ true
    of true all = all_with (λ b. is_proper_ancestor t b) (λ b. is_committed b past) (rising_names below) (all_rising (λ b. is_proper_ancestor t b) below all)
    of false all = refl
brought_by _ g past here = refl

module _ (opening : Opening) (s : Stamped) (run : List Stamped) (g : ℕ) (r : IsRun opening (events_of (s ∷ run))) where
  abbrev past : List Event
  past = events_of run

  abbrev here : List LocalEvent
  here = local_history opening run g

  had_committed : (b : Name) → told_committed_here b here ≡ true → is_committed b past ≡ true
  had_committed b h = (and_parts (was_told g b past) (is_committed b past) (sym (told_committed_same opening run g b r.2) ∙ h)).1

  -- nothing both commits and aborts
  untold_aborts : (b : Name) → says_aborted (outcome_in (outcomes_carried s.1.step g past here) b) ≡ true → told_committed_here b here ≡ false
  untold_aborts b h = false_from_ne_true _ (λ k.
      let told = sym (aborts_told opening s.1 past here g b r (λ c. told_same opening run g c r.2)) ∙ h in
      not_both opening past b r.2 (had_committed b k) (and_parts (tells s.1 past g b) (is_aborted b past) told).1)

  -- and who operates has not ended
  operates_untold : is_by_told s.1.step here ≡ false
  operates_untold = of s.1.step (checked opening s.1 past r)
    where
      of : (step : Step) → NoneApplies (checks opening step past) → is_by_told step here ≡ false
      of (Op a x wanted) f =
          false_from_ne_true _ (λ k. clash (or_left _ _ (or_left (is_committed a past) (is_aborted a past) (had_committed a k))) (f why.Ended))
      of _ f = refl

  pub agrees_on_outcomes : AgreesOnOutcomes (kept_event opening s run g) here
  agrees_on_outcomes = record { brought = brought_by s.1.step g past here; once = by_name s.1.step g past here; aborts = untold_aborts; operation = operates_untold }
