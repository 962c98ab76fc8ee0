-- What messages bring of outcomes is what their events tell.
use Rattle.std.proofs.Common.{Bool, List, None, Some, [], ap, cond, false, filter, inl, inr, map, not, refl, sym, true, ℕ, ◌&&◌, ◌==◌, ◌∙◌, ◌∷◌, ◌≡◌, ◌||◌}
use Rattle.std.proofs.lemmas.Bool.{and_left, and_parts, and_right, false≢true, not-false, or_cases, or_parts, true≢false}
use Rattle.action_names.specs.Names.{Name, has_name, insert_name, is_proper_ancestor, name_lt, rising_names, same_name}
use Rattle.run_model.specs.declared.answer.Answer.{Answer}
use Rattle.run_model.specs.declared.answer.Answer.TheVariants.{VoteYes}
use Rattle.run_model.specs.declared.history.Event.{Event}
use Rattle.run_model.specs.declared.step.Step.{Step}
use Rattle.run_model.specs.declared.step.Step.TheVariants.{Abort, Crash, Prepare, Tell}
use Rattle.run_model.specs.Actions.{begun, home_of, is_aborted, is_begun, is_committed, is_ended, step_aborts, step_crashes}
use Rattle.run_model.specs.LocalHistories.{Stamped, carried, events_of, local_history, names_guardian, outcomes_below, outcomes_carried}
use Rattle.run_model.specs.LocalReadings.{LocalEvent, outcome_in, says_aborted, told_here}
use Rattle.run_model.specs.Refusals.{checks}
use Rattle.run_model.specs.Openings.{Opening}
use Rattle.run_model.specs.Runs.{IsRun}
use Rattle.run_model.specs.Telling.{step_tells, tells, told_since_crash}
use Rattle.run_model.specs.Visibility.{votes_yes}
use Rattle.run_laws.proofs.Accepted.{NoneApplies, checked}
use Rattle.run_laws.proofs.Begun.{begun_more}
use Rattle.run_laws.proofs.Ended.{committed_begun, not_both}
use Rattle.run_model.specs.declared.answer.Refusal.TheVariants as why
use Rattle.run_laws.proofs.Names.{same_name_true}

-- a name is in a list where it is put in
has_insert : (a b : Name) (names : List Name) → has_name (insert_name a names) b ≡ (same_name a b || has_name names b)
has_insert a b [] = refl
has_insert a b (c ∷ names) = place (same_name a c) refl (name_lt a c) (has_insert a b names)
  where
    turn : (x y z : Bool) → (x || (y || z)) ≡ (y || (x || z))
    turn true true z = refl
    turn true false z = refl
    turn false y z = refl

    same : (x y : Bool) → (x || y) ≡ (x || (x || y))
    same true y = refl
    same false y = refl

    place : (t : Bool) → same_name a c ≡ t → (u : Bool) → has_name (insert_name a names) b ≡ (same_name a b || has_name names b)
        → has_name (cond t (c ∷ names) (cond u (a ∷ c ∷ names) (c ∷ insert_name a names))) b ≡ (same_name a b || (same_name c b || has_name names b))
    place true e u h = same (same_name c b) (has_name names b) ∙ ap (λ x. same_name x b || (same_name c b || has_name names b)) (sym (same_name_true a c e))
    place false e true h = refl
    place false e false h = ap (λ t. same_name c b || t) h ∙ turn (same_name c b) (same_name a b) (has_name names b)

pub has_rising : (names : List Name) (b : Name) → has_name (rising_names names) b ≡ has_name names b
has_rising [] b = refl
has_rising (a ∷ names) b = has_insert a b (rising_names names) ∙ ap (λ t. same_name a b || t) (has_rising names b)

pub has_filter : (p : Name → Bool) (names : List Name) (b : Name) → has_name (filter p names) b ≡ (has_name names b && p b)
has_filter p [] b = refl
has_filter p (a ∷ names) b = of (p a) refl (same_name a b) refl (has_filter p names b)
  where
    of : (t : Bool) → p a ≡ t → (u : Bool) → same_name a b ≡ u → has_name (filter p names) b ≡ (has_name names b && p b)
        → has_name (cond t (a ∷ filter p names) (filter p names)) b ≡ ((same_name a b || has_name names b) && p b)
    of true e true f h =
        ap (λ x. x || has_name (filter p names) b) f
        ∙ sym (ap (λ x. (x || has_name names b) && p b) f ∙ ap p (sym (same_name_true a b f)) ∙ e)
    of true e false f h = ap (λ x. x || has_name (filter p names) b) f ∙ h ∙ sym (ap (λ x. (x || has_name names b) && p b) f)
    of false e true f h =
        h ∙ and_right (has_name names b) (p b) no ∙ sym (and_right (same_name a b || has_name names b) (p b) no)
      where
        no : p b ≡ false
        no = ap p (sym (same_name_true a b f)) ∙ e
    of false e false f h = h ∙ sym (ap (λ x. (x || has_name names b) && p b) f)

-- what a list of outcomes says
pub outcomes_say : (out : Name → Bool) (names : List Name) (b : Name)
    → outcome_in (map (λ a. (a, out a)) names) b ≡ cond (has_name names b) (Some (out b)) None
outcomes_say out [] b = refl
outcomes_say out (a ∷ names) b = of (same_name a b) refl (outcomes_say out names b)
  where
    of : (t : Bool) → same_name a b ≡ t → outcome_in (map (λ a. (a, out a)) names) b ≡ cond (has_name names b) (Some (out b)) None
        → cond (same_name a b) (Some (out a)) (outcome_in (map (λ a. (a, out a)) names) b)
        ≡ cond (same_name a b || has_name names b) (Some (out b)) None
    of true e h =
        ap (λ t. cond t (Some (out a)) (outcome_in (map (λ a. (a, out a)) names) b)) e
        ∙ ap (λ c. Some (out c)) (same_name_true a b e)
        ∙ sym (ap (λ t. cond (t || has_name names b) (Some (out b)) None) e)
    of false e h =
        ap (λ t. cond t (Some (out a)) (outcome_in (map (λ a. (a, out a)) names) b)) e ∙ h
        ∙ sym (ap (λ t. cond (t || has_name names b) (Some (out b)) None) e)

-- what has aborted was begun
pub aborted_begun : (opening : Opening) (past : List Event) (c : Name) → IsRun opening past → is_aborted c past ≡ true → is_begun c past ≡ true
aborted_begun opening [] c r h = absurd (false≢true h)
aborted_begun opening (e ∷ past) c r h =
    begun_more e past c (elim (or_cases _ _ h) [
      | inl k ↦ of e.step (checked opening e past r) k
      | inr k ↦ aborted_begun opening past c r.2 k
    ])
  where
    of : (step : Step) → NoneApplies (checks opening step past) → step_aborts step c ≡ true → is_begun c past ≡ true
    of (Abort b) f k = ap (λ d. is_begun d past) (sym (same_name_true b c k)) ∙ not-false _ (f why.NoAction)
    of _ f k = absurd (false≢true k)

-- what has ended was begun
pub ended_begun : (opening : Opening) (past : List Event) (b : Name) → IsRun opening past → is_ended b past ≡ true → is_begun b past ≡ true
ended_begun opening past b r h =
    elim (or_cases _ _ h) [ inl x ↦ committed_begun opening past b r x | inr x ↦ aborted_begun opening past b r x ]

-- a message brings just the outcomes that its event tells
pub outcomes_tell : (opening : Opening) (step : Step) (past : List Event) (here : List LocalEvent) (g : ℕ) (b : Name) → IsRun opening past
    → ((c : Name) → told_here g c here ≡ told_since_crash g c past)
    → outcome_in (outcomes_carried step g past here) b
    ≡ cond (step_tells step g b (told_since_crash g b past) (is_ended b past)) (Some (is_committed b past)) None
outcomes_tell opening (Tell h a) past here g b r told = of (h == g)
  where
    one : (t : Bool) → same_name a b ≡ t
        → cond (same_name a b) (Some (is_committed a past)) None ≡ cond (same_name a b) (Some (is_committed b past)) None
    one true e =
        ap (λ t. cond t (Some (is_committed a past)) None) e ∙ ap (λ c. Some (is_committed c past)) (same_name_true a b e)
        ∙ sym (ap (λ t. cond t (Some (is_committed b past)) None) e)
    one false e = ap (λ t. cond t (Some (is_committed a past)) None) e ∙ sym (ap (λ t. cond t (Some (is_committed b past)) None) e)

    of : (t : Bool) → outcome_in (cond t ((a, is_committed a past) ∷ []) []) b ≡ cond (t && same_name a b) (Some (is_committed b past)) None
    of true = one (same_name a b) refl
    of false = refl
outcomes_tell opening (Prepare h t) past here g b r told = of (h == g)
  where
    test : Name → Bool
    test c = is_proper_ancestor t c && (is_ended c past && not (told_here g c here))

    known : (has_name (begun past) b && (is_proper_ancestor t b && (is_ended b past && not (told_here g b here))))
        ≡ (is_proper_ancestor t b && (is_ended b past && not (told_since_crash g b past)))
    known = pick (is_begun b past) refl (is_proper_ancestor t b) (is_ended b past) refl
      where
        pick : (x : Bool) → is_begun b past ≡ x → (y z : Bool) → is_ended b past ≡ z
            → (x && (y && (z && not (told_here g b here)))) ≡ (y && (z && not (told_since_crash g b past)))
        pick true e y z f = ap (λ w. y && (z && not w)) (told b)
        pick false e y true f = absurd (true≢false (sym (ended_begun opening past b r f) ∙ e))
        pick false e true false f = refl
        pick false e false false f = refl

    of : (x : Bool) → outcome_in (cond x (outcomes_below t g past here) []) b
        ≡ cond (x && (is_proper_ancestor t b && (is_ended b past && not (told_since_crash g b past)))) (Some (is_committed b past)) None
    of false = refl
    of true =
        outcomes_say (λ c. is_committed c past) (rising_names (filter test (begun past))) b
        ∙ ap (λ x. cond x (Some (is_committed b past)) None)
        (has_rising (filter test (begun past)) b ∙ has_filter test (begun past) b ∙ known)
outcomes_tell opening _ past here g b r told = refl

-- who is told has ended
pub told_has_ended : (opening : Opening) (e : Event) (past : List Event) (g : ℕ) (b : Name) → IsRun opening (e ∷ past) → tells e past g b ≡ true
    → is_ended b past ≡ true
told_has_ended opening e past g b r k = of e.step (checked opening e past r) k
  where
    of : (step : Step) → NoneApplies (checks opening step past) → step_tells step g b (told_since_crash g b past) (is_ended b past) ≡ true
        → is_ended b past ≡ true
    of (Tell h a) f k =
        let p = and_parts (h == g) (same_name a b) k in
        ap (λ c. is_ended c past) (sym (same_name_true a b p.1)) ∙ not-false (is_ended a past) (f why.NotSo)
    of (Prepare h t) f k =
        let p = and_parts (h == g) (is_proper_ancestor t b && (is_ended b past && not (told_since_crash g b past))) k in
        let q = and_parts (is_proper_ancestor t b) (is_ended b past && not (told_since_crash g b past)) p.1 in
        (and_parts (is_ended b past) (not (told_since_crash g b past)) q.1).0
    of _ f k = absurd (false≢true k)

-- a message that brings an abort
pub aborts_told : (opening : Opening) (e : Event) (past : List Event) (here : List LocalEvent) (g : ℕ) (d : Name) → IsRun opening (e ∷ past)
    → ((c : Name) → told_here g c here ≡ told_since_crash g c past)
    → says_aborted (outcome_in (outcomes_carried e.step g past here) d) ≡ (tells e past g d && is_aborted d past)
aborts_told opening e past here g d r told =
    ap says_aborted (outcomes_tell opening e.step past here g d r.2 told) ∙ says (tells e past g d) (is_committed d past)
    ∙ aborted (tells e past g d) (is_committed d past) (is_aborted d past) refl refl refl
  where
    says : (t c : Bool) → says_aborted (cond t (Some c) None) ≡ (t && not c)
    says true c = refl
    says false c = refl

    aborted : (t c a : Bool) → tells e past g d ≡ t → is_committed d past ≡ c → is_aborted d past ≡ a → (t && not c) ≡ (t && a)
    aborted false c a x y z = refl
    aborted true true true x y z = absurd (not_both opening past d r.2 y z)
    aborted true true false x y z = refl
    aborted true false true x y z = refl
    aborted true false false x y z = absurd (elim (or_cases (is_committed d past) (is_aborted d past) (told_has_ended opening e past g d r x)) [
      | inl u ↦ true≢false (sym u ∙ y)
      | inr u ↦ true≢false (sym u ∙ z)
    ])

-- an event that does not name g tells it nothing, crashes it not and is no vote of it
pub unnamed_tells : (step : Step) (past : List Event) (g : ℕ) (b : Name) (told ended : Bool) → names_guardian step past g ≡ false
    → step_tells step g b told ended ≡ false
unnamed_tells (Tell h a) past g b told ended n = and_left (h == g) (same_name a b) n
unnamed_tells (Prepare h t) past g b told ended n =
    and_left (h == g) (is_proper_ancestor t b && (ended && not told)) (or_parts (home_of t past == g) (h == g) n).1
unnamed_tells _ past g b told ended n = refl

pub unnamed_crashes : (step : Step) (past : List Event) (g : ℕ) → names_guardian step past g ≡ false → step_crashes step g ≡ false
unnamed_crashes (Crash h) past g n = n
unnamed_crashes _ past g n = refl

pub unnamed_votes : (step : Step) (answer : Answer) (past : List Event) (g : ℕ) (t : Name) → names_guardian step past g ≡ false
    → votes_yes step answer g t ≡ false
unnamed_votes (Prepare h b) VoteYes past g t n = and_left (h == g) (same_name b t) (or_parts (home_of b past == g) (h == g) n).1
unnamed_votes _ _ past g t n = refl

-- an event as g keeps it
abbrev pub local_event : Opening → Stamped → List Stamped → ℕ → LocalEvent
local_event opening s run g = record {
  stamp = s.0;
  event = s.1;
  carried = carried opening s.1 g (events_of run) (λ h. local_history opening run h);
}

-- the two cases of a local history
pub history_named : (opening : Opening) (s : Stamped) (run : List Stamped) (g : ℕ) → names_guardian s.1.step (events_of run) g ≡ true
    → local_history opening (s ∷ run) g ≡ local_event opening s run g ∷ local_history opening run g
history_named opening s run g n =
    ap (λ t. cond t (local_event opening s run g ∷ local_history opening run g) (local_history opening run g)) n

pub history_unnamed : (opening : Opening) (s : Stamped) (run : List Stamped) (g : ℕ) → names_guardian s.1.step (events_of run) g ≡ false
    → local_history opening (s ∷ run) g ≡ local_history opening run g
history_unnamed opening s run g n =
    ap (λ t. cond t (local_event opening s run g ∷ local_history opening run g) (local_history opening run g)) n
