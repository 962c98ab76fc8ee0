-- What a guardian was told it reads in its own history.
use Rattle.std.proofs.Common.{Bool, List, None, Some, [], ap, ap₂, cond, false, inl, inr, is_some, not, refl, sym, true, ℕ, ◌&&◌, ◌∙◌, ◌∷◌, ◌≡◌, ◌||◌}
use Rattle.std.proofs.lemmas.Bool.{false≢true, or_cases, or_left, or_right, true≢false}
use Rattle.action_names.specs.Names.{Name}
use Rattle.run_model.specs.declared.history.Event.{Event}
use Rattle.run_model.specs.declared.step.Step.{Step}
use Rattle.run_model.specs.declared.step.Step.TheVariants.{Commit, Decide}
use Rattle.run_model.specs.Actions.{is_aborted, is_committed, is_ended, step_aborts, step_commits, step_crashes}
use Rattle.run_model.specs.LocalHistories.{events_of, local_history, names_guardian}
use Rattle.run_model.specs.LocalReadings.{says_committed, told_committed_here, told_here}
use Rattle.run_model.specs.Openings.{Opening}
use Rattle.run_model.specs.Runs.{IsRun}
use Rattle.run_model.specs.Telling.{step_tells, tells, told_committed, told_since_crash, was_told}
use Rattle.run_laws.proofs.Ended.{commits_unended}
use Rattle.local_laws.specs.Laws.{ToldSame, ToldCommittedSame}
use Rattle.local_laws.proofs.Outcomes.{history_named, history_unnamed, outcomes_tell, told_has_ended, unnamed_crashes, unnamed_tells}

is_some_cond : (t c : Bool) → is_some (cond t (Some c) None) ≡ t
is_some_cond true c = refl
is_some_cond false c = refl

-- since the last crash
pub told_same : ToldSame
told_same opening [] g b r = refl
told_same opening (s ∷ run) g b r = of (names_guardian s.1.step (events_of run) g) refl (λ c. told_same opening run g c r.2)
  where
    past : List Event
    past = events_of run

    down : Bool
    down = step_crashes s.1.step g

    of : (t : Bool) → names_guardian s.1.step past g ≡ t → ((c : Name) → told_here g c (local_history opening run g) ≡ told_since_crash g c past)
        → told_here g b (local_history opening (s ∷ run) g) ≡ told_since_crash g b (s.1 ∷ past)
    of true n ih =
        ap (λ l. told_here g b l) (history_named opening s run g n)
        ∙ ap₂ (λ t o. not down && (t || is_some o)) (ih b)
        (outcomes_tell opening s.1.step past (local_history opening run g) g b r.2 ih)
        ∙ ap (λ t. not down && (told_since_crash g b past || t)) (is_some_cond (tells s.1 past g b) (is_committed b past))
    of false n ih =
        ap (λ l. told_here g b l) (history_unnamed opening s run g n) ∙ ih b
        ∙ sym (ap₂ (λ c t. not c && (told_since_crash g b past || t)) (unnamed_crashes s.1.step past g n)
        (unnamed_tells s.1.step past g b (told_since_crash g b past) (is_ended b past) n) ∙ whole (told_since_crash g b past))
      where
        whole : (t : Bool) → (t || false) ≡ t
        whole true = refl
        whole false = refl

-- who was told has ended
ended_more : (e : Event) (past : List Event) (b : Name) → is_ended b past ≡ true → is_ended b (e ∷ past) ≡ true
ended_more e past b h = elim (or_cases (is_committed b past) (is_aborted b past) h) [
  | inl x ↦ or_left (is_committed b (e ∷ past)) (is_aborted b (e ∷ past)) (or_right (step_commits e.step b) (is_committed b past) x)
  | inr x ↦ or_right (is_committed b (e ∷ past)) (is_aborted b (e ∷ past)) (or_right (step_aborts e.step b) (is_aborted b past) x)
]

pub was_told_ended : (opening : Opening) (past : List Event) (g : ℕ) (b : Name) → IsRun opening past → was_told g b past ≡ true
    → is_ended b past ≡ true
was_told_ended opening [] g b r h = absurd (false≢true h)
was_told_ended opening (e ∷ past) g b r h = ended_more e past b (elim (or_cases (was_told g b past) (tells e past g b) h) [
  | inl x ↦ was_told_ended opening past g b r.2 x
  | inr x ↦ told_has_ended opening e past g b r x
])

-- a commit tells nobody
pub commit_tells_nothing : (step : Step) (g : ℕ) (b : Name) (told ended : Bool) → step_commits step b ≡ true → step_tells step g b told ended ≡ false
commit_tells_nothing (Commit c) g b told ended h = refl
commit_tells_nothing (Decide c) g b told ended h = refl
commit_tells_nothing _ g b told ended h = absurd (false≢true h)

-- that an action committed
pub told_committed_same : ToldCommittedSame
told_committed_same opening [] g b r = refl
told_committed_same opening (s ∷ run) g b r = of (names_guardian s.1.step (events_of run) g) refl (told_committed_same opening run g b r.2)
  where
    past : List Event
    past = events_of run

    same : (k : Bool) → (k || k) ≡ k
    same true = refl
    same false = refl

    whole : (k : Bool) → (k || false) ≡ k
    whole true = refl
    whole false = refl

    next : (c t w k : Bool) → step_commits s.1.step b ≡ c → tells s.1 past g b ≡ t → was_told g b past ≡ w → is_committed b past ≡ k
        → ((t && k) || (w && k)) ≡ ((w || t) && (c || k))
    next false true true k x y z u = same k
    next false true false k x y z u = whole k
    next false false true k x y z u = refl
    next false false false k x y z u = refl
    next true true w k x y z u =
        absurd (true≢false (sym y ∙ commit_tells_nothing s.1.step g b (told_since_crash g b past) (is_ended b past) x))
    next true false false k x y z u = refl
    next true false true k x y z u = absurd (true≢false (sym (was_told_ended opening past g b r.2 z) ∙ commits_unended opening s.1 past b r x))

    flat : ((tells s.1 past g b && is_committed b past) || told_committed g b past) ≡ told_committed g b (s.1 ∷ past)
    flat = next (step_commits s.1.step b) (tells s.1 past g b) (was_told g b past) (is_committed b past) refl refl refl refl

    says : (t k : Bool) → says_committed (cond t (Some k) None) ≡ (t && k)
    says true k = refl
    says false k = refl

    of : (t : Bool) → names_guardian s.1.step past g ≡ t → told_committed_here b (local_history opening run g) ≡ told_committed g b past
        → told_committed_here b (local_history opening (s ∷ run) g) ≡ told_committed g b (s.1 ∷ past)
    of true n ih =
        ap (λ l. told_committed_here b l) (history_named opening s run g n)
        ∙ ap₂ (λ o t. says_committed o || t)
        (outcomes_tell opening s.1.step past (local_history opening run g) g b r.2 (λ c. told_same opening run g c r.2))
        ih
        ∙ ap (λ t. t || told_committed g b past) (says (tells s.1 past g b) (is_committed b past))
        ∙ flat
    of false n ih =
        ap (λ l. told_committed_here b l) (history_unnamed opening s run g n) ∙ ih
        ∙ sym (ap (λ t. (t && is_committed b past) || told_committed g b past)
        (unnamed_tells s.1.step past g b (told_since_crash g b past) (is_ended b past) n)) ∙ flat
