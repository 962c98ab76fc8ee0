-- Runs of which a caller's own events are a part.
use Rattle.std.proofs.Common.{Bool, List, false, inl, inr, sym, true, ◌∙◌, ◌∷◌, ◌≡◌}
use mathlib.Core.Bool.{Bool-set}
use Rattle.std.proofs.Math.Logic.{∥∥₁_elim}
use Rattle.std.proofs.lemmas.Bool.{false_from_ne_true, or_cases, or_left, or_right}
use Rattle.std.specs.List.{list_any}
use Rattle.std.specs.Prelude.{IsTrue}
use Rattle.action_names.specs.Names.{Name}
use Rattle.run_model.specs.declared.answer.Answer.{Answer}
use Rattle.run_model.specs.declared.history.Event.{Event}
use Rattle.run_model.specs.declared.step.Step.{Step}
use Rattle.run_model.specs.Actions.{begins, begun, is_aborted, is_begun, is_committed, is_ended, names_begun, step_aborts, step_commits}
use Rattle.run_model.specs.Openings.{opening_in}
use Rattle.run_model.specs.Runs.{IsRun, is_accepted}
use Rattle.run_laws.proofs.Begun.{begun_once}
use Rattle.run_laws.proofs.Ended.{committed_begun}
use Rattle.run_laws.proofs.Names.{clash, has_name_append}
use Rattle.stepping.specs.Beside.{IsAnsweredTo, IsPartOf, OwnRun, Sees, beside, both, none}

-- what an event of a part did was done
pub any_in_part : (p : Event → Bool) {own seen : List Event} → IsPartOf own seen → list_any p own ≡ true → list_any p seen ≡ true
any_in_part p none h = h
any_in_part p (both e {own = own} {seen = seen} part) h = elim (or_cases (p e) (list_any p own) h) [
  | inl k ↦ or_left (p e) (list_any p seen) k
  | inr k ↦ or_right (p e) (list_any p seen) (any_in_part p part k)
]
any_in_part p (beside e {seen = seen} part) h = or_right (p e) (list_any p seen) (any_in_part p part h)

-- what a part began was begun
pub begun_in_part : (a : Name) {own seen : List Event} → IsPartOf own seen → is_begun a own ≡ true → is_begun a seen ≡ true
begun_in_part a none h = h
begun_in_part a (both e {own = own} {seen = seen} part) h =
    has_name_append (names_begun e.answer) (begun seen) a
    ∙ elim (or_cases (begins e a) (is_begun a own) (sym (has_name_append (names_begun e.answer) (begun own) a) ∙ h)) [
      | inl k ↦ or_left (begins e a) (is_begun a seen) k
      | inr k ↦ or_right (begins e a) (is_begun a seen) (begun_in_part a part k)
    ]
begun_in_part a (beside e {seen = seen} part) h =
    has_name_append (names_begun e.answer) (begun seen) a ∙ or_right (begins e a) (is_begun a seen) (begun_in_part a part h)

module _ {own seen : List Event} (part : ∥ IsPartOf own seen ∥₁) where
  pub begun_seen : (a : Name) → is_begun a own ≡ true → is_begun a seen ≡ true
  begun_seen a h = ∥∥₁_elim part (Bool-set (is_begun a seen) true) (λ p. begun_in_part a p h)

  committed_seen : (a : Name) → is_committed a own ≡ true → is_committed a seen ≡ true
  committed_seen a h =
      ∥∥₁_elim part (Bool-set (is_committed a seen) true) (λ p. any_in_part (λ e. step_commits e.step a) p h)

  aborted_seen : (a : Name) → is_aborted a own ≡ true → is_aborted a seen ≡ true
  aborted_seen a h =
      ∥∥₁_elim part (Bool-set (is_aborted a seen) true) (λ p. any_in_part (λ e. step_aborts e.step a) p h)

  -- what ended in a part has ended
  pub ended_seen : (a : Name) → is_ended a own ≡ true → is_ended a seen ≡ true
  ended_seen a h = elim (or_cases (is_committed a own) (is_aborted a own) h) [
    | inl k ↦ or_left (is_committed a seen) (is_aborted a seen) (committed_seen a k)
    | inr k ↦ or_right (is_committed a seen) (is_aborted a seen) (aborted_seen a k)
  ]

module _ {sees : Sees} (own : OwnRun) (step : Step) (answer : Answer) (given : IsAnsweredTo sees own step answer)
    (accepted : IsTrue (is_accepted answer)) where
  -- the run once the step has happened
  run_then : IsRun (opening_in own.lists) (record { step = step; answer = answer } ∷ given.seen)
  run_then = (given.answered, accepted, given.run)

  -- what a step began is new to its caller
  pub begun_is_new : (a : Name) → begins (record { step = step; answer = answer }) a ≡ true → is_begun a own.past ≡ false
  begun_is_new a h =
      false_from_ne_true (is_begun a own.past) (λ k.
      clash h
      (begun_once (opening_in own.lists) (record { step = step; answer = answer }) given.seen a run_then
      (begun_seen given.part a k)))

  -- so its caller has not committed it
  pub begun_is_uncommitted : (a : Name) → begins (record { step = step; answer = answer }) a ≡ true → is_committed a own.past ≡ false
  begun_is_uncommitted a h =
      false_from_ne_true (is_committed a own.past) (λ k.
      clash h
      (begun_once (opening_in own.lists) (record { step = step; answer = answer }) given.seen a run_then
      (committed_begun (opening_in own.lists) given.seen a given.run (committed_seen given.part a k))))
