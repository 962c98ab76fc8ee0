-- What a step is answered, by what is seen of the run.
use Rattle.std.proofs.Common.{Err, IfOk, List, None, Ok, Option, Result, subst, sym, ◌≡◌}
use Rattle.run_model.specs.declared.history.Event.{Event}
use Rattle.run_model.specs.declared.step.Step.{Step}
use Rattle.run_model.specs.Openings.{Opening}
use Rattle.locked_run.specs.Acting.{IsAnswered}
use Rattle.locked_run.specs.Behind.{GoesOnFrom}
use Rattle.locked_run.specs.declared.shared.Answered as under_locks
use Rattle.runtime.specs.Answering.{IsAnsweredFrom}
use Rattle.runtime.specs.declared.answered.Answered.{Answered}

module _ {K : Type 0} (opening : Opening) (step : Step) where
  -- The answer of a step under locks comes with what was seen after it.
  pub seen_after : (earlier : Option (List Event)) (given : under_locks.Answered K) (a : Answered K) (seen now : List Event)
      → a ≡ record { answer = given.answer; receipt = given.receipt; seen = seen } → seen ≡ now
      → (at : IsAnswered opening step given.answer given.receipt now) → GoesOnFrom earlier at.past → IsAnsweredFrom opening earlier step a.answer a.receipt a.seen
  seen_after earlier given a seen now made same at behind =
      subst (λ (x : Answered K). IsAnsweredFrom opening earlier step x.answer x.receipt x.seen) (sym made)
      (subst (λ s. IsAnsweredFrom opening earlier step given.answer given.receipt s) (sym same) (at, behind))

  -- Behind nothing, an answer is that of the step.
  pub behind_none : {E : Type 0} (result : Result (Answered K) E) → IfOk result (λ a. IsAnsweredFrom opening None step a.answer a.receipt a.seen)
      → IfOk result (λ a. IsAnswered opening step a.answer a.receipt a.seen)
  behind_none (Ok a) given = given.0
  behind_none (Err e) given = tt

  pub with_none : {E : Type 0} (result : Result (Answered K) E) → IfOk result (λ a. IsAnswered opening step a.answer a.receipt a.seen)
      → IfOk result (λ a. IsAnsweredFrom opening None step a.answer a.receipt a.seen)
  with_none (Ok a) given = (given, tt)
  with_none (Err e) given = tt
