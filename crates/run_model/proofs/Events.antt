-- An event of which code holds the step and the answer.
use Rattle.std.proofs.Common.{ap, sym, ◌≡◌}
use Rattle.run_model.specs.declared.answer.Answer.{Answer}
use Rattle.run_model.specs.declared.history.Event.{Event}
use Rattle.run_model.specs.declared.step.Step.{Step}

module _ {step : Step} {answer : Answer} {e : Event} (is : record { step = step; answer = answer } ≡ e) where
  pub step_is : e.step ≡ step
  step_is = ap (λ k. k.step) (sym is)

  pub answer_is : e.answer ≡ answer
  answer_is = ap (λ k. k.answer) (sym is)
