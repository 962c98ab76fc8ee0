use Rattle.std.proofs.Common.{IfOk, subst, ◌≡◌}
use Rattle.run_model.specs.declared.step.Step.TheVariants.{Op}
use Rattle.run_model.specs.Runs.{world_after}
use Rattle.activities.specs.Serial.{asked}
use Rattle.activities.specs.Failing.{StepFails}
use Rattle.activities.proofs.Failing.{is_cause, step_fails}
use Rattle.activities.proofs.Making.{if_ok_with}
use Rattle.activities.proofs.activity_steps.AnyActivitySteps.operate.Goals as goal

pub returns-clause-alone : goal.returns-clause-alone
returns-clause-alone g c =
    if_ok_with (λ answer. answer ≡ asked (Op c.args.action.now c.args.object c.args.operation) (g.W.MakesSteps.run c.args.self.now)) c.step.result
    (λ alone. subst (λ n. IfOk c.step.result (λ answer. answer ≡ asked (Op n c.args.object c.args.operation) (g.W.MakesSteps.run c.args.self.now)))
    c.in_ok-copy.ensures.ok.1 c.step.ensures.answer)

pub returns-clause-after : goal.returns-clause-after
returns-clause-after g c =
    subst (λ n. IfOk c.step.result (λ answer. g.W.MakesSteps.run c.step.new.self
    ≡ world_after (g.W.MakesSteps.run c.args.self.now) (Op n c.args.object c.args.operation) answer)) c.in_ok-copy.ensures.ok.1 c.step.ensures.after

pub returns-clause-failed : goal.returns-clause-failed
returns-clause-failed g c =
    is_cause (StepFails g.W.MakesSteps.leaves) c.step.result
    (step_fails g.W.MakesSteps.leaves (Op c.in_ok-copy.field-0 c.args.object c.args.operation) c.args.self.now c.step.new.self c.step.result c.step.ensures.stores)
