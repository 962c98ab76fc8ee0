use Rattle.std.proofs.Common.{IfOk, subst, ◌≡◌}
use Rattle.run_model.specs.declared.step.Step.TheVariants.{Op}
use Rattle.stepping.specs.Beside.{alone_in, own_after}
use Rattle.stepping.proofs.makes_own.AnyMakesOwnSteps.operate.Goals as goal

pub returns-clause-after : goal.returns-clause-after
returns-clause-after g c =
    subst (λ n. IfOk c.make_step.result (λ answer. alone_in (g.W.MakesSteps.run c.make_step.new.self)
    ≡ own_after (alone_in (g.W.MakesSteps.run c.args.self.now)) (Op n c.args.object c.args.operation) answer)) c.in_ok-copy.ensures.ok.1
    c.make_step.ensures.after
