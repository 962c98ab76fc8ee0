use Rattle.stepping.specs.Beside.{alone_in}
use Rattle.stepping.proofs.Beside.{all_after, all_answered, all_same}
use Rattle.stepping.proofs.makes_own.AnyMakesOwnSteps.make_step.Goals as goal

pub returns-clause-answered : goal.returns-clause-answered
returns-clause-answered g c =
    all_answered (alone_in (g.W.MakesSteps.run c.args.self.now)) c.args.step.now c.step.result c.opening.ensures.is_run c.step.ensures.answer

pub returns-clause-after : goal.returns-clause-after
returns-clause-after g c =
    all_after (g.W.MakesSteps.run c.args.self.now) (g.W.MakesSteps.run c.step.new.self) c.args.step.now c.step.result c.step.ensures.after

pub returns-clause-err : goal.returns-clause-err
returns-clause-err g c = all_same (g.W.MakesSteps.run c.args.self.now) (g.W.MakesSteps.run c.step.new.self) c.step.result c.step.ensures.err
