use Rattle.run_model.specs.declared.step.Step.TheVariants as steps
use Rattle.service.specs.Calling.{IsReply}
use Rattle.service.proofs.Concluded.{call_works, reply_quiet}
use Rattle.service.proofs.Going.{prefix_self}
use Rattle.service.proofs.subactions.operate_in.Goals as goal

pub returns-clause-works : goal.returns-clause-works
returns-clause-works g c =
    call_works g.W.MakesOwnSteps.run g.W.MakesOwnSteps.sees g.W.MakesOwnSteps.leaves c.args.at.now.action (steps.Op c.args.at.now.action c.args.object c.args.operation) IsReply
    c.args.service.now.world c.operate.new.self.world c.operate.result c.args.at.now.left (prefix_self c.args.at.now.action) reply_quiet
    c.operate.ensures.call
