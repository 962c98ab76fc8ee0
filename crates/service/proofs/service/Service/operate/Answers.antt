use Rattle.std.proofs.Common.{refl}
use Rattle.run_model.specs.declared.step.Step.TheVariants as steps
use Rattle.service.specs.Calling.{IsReply}
use Rattle.service.proofs.Shapes.{call_fails, call_waits, fits, shown, taken_call}
use Rattle.service.proofs.service.Service.operate.Goals as goal

pub reply-requires : goal.reply-requires
reply-requires g c =
    fits _ _ _ _ _ _ _
    (taken_call g.W.MakesOwnSteps.run g.W.MakesOwnSteps.sees g.W.MakesOwnSteps.leaves (steps.Op c.args.action.now c.args.object c.args.operation) c.args.self.now.world
    c.operate.new.self c.operate.result _ c.in_ok-taken.ensures c.operate.ensures.answered c.operate.ensures.after c.operate.ensures.err
    c.operate.ensures.stores)

pub returns-clause-call : goal.returns-clause-call
returns-clause-call g c =
    shown _ _ _ _ _ IsReply _ _ _ _ refl
    (taken_call g.W.MakesOwnSteps.run g.W.MakesOwnSteps.sees g.W.MakesOwnSteps.leaves (steps.Op c.args.action.now c.args.object c.args.operation) c.args.self.now.world
    c.operate.new.self c.operate.result _ c.in_ok-taken.ensures c.operate.ensures.answered c.operate.ensures.after c.operate.ensures.err
    c.operate.ensures.stores) c.reply.ensures

pub returns-in_err-taken-clause-call : goal.returns-in_err-taken-clause-call
returns-in_err-taken-clause-call g c =
    call_fails g.W.MakesOwnSteps.run g.W.MakesOwnSteps.sees g.W.MakesOwnSteps.leaves (steps.Op c.args.action.now c.args.object c.args.operation) IsReply
    c.args.self.now.world c.operate.new.self c.from_residual.result c.in_err-taken.field-0.0 c.from_residual.ensures.1
    (taken_call g.W.MakesOwnSteps.run g.W.MakesOwnSteps.sees g.W.MakesOwnSteps.leaves (steps.Op c.args.action.now c.args.object c.args.operation) c.args.self.now.world
    c.operate.new.self c.operate.result _ c.in_err-taken.ensures c.operate.ensures.answered c.operate.ensures.after c.operate.ensures.err
    c.operate.ensures.stores)

pub returns-in_err-taken-clause-waits : goal.returns-in_err-taken-clause-waits
returns-in_err-taken-clause-waits g c =
    call_waits g.W.MakesOwnSteps.gives_up c.from_residual.result c.in_err-taken.field-0.0 c.from_residual.ensures.1 c.operate.result
    c.in_err-taken.ensures c.operate.ensures.waits
