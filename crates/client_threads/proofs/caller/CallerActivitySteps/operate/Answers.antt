use Rattle.std.proofs.Common.{ap}
use Rattle.run_model.specs.declared.step.Step.TheVariants.{Op}
use Rattle.client_threads.proofs.Keeping.{step_after}
use Rattle.client_threads.proofs.caller.CallerActivitySteps.operate.Goals as goal

pub returns-clause-after : goal.returns-clause-after
returns-clause-after g c =
    step_after c.args.self.now.calls.now.opening.now c.keep.new.self.calls.now.opening.now c.args.self.now.receipts c.keep.new.self.receipts
    (Op c.args.action.now c.args.object c.args.operation) c.op_wait-answered.result c.keep.result (ap (λ k. k.opening.now) c.keep.ensures.calls) c.op_wait-answered.ensures c.keep.ensures.kept
