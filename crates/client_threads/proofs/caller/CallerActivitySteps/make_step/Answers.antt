use Rattle.std.proofs.Common.{ap}
use Rattle.client_threads.proofs.Keeping.{step_after}
use Rattle.client_threads.proofs.caller.CallerActivitySteps.make_step.Goals as goal

pub returns-clause-after : goal.returns-clause-after
returns-clause-after g c =
    step_after c.args.self.now.calls.now.opening.now c.keep.new.self.calls.now.opening.now c.args.self.now.receipts c.keep.new.self.receipts
    c.args.step.now c.step-answered.result c.keep.result (ap (λ k. k.opening.now) c.keep.ensures.calls) c.step-answered.ensures c.keep.ensures.kept
