use Rattle.argus_c.proofs.Steps.{answers_read}
use Rattle.argus_c.proofs.calls.argus_c_op.Goals as goal

pub returns : goal.returns
returns c =
    answers_read c.operation-step.result c.args.handle.now c.make.new.self c.make.result c.operation-step.ensures.found
    c.operation-step.ensures.bad c.make.ensures
