use Rattle.argus_c.proofs.Steps.{answers_read}
use Rattle.argus_c.proofs.argus_c_step.Goals as goal

pub returns : goal.returns
returns c =
    answers_read c.step_of_line-step.result c.args.handle.now c.make.new.self c.make.result c.step_of_line-step.ensures.found
    c.step_of_line-step.ensures.bad c.make.ensures
