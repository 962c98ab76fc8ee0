use Rattle.argus_c.proofs.Steps.{answers_read, no_step}
use Rattle.argus_c.proofs.calls.argus_c_close_top.Goals as goal

pub returns : goal.returns
returns c =
    answers_read c.close-step.result c.args.handle.now c.make.new.self c.make.result c.close-step.ensures.found
    (λ e. no_step c.args.top.now _ (c.close-step.ensures.bad e)) c.make.ensures
