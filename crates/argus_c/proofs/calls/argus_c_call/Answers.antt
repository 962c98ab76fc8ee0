use Rattle.argus_c.proofs.Steps.{answers_read, no_step}
use Rattle.argus_c.proofs.calls.argus_c_call.Goals as goal

pub returns : goal.returns
returns c =
    answers_read c.call-step.result c.args.handle.now c.make.new.self c.make.result c.call-step.ensures.found
    (λ e. no_step c.args.action.now _ (c.call-step.ensures.bad e)) c.make.ensures
