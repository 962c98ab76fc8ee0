use Rattle.argus_c.proofs.Steps.{answers_read, no_step}
use Rattle.argus_c.proofs.calls.argus_c_tell.Goals as goal

pub returns : goal.returns
returns c =
    answers_read c.tell-step.result c.args.handle.now c.make.new.self c.make.result c.tell-step.ensures.found
    (λ e. no_step c.args.action.now _ (c.tell-step.ensures.bad e)) c.make.ensures
