use Rattle.argus_c.proofs.Steps.{answers_read, no_step}
use Rattle.argus_c.proofs.calls.argus_c_abort.Goals as goal

pub returns : goal.returns
returns c =
    answers_read c.abort-step.result c.args.handle.now c.make.new.self c.make.result c.abort-step.ensures.found
    (λ e. no_step c.args.action.now _ (c.abort-step.ensures.bad e)) c.make.ensures
