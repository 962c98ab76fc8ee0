use Rattle.argus_c.proofs.Steps.{answers_read, no_step}
use Rattle.argus_c.proofs.calls.argus_c_nest.Goals as goal

pub returns : goal.returns
returns c =
    answers_read c.nested_top-step.result c.args.handle.now c.make.new.self c.make.result c.nested_top-step.ensures.found
    (λ e. no_step c.args.action.now _ (c.nested_top-step.ensures.bad e)) c.make.ensures
