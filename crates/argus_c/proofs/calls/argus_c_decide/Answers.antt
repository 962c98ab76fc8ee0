use Rattle.argus_c.proofs.Steps.{answers_read, no_step}
use Rattle.argus_c.proofs.calls.argus_c_decide.Goals as goal

pub returns : goal.returns
returns c =
    answers_read c.decide-step.result c.args.handle.now c.make.new.self c.make.result c.decide-step.ensures.found
    (λ e. no_step c.args.top.now _ (c.decide-step.ensures.bad e)) c.make.ensures
