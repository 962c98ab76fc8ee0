use Rattle.argus_c.proofs.Steps.{answers_read, no_step}
use Rattle.argus_c.proofs.calls.argus_c_commit.Goals as goal

pub returns : goal.returns
returns c =
    answers_read c.commit-step.result c.args.handle.now c.make.new.self c.make.result c.commit-step.ensures.found
    (λ e. no_step c.args.action.now _ (c.commit-step.ensures.bad e)) c.make.ensures
