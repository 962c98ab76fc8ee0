use Rattle.argus_c.proofs.Steps.{answers_this}
use Rattle.argus_c.proofs.calls.argus_c_crash.Goals as goal

pub returns : goal.returns
returns c = answers_this _ c.args.handle.now c.make.new.self c.make.result c.make.ensures
