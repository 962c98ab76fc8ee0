use Rattle.object_laws.proofs.Events.{crash_leaves_is}
use Rattle.object_laws.proofs.crash_leaves.Goals as goal

pub returns : goal.returns
returns c = crash_leaves_is
