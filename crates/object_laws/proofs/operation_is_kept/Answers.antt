use Rattle.object_laws.proofs.Events.{operation_is_kept_is}
use Rattle.object_laws.proofs.operation_is_kept.Goals as goal

pub returns : goal.returns
returns c = operation_is_kept_is
