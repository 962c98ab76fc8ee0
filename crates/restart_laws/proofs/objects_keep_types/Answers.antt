use Rattle.restart_laws.proofs.Objects.{objects_keep_types}
use Rattle.restart_laws.proofs.objects_keep_types.Goals as goal

pub returns : goal.returns
returns c = objects_keep_types
