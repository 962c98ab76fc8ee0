use Rattle.restart_laws.proofs.Objects.{objects_open_in_type}
use Rattle.restart_laws.proofs.objects_open_in_type.Goals as goal

pub returns : goal.returns
returns c = objects_open_in_type
