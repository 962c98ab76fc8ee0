use Rattle.object_laws.proofs.Restored.{restored_shows}
use Rattle.object_laws.proofs.restored_shows.Goals as goal

pub returns : goal.returns
returns c = restored_shows
