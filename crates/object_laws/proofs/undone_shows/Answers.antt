use Rattle.object_laws.proofs.Leaving.{undone_shows}
use Rattle.object_laws.proofs.undone_shows.Goals as goal

pub returns : goal.returns
returns c = undone_shows
