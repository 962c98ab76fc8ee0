use Rattle.object_laws.proofs.Leaving.{crashed_shows}
use Rattle.object_laws.proofs.crashed_shows.Goals as goal

pub returns : goal.returns
returns c = crashed_shows
