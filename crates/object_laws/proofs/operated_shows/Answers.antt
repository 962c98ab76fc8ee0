use Rattle.object_laws.proofs.Operated.{operated_shows}
use Rattle.object_laws.proofs.operated_shows.Goals as goal

pub returns : goal.returns
returns c = operated_shows
