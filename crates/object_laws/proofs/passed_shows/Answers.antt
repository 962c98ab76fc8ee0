use Rattle.object_laws.proofs.Passing.{passed_shows}
use Rattle.object_laws.proofs.passed_shows.Goals as goal

pub returns : goal.returns
returns c = passed_shows
