use Rattle.local_laws.proofs.NoLocalRuns.{vote_ignores_crash}
use Rattle.local_laws.proofs.vote_ignores_crash.Goals as goal

pub returns : goal.returns
returns c = vote_ignores_crash
