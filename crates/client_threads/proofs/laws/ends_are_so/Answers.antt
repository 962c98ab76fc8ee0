use Rattle.client_threads.proofs.Closing.{ends_so}
use Rattle.client_threads.proofs.laws.ends_are_so.Goals as goal

pub returns : goal.returns
returns g = ends_so
