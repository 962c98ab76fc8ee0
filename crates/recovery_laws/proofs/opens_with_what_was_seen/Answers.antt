use Rattle.recovery_laws.proofs.Opened.{opens_with_what_was_seen}
use Rattle.recovery_laws.proofs.opens_with_what_was_seen.Goals as goal

pub returns : goal.returns
returns c = opens_with_what_was_seen
