use Rattle.std.proofs.Common.{rules}
use Rattle.run_model.proofs.Words.{no_name}
use Rattle.run_model.proofs.reading.named.Goals as goal

pub returns-else-is-17 : goal.returns-else-is-17
returns-else-is-17 c = search (rules, no_name)
