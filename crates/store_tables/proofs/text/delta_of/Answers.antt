use Rattle.std.proofs.Common.{rules}
use Rattle.serde_json.specs.View.{view}
use Rattle.store_tables.proofs.text.delta_of.Goals as goal

pub returns-clause-memory : goal.returns-clause-memory
returns-clause-memory c = λ _. (view c.in_ok-name.document.now, search rules)
