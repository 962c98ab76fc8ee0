use Rattle.std.proofs.Common.{sym, ◌∙◌}
use Rattle.store_tables.proofs.Items.{meta_index}
use Rattle.store_tables.proofs.known.is_meta_index.Goals as goal

pub returns-clause-is : goal.returns-clause-is
returns-clause-is c is = c.is_index.ensures.is is ∙ sym meta_index

pub returns-clause-found : goal.returns-clause-found
returns-clause-found c known = c.is_index.ensures.found (known ∙ meta_index)
