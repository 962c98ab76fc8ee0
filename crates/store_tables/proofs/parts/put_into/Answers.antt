use Rattle.store_tables.proofs.Read.{none_if, takes_one}
use Rattle.store_tables.proofs.parts.put_into.Goals as goal

pub returns-clause-takes : goal.returns-clause-takes
returns-clause-takes c = takes_one _ _ _ _ _ c.in_ok-replaced.ensures.old (none_if _ c.if-is_some.ensures) c.in_ok-replaced.ensures.updates.0 c.in_ok-replaced.ensures.ordered
