use Rattle.sql_store.proofs.Layouts.{other_columns}
use Rattle.sql_store.proofs.layout.absence_by.Goals as goal

pub returns-in_default-clause-absence : goal.returns-in_default-clause-absence
returns-in_default-clause-absence c = other_columns c.args.fault c.in_default.not-NoSuchTable
