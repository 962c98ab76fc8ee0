use Rattle.sql_store.proofs.Layouts.{absent}
use Rattle.sql_store.proofs.layout.absence.Goals as goal

pub returns-in-SqlInputError-clause-absence : goal.returns-in-SqlInputError-clause-absence
returns-in-SqlInputError-clause-absence c = absent c.args.error c.in-SqlInputError.fault c.absence_by.result c.in-SqlInputError.is c.absence_by.ensures.absence
