use Rattle.std.proofs.Common.{None, Some}
use Rattle.roster.proofs.Readings.{busy}
use Rattle.roster.specs.Tables.{table}
use Rattle.roster.proofs.roster.Roster.is_busy.Goals as goal

pub returns-in-Some : goal.returns-in-Some
returns-in-Some c = λ g here is was. busy g here (table c.args.places.now c.args.self.now) is c.args.action.now (Some c.in-Some.row.now) c.in-Some.ensures was

pub returns-in-None : goal.returns-in-None
returns-in-None c = λ g here is was. busy g here (table c.args.places.now c.args.self.now) is c.args.action.now None c.in-None.ensures was
