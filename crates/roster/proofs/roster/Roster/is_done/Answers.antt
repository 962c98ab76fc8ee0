use Rattle.std.proofs.Common.{None, Some, ap, sym, ◌||◌, ◌∙◌}
use Rattle.roster.proofs.Readings.{done}
use Rattle.roster.specs.Tables.{table}
use Rattle.roster.proofs.roster.Roster.is_done.Goals as goal

pub returns-then-row : goal.returns-then-row
returns-then-row c = λ g here is.
    let row = c.in-Some.row.now in
    c.if-row.true ∙ sym (ap (λ b. b || row.closed) c.if-row.true) ∙ done g here (table c.args.places.now c.args.self.now) is c.args.action.now (Some row) c.in-Some.ensures

pub returns-else-row : goal.returns-else-row
returns-else-row c = λ g here is.
    let row = c.in-Some.row.now in
    sym (ap (λ b. b || row.closed) c.if-row.false) ∙ done g here (table c.args.places.now c.args.self.now) is c.args.action.now (Some row) c.in-Some.ensures

pub returns-in-None : goal.returns-in-None
returns-in-None c = λ g here is. done g here (table c.args.places.now c.args.self.now) is c.args.action.now None c.in-None.ensures
