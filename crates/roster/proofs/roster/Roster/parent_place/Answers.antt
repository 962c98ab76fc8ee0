use Rattle.std.proofs.Common.{ap, sym, ◌∙◌}
use Rattle.roster.proofs.Planning.{none_above, some_above}
use Rattle.roster.specs.Tables.{placed, table}
use Rattle.roster.proofs.roster.Roster.parent_place.Goals as goal

pub returns-in-Some : goal.returns-in-Some
returns-in-Some c =
    c.place.ensures
    ∙ sym (ap (placed (table c.args.places.now c.args.self.now))
    (some_above c.args.action.now c.in_ok-parent.parent c.in-Some.parent c.in_ok-parent.ensures.top c.in_ok-parent.ensures.parent c.in-Some.is))

pub returns-in-None : goal.returns-in-None
returns-in-None c =
    sym (ap (placed (table c.args.places.now c.args.self.now)) (none_above c.args.action.now c.in_ok-parent.parent c.in_ok-parent.ensures.top c.in-None.is))
