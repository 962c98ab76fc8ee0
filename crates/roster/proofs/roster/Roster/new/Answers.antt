use Rattle.std.proofs.Common.{[], ap, false, length, sym, ◌∙◌}
use Rattle.places.specs.Rows as by_place
use Rattle.roster.proofs.Planning.{row_none}
use Rattle.roster.proofs.Readings.{nothing_yet}
use Rattle.roster.specs.Rosters.{IsRoster}
use Rattle.std.proofs.Common.{subst}
use Rattle.roster.proofs.roster.Roster.new.Goals as goal

pub returns : goal.returns
returns c = λ names.
    subst (IsRoster c.args.guardian [])
    (λ i. record {
      guardian = c.args.guardian;
      crashes = 0;
      down = false;
      rows = sym c.new.ensures.items i;
      places = λ a. sym (ap (λ at. by_place.row_of names at a) c.new-2.ensures ∙ row_none names a) i;
      names = names;
      room = sym (ap length c.new-2.ensures) i;
    })
    (nothing_yet c.args.guardian names)
