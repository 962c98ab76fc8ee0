use Rattle.std.proofs.Common.{ap, length, subst, sym, true, ◌∙◌}
use Rattle.places.specs.Rows as by_place
use Rattle.roster.proofs.Planning.{row_none}
use Rattle.run_model.specs.Reopening.{life_before}
use Rattle.roster.proofs.Reopened.{roster_reopened}
use Rattle.roster.specs.Rosters.{IsRoster}
use Rattle.roster.proofs.roster.Roster.reopened.Goals as goal

pub returns-clause-roster : goal.returns-clause-roster
returns-clause-roster c = λ held records names counted.
    subst (IsRoster c.args.guardian (life_before c.args.guardian held records))
    (λ i. record {
      guardian = c.args.guardian;
      crashes = c.args.crashes;
      down = true;
      rows = sym c.new.ensures.items i;
      places = λ a. sym (ap (λ at. by_place.row_of names at a) c.new-2.ensures ∙ row_none names a) i;
      names = names;
      room = sym (ap length c.new-2.ensures) i;
    })
    (roster_reopened c.args.guardian held records c.args.crashes names counted)
