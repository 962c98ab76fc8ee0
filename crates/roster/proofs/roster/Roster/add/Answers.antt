use Rattle.std.proofs.Common.{Some, [], ap, cond, get_or, length, length-set, ◌∙◌}
use Rattle.action_names.specs.Names.{same_name}
use Rattle.places.specs.Rows as by_place
use Rattle.places.proofs.Standing.{row_put}
use Rattle.roster.specs.Tables.{table}
use Rattle.roster.proofs.roster.Roster.add.Goals as goal

pub returns-clause-added : goal.returns-clause-added
returns-clause-added c = λ names there.
    let old = c.args.self.now in
    let name = get_or names c.args.at [] in
    λ i. record (table names old) {
      rows = c.push_reserved.ensures.items i;
      places = λ a. (ap (λ at. by_place.row_of names at a) c.put.ensures
          ∙ row_put names name c.args.at old.at c.len.result there c.requires.place a
          ∙ ap (λ n. cond (same_name name a) (Some n) (by_place.row_of names old.at a)) (c.len.ensures ∙ old.rows.ok.0)) i;
      room = (ap length c.put.ensures ∙ length-set old.at c.args.at (Some c.len.result)) i;
    }

pub returns-clause-places : goal.returns-clause-places
returns-clause-places c = ap length c.put.ensures ∙ length-set c.args.self.now.at c.args.at (Some c.len.result)
