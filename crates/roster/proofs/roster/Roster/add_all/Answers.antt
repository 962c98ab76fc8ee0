use Rattle.std.proofs.Common.{[], ap, arith, get_or, length, refl, sym, ◌∙◌, ◌≡◌}
use Rattle.std.proofs.lemmas.List.{nil_from_length}
use Rattle.roster.proofs.Planning.{fits_rest, have_rest, same_added}
use Rattle.roster.specs.Tables.{added, all_added, begun_of, table}
use Rattle.roster.proofs.roster.Roster.add_all.Goals as goal

pub add-requires-clause-room : goal.add-requires-clause-room
add-requires-clause-room c = omega (arith, c.in-Some.ensures.cases, c.loop-at.invariant.fits.rows)

pub add-requires-clause-place : goal.add-requires-clause-place
add-requires-clause-place c =
    let room = length c.loop-at.self.at in
    (fits_rest room room c.pop.new.self.items c.loop-at.begun.items (c.in-Some.at, c.in-Some.depends) c.in-Some.ensures.items refl
    c.loop-at.invariant.fits.places).1

pub loop-at-preserved : goal.loop-at-preserved
loop-at-preserved c =
    let items = c.loop-at.begun.items in
    let rest = c.pop.new.self.items in
    let left = c.in-Some.ensures.items in
    record {
      fits = record {
        rows = omega (arith, c.add.ensures.len, c.add.ensures.capacity, c.in-Some.ensures.cases, c.loop-at.invariant.fits.rows);
        places = (fits_rest (length c.loop-at.self.at) (length c.add.new.self.at) rest items (c.in-Some.at, c.in-Some.depends) left c.add.ensures.places
            c.loop-at.invariant.fits.places).0;
      };
      crashes = c.add.ensures.crashes ∙ c.loop-at.invariant.crashes;
      placed = λ names have. (have_rest names rest items (c.in-Some.at, c.in-Some.depends) left (c.loop-at.invariant.placed names have)).0;
      same = λ names have.
          same_added names c.args.birth rest items (c.in-Some.at, c.in-Some.depends) (table names c.loop-at.self) (table names c.add.new.self) _ left
          (c.add.ensures.added names (have_rest names rest items (c.in-Some.at, c.in-Some.depends) left (c.loop-at.invariant.placed names have)).1
          ∙ ap (λ row. added (get_or names c.in-Some.at [], row) (table names c.loop-at.self)) c.row.ensures)
          (c.loop-at.invariant.same names have);
    }

pub returns-clause-added : goal.returns-clause-added
returns-clause-added c = λ names have.
    let begun = c.loop-at.begun in
    let none : begun.items ≡ [] = nil_from_length begun.items (omega (arith, begun.ok.0, c.in_default.ensures.cases)) in
    sym (ap (λ xs. all_added (begun_of names c.args.birth xs) (table names c.loop-at.self)) none) ∙ c.loop-at.invariant.same names have
