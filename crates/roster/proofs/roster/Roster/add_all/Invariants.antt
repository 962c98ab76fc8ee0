use Rattle.std.proofs.Common.{List, vec_len, ◌≡◌}
use Rattle.action_names.specs.Names.{Name}
use Rattle.roster.specs.Entries.{FitsBegun, HavePlaces}
use Rattle.roster.specs.Rosters.{crashes_of}
use Rattle.roster.specs.Tables.{all_added, begun_of, table}
use Rattle.roster.proofs.roster.Roster.add_all.Given as goal

-- with the rows that are left the table would be the same, and there is room for them
abbrev pub invariant-loop-at : goal.invariant-loop-at
invariant-loop-at l = record {
  fits : FitsBegun l.self l.begun.items (vec_len l.begun);
  crashes : crashes_of l.self ≡ crashes_of l.fn.self;
  placed : (names : List Name) → HavePlaces names l.fn.begun.items → HavePlaces names l.begun.items;
  same : (names : List Name) → HavePlaces names l.fn.begun.items
      → all_added (begun_of names l.birth l.begun.items) (table names l.self) ≡ all_added (begun_of names l.birth l.fn.begun.items) (table names l.fn.self);
}

abbrev pub decreases-loop-at : goal.decreases-loop-at
decreases-loop-at l = goal.left-loop-at l
