use Rattle.std.proofs.Common.{List, length, ◌≡◌}
use Rattle.action_names.specs.Names.{Name}
use Rattle.run_model.specs.Telling.{or_else}
use Rattle.tellings.specs.Hearing.{FitsHeard, HavePlaces, crashes_of, heard_in, told_of}
use Rattle.tellings.proofs.tellings.Tellings.put_all.Given as goal

-- with what is left what was told would be the same, and there is room for it
abbrev pub invariant-loop-at : goal.invariant-loop-at
invariant-loop-at l = record {
  crashes : crashes_of l.self ≡ crashes_of l.fn.self;
  room : length l.self.told ≡ length l.fn.self.told;
  fits : FitsHeard l.self l.heard;
  places : (names : List Name) → HavePlaces names l.fn.heard.told.items → HavePlaces names l.heard.told.items;
  values : (names : List Name) → HavePlaces names l.fn.heard.told.items → (b : Name)
      → or_else (heard_in names l.heard.told.items b) (told_of names l.self b) ≡ or_else (heard_in names l.fn.heard.told.items b) (told_of names l.fn.self b);
}

abbrev pub decreases-loop-at : goal.decreases-loop-at
decreases-loop-at l = goal.left-loop-at l
