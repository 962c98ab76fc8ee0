use Rattle.std.proofs.Common.{◌≡◌, ◌++◌}
use Rattle.store_texts.proofs.rising.map_of.Given as goal

-- what was put in and what is left are all
abbrev pub invariant-loop-number : goal.invariant-loop-number
invariant-loop-number g l = l.map.entries ++ l.number-iterator.rest.items ≡ l.fn.entries.items
