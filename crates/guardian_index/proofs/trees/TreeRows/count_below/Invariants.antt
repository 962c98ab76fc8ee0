use Rattle.std.proofs.Common.{◌≡◌, ◌+◌}
use Rattle.guardian_index.specs.Held.{count_below}
use Rattle.guardian_index.proofs.Counts.{count_all}
use Rattle.guardian_index.proofs.Descendants.{first_below}
use Rattle.guardian_index.proofs.trees.TreeRows.count_below.Given as goal

-- those of the rows so far are counted, and those of the rows that are left come to them
abbrev pub invariant-loop-holder : goal.invariant-loop-holder
invariant-loop-holder l = l.count + count_all (first_below l.action l.holder-iterator) ≡ count_below l.self l.action
