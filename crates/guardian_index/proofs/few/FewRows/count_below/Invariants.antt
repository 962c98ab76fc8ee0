use Rattle.std.proofs.Common.{◌≡◌, ◌+◌, drop}
use Rattle.guardian_index.specs.Held.{count_below}
use Rattle.guardian_index.proofs.Counts.{count_all}
use Rattle.guardian_index.proofs.few.FewRows.count_below.Given as goal

-- those of the rows so far are counted, and those of the rows that are left come to them
abbrev pub invariant-loop-objects : goal.invariant-loop-objects
invariant-loop-objects l = l.count + count_all (drop l.objects-index l.objects-items) ≡ count_below l.self l.action
