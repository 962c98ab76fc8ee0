use Rattle.std.proofs.Common.{◌≡◌, take}
use Rattle.guardian_index.specs.Held.{rows_in}
use Rattle.guardian_index.proofs.few.FewRows.to_tree.Given as goal

-- the tree shows the rows so far
abbrev pub invariant-loop-holder : goal.invariant-loop-holder
invariant-loop-holder l = rows_in l.rows.entries ≡ take l.holder-index (rows_in l.holder-items)
