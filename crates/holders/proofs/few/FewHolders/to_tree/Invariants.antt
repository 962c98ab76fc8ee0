use Rattle.std.proofs.Common.{◌≡◌, take}
use Rattle.holders.proofs.few.FewHolders.to_tree.Given as goal

-- the tree has the rows so far
abbrev pub invariant-loop-holder : goal.invariant-loop-holder
invariant-loop-holder g l = l.rows.entries ≡ take l.holder-index l.holder-items
