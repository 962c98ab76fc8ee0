use Rattle.std.proofs.Common.{◌≡◌}
use Rattle.stable_store.specs.Held.{parts_in}
use Rattle.stable_store.specs.Undone.{undone, CanUndo}
use Rattle.stable_store.proofs.laid.undo.Given as goal

-- to undo what is left leads where undoing all would lead
abbrev pub invariant-loop-object : goal.invariant-loop-object
invariant-loop-object l =
    CanUndo l.replaced.items (parts_in l.base)
    × (undone l.replaced.items (parts_in l.base) ≡ undone l.initial.replaced.items (parts_in l.initial.base))

abbrev pub decreases-loop-object : goal.decreases-loop-object
decreases-loop-object l = goal.left-loop-object l
