use Rattle.std.proofs.Common.{◌≡◌, ◌+◌, ◌≤◌, length, vec_len, vec_capacity}
use Rattle.stable_store.specs.Stored.{laid}
use Rattle.stable_store.specs.Held.{parts_in}
use Rattle.stable_store.specs.Undone.{undone, CanUndo}
use Rattle.stable_store.proofs.laid.lay.Given as goal

-- what is left, over what was laid so far, is all over the base; the way back leads to the base; and there is room for it
abbrev pub invariant-loop-object : goal.invariant-loop-object
invariant-loop-object l =
    (laid l.object-iterator (parts_in l.base) ≡ laid l.parts.entries (parts_in l.initial.base))
    × (undone l.replaced.items (parts_in l.base) ≡ parts_in l.initial.base)
    × CanUndo l.replaced.items (parts_in l.base)
    × (vec_len l.replaced + length l.object-iterator ≤ vec_capacity l.replaced)
