use Rattle.stable_store.specs.Held.{parts_in}
use Rattle.stable_store.specs.Moved.{CanMove}
use Rattle.stable_store.proofs.laid.can_move.Given as goal

-- where the rest can be moved, all can, and where all can, the rest can
abbrev pub invariant-loop-object : goal.invariant-loop-object
invariant-loop-object l = record {
  all : CanMove l.object-iterator (parts_in l.base) → CanMove l.parts.entries (parts_in l.base);
  rest : CanMove l.parts.entries (parts_in l.base) → CanMove l.object-iterator (parts_in l.base);
}
