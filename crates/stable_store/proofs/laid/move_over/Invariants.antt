use Rattle.std.proofs.Common.{◌≡◌}
use Rattle.stable_store.specs.Stored.{laid}
use Rattle.stable_store.specs.Held.{parts_in}
use Rattle.stable_store.specs.Moved.{CanMove}
use Rattle.stable_store.proofs.laid.move_over.Given as goal

-- what is left can be moved, and with it all is laid
abbrev pub invariant-loop-object : goal.invariant-loop-object
invariant-loop-object l = record {
  can : CanMove l.object-iterator (parts_in l.base);
  same : laid l.object-iterator (parts_in l.base) ≡ laid l.fn.parts.entries (parts_in l.fn.base);
}
