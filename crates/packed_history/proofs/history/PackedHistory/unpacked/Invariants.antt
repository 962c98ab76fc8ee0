use Rattle.std.proofs.Common.{◌≡◌, take}
use Rattle.packed_history.specs.Arenas.{events_in}
use Rattle.packed_history.proofs.history.PackedHistory.unpacked.Given as goal

abbrev pub invariant-loop-row : goal.invariant-loop-row
invariant-loop-row l = l.events.items ≡ events_in l.self-inside.arenas (take l.row-index l.row-items)
