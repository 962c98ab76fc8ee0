use Rattle.std.proofs.Common.{◌≡◌, false, take}
use Rattle.tracer.specs.Copies.{has_other}
use Rattle.tracer.proofs.gathering.has_other.Given as goal

abbrev pub invariant-loop-copy : goal.invariant-loop-copy
invariant-loop-copy l = has_other l.event (take l.copy-index l.turn) ≡ false
