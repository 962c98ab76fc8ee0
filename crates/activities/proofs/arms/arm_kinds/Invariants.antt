use Rattle.std.proofs.Common.{take, ◌≡◌}
use Rattle.activities.specs.Bodies.{kinds}
use Rattle.activities.proofs.arms.arm_kinds.Given as goal

abbrev pub invariant-loop-arm : goal.invariant-loop-arm
invariant-loop-arm l = l.kinds ≡ kinds (take l.arm-index l.arms)
