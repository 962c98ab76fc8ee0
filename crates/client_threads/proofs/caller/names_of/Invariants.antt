use Rattle.std.proofs.Common.{take, ◌≡◌}
use Rattle.activities.specs.Apart.{begun_names}
use Rattle.client_threads.proofs.caller.names_of.Given as goal

abbrev pub invariant-loop-arm : goal.invariant-loop-arm
invariant-loop-arm l = l.names.items ≡ begun_names (take l.arm-index l.arms)
