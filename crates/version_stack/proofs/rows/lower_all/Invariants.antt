use Rattle.std.proofs.Common.{◌≡◌, ◌++◌, map, take, drop}
use Rattle.version_stack.specs.Layers.{lowered}
use Rattle.version_stack.proofs.rows.lower_all.Given as goal

-- the ends so far are lowered
abbrev pub invariant-loop-end : goal.invariant-loop-end
invariant-loop-end l = l.end-items ≡ map (lowered l.place) (take l.end-index l.fn.ends.items) ++ drop l.end-index l.fn.ends.items
