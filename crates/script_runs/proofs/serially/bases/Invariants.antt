use Rattle.std.proofs.Common.{◌≡◌, map}
use Rattle.script_runs.specs.SerialRuns.{bases_of_first}
use Rattle.script_runs.proofs.serially.bases.Given as goal

-- those of the first guardians
abbrev pub invariant-loop-index : goal.invariant-loop-index
invariant-loop-index g l = map (λ base. base.entries) l.found.items ≡ bases_of_first l.world.run l.index
