use Rattle.std.proofs.Common.{◌≡◌}
use Rattle.script_runs.specs.SerialRuns.{first_bases}
use Rattle.script_runs.proofs.serially.bases_at.Given as goal

-- those of the first objects
abbrev pub invariant-loop-index : goal.invariant-loop-index
invariant-loop-index g l = l.found.entries ≡ first_bases l.world.run l.guardian l.index
