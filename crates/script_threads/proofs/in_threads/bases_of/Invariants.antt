use Rattle.std.proofs.Common.{length, map, ◌≡◌}
use Rattle.run_model.specs.Runs.{World}
use Rattle.script_runs.specs.SerialRuns.{bases_of_first}
use Rattle.script_threads.specs.ThreadRuns.{AreAt}
use Rattle.script_threads.proofs.in_threads.bases_of.Given as goal

-- those of the first guardians
abbrev pub invariant-loop-index : goal.invariant-loop-index
invariant-loop-index l = record {
  count : length l.found.items ≡ l.index;
  bases : (w : World) → AreAt w l.setup l.guardians → map (λ base. base.entries) l.found.items ≡ bases_of_first w l.index;
}
