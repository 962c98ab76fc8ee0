use Rattle.std.proofs.Common.{length, ℕ, ◌≡◌}
use Rattle.run_model.specs.Openings.{objects_at}
use Rattle.run_model.specs.Runs.{World}
use Rattle.script_runs.specs.SerialRuns.{first_bases}
use Rattle.script_threads.specs.ThreadRuns.{StandsAt}
use Rattle.script_threads.proofs.in_threads.bases_at.Given as goal

-- those of the first objects
abbrev pub invariant-loop-index : goal.invariant-loop-index
invariant-loop-index l =
    (w : World) (g : ℕ) → StandsAt w g l.guardian → l.count ≡ length (objects_at w.lists.setup g) → l.found.entries ≡ first_bases w g l.index
