use Rattle.std.proofs.Common.{◌≡◌, ◌+◌, ◌≤◌, length}
use Rattle.run_model.specs.Openings.{opening_in}
use Rattle.run_model.specs.Runs.{IsRun}
use Rattle.traces.specs.Traces.{histories_in}
use Rattle.tracer.specs.Homes.{AreHomes}
use Rattle.tracer.proofs.Merged.{Going}
use Rattle.tracer.proofs.gathering.gather.Given as goal

-- nothing fails at the stamps before those that are left
abbrev pub invariant-loop-first : goal.invariant-loop-first
invariant-loop-first g l = record {
  going : Going (opening_in (g.M.MakesSteps.run l.fn.maker).lists) (histories_in l.registry l.guardians) l.rest (g.M.MakesSteps.run l.maker).past;
  homes : AreHomes l.homes (g.M.MakesSteps.run l.maker).past;
  lists : (g.M.MakesSteps.run l.maker).lists ≡ (g.M.MakesSteps.run l.fn.maker).lists;
  is_run : IsRun (opening_in (g.M.MakesSteps.run l.maker).lists) (g.M.MakesSteps.run l.maker).past;
  counted : l.count ≡ length (g.M.MakesSteps.run l.maker).past;
  within : l.count + length l.rest ≤ length l.initial.rest;
}

abbrev pub decreases-loop-first : goal.decreases-loop-first
decreases-loop-first g l = length l.rest
