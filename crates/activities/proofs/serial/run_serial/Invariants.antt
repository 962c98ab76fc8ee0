use Rattle.std.proofs.Common.{IfErr, IfOk, [], length, take, ◌≡◌}
use Rattle.activities.specs.Ends.{AllCame, listed}
use Rattle.activities.specs.Failing.{EndOrFail, IsCause, StepFails}
use Rattle.activities.specs.Serial.{clients_ran}
use Rattle.activities.proofs.Trying.{HasRoom, TriedSoFar}
use Rattle.activities.proofs.serial.run_serial.Given as goal

abbrev pub invariant-loop-client : goal.invariant-loop-client
invariant-loop-client g l = record {
  tried : TriedSoFar l.clients l.client-index (g.W.MakesSteps.run l.fn.world) (g.W.MakesSteps.run l.world);
  came : AllCame (take l.client-index l.clients) (g.W.MakesSteps.run l.fn.world) (g.W.MakesSteps.run l.world) (listed l.ends);
  failed : IfErr l.ends (IsCause (StepFails g.W.MakesSteps.leaves));
  over : EndOrFail (Unit {0}) (StepFails g.W.MakesSteps.leaves) [] (g.W.MakesSteps.run l.fn.world) (g.W.MakesSteps.run l.world);
  room : IfOk l.ends (HasRoom l.client-index (length l.clients));
  ran : IfOk l.ends (λ ends. record { world = (g.W.MakesSteps.run l.world); ends = ends.items }
      ≡ clients_ran l.script.handlers (take l.client-index l.clients) (g.W.MakesSteps.run l.fn.world));
}
