use Rattle.std.proofs.Common.{[], ◌∷◌, ◌≡◌}
use Rattle.activities.specs.Failing.{EndOrFail}
use Rattle.activities.specs.Making.{Makes}
use Rattle.activities.specs.Serial.{once_told}
use Rattle.activities.proofs.open_action.tell.Given as goal

abbrev pub invariant-loop-guardian : goal.invariant-loop-guardian
invariant-loop-guardian g l = record {
  makes : Makes (l.action ∷ []) [] (g.W.ActivitySteps.run l.fn.world) (g.W.ActivitySteps.run l.world);
  means : g.W.ActivitySteps.alone
      → once_told l.action l.guardian-iterator (g.W.ActivitySteps.run l.world)
      ≡ once_told l.action l.guardians.keys (g.W.ActivitySteps.run l.fn.world);
  over : EndOrFail g.W.ActivitySteps.alone g.W.ActivitySteps.fails [] (g.W.ActivitySteps.run l.fn.world) (g.W.ActivitySteps.run l.world);
}
