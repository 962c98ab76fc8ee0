use Rattle.std.proofs.Common.{IfErr, IsTrue, OnOk, [], length, reverse, ◌≡◌}
use Rattle.action_names.specs.Names.{Name, has_name}
use Rattle.activities.specs.Failing.{EndBut}
use Rattle.activities.specs.Making.{Makes}
use Rattle.activities.specs.Serial.{arms_aborted}
use Rattle.activities.proofs.open_action.OpenAction.abort_arms.Given as goal

abbrev pub decreases-loop-arm : goal.decreases-loop-arm
decreases-loop-arm g l = length l.arms.items

abbrev pub invariant-loop-arm : goal.invariant-loop-arm
invariant-loop-arm g l = record {
  makes : Makes l.fn.arms.items [] (g.W.ActivitySteps.run l.fn.world) (g.W.ActivitySteps.run l.world);
  among : (a : Name) → IsTrue (has_name l.arms.items a) → IsTrue (has_name l.fn.arms.items a);
  means : OnOk l.fault (g.W.ActivitySteps.alone → arms_aborted l.self.home (reverse l.arms.items) (g.W.ActivitySteps.run l.world)
      ≡ arms_aborted l.self.home (reverse l.fn.arms.items) (g.W.ActivitySteps.run l.fn.world));
  failed : IfErr l.fault g.W.ActivitySteps.fails;
  over : EndBut g.W.ActivitySteps.alone g.W.ActivitySteps.fails l.fn.arms.items l.arms.items (g.W.ActivitySteps.run l.fn.world) (g.W.ActivitySteps.run l.world);
}
