use Rattle.std.proofs.Common.{[], ◌∷◌, drop, length, reverse, IsTrue, ◌*◌, ◌+◌, ◌-◌, ◌≡◌, ◌≤◌}
use Rattle.action_names.specs.Names.{Name, has_name}
use Rattle.activities.specs.Bodies.{AreArms, IsBody, IsOf, Within, sizes}
use Rattle.activities.specs.Failing.{EndBut, EndOrFail}
use Rattle.activities.specs.Making.{Makes}
use Rattle.activities.specs.Acting.{doing}
use Rattle.activities.proofs.Meaning.{AreArmsFrom, AreTurnsFrom, IsBodyFrom}
use Rattle.activities.proofs.activity.Activity.+activity.Given as goal

-- each statement takes one from the budget, so what it leads to has less
abbrev pub decreases-body : goal.decreases-body
decreases-body g l = 7 * l.self.now.left

abbrev pub decreases-inner : goal.decreases-inner
decreases-inner g l = 7 * l.self.now.left + 1

abbrev pub decreases-run : goal.decreases-run
decreases-run g l = 7 * l.self.now.left + 1

abbrev pub decreases-run_signals : goal.decreases-run_signals
decreases-run_signals g l = 7 * l.self.now.left + 2

abbrev pub decreases-repeat : goal.decreases-repeat
decreases-repeat g l = 7 * l.self.now.left + 2

abbrev pub decreases-call : goal.decreases-call
decreases-call g l = 7 * l.self.now.left + 3

abbrev pub decreases-top_action : goal.decreases-top_action
decreases-top_action g l = 7 * l.self.now.left + 2

abbrev pub decreases-run_arms : goal.decreases-run_arms
decreases-run_arms g l = 7 * l.self.now.left + 2

abbrev pub decreases-arms : goal.decreases-arms
decreases-arms g l = 7 * l.self.now.left + 3

abbrev pub decreases-coenter : goal.decreases-coenter
decreases-coenter g l = 7 * l.self.now.left + 4

abbrev pub decreases-statement : goal.decreases-statement
decreases-statement g l = 7 * l.self.now.left + 5

-- the statements that are left are resolved with what those before them bound
abbrev pub invariant-body-loop-statement : goal.invariant-body-loop-statement
invariant-body-loop-statement g l = record {
  makes : Makes (l.fn.action.name ∷ []) [] (g.W.ActivitySteps.run l.fn.world) (g.W.ActivitySteps.run l.world);
  over : EndOrFail g.W.ActivitySteps.alone g.W.ActivitySteps.fails [] (g.W.ActivitySteps.run l.fn.world) (g.W.ActivitySteps.run l.world);
  resolved : IsOf g.W.ActivitySteps.scripts l.self.script.now;
  rest : IsBody l.self.script.now (sizes l.frames) (drop l.statement-index l.body);
  frames : Within (sizes l.fn.frames) (sizes l.frames);
  left : l.self.left ≤ l.fn.self.left;
  script : l.self.script.now ≡ l.fn.self.script.now;
  name : l.action.name ≡ l.fn.action.name;
  home : l.action.home ≡ l.fn.action.home;
  means : g.W.ActivitySteps.alone
      → IsBodyFrom l.fn.self.script.now l.fn.self.left l.body (doing (g.W.ActivitySteps.run l.fn.world) l.fn.self.left l.fn.action l.fn.frames) (drop l.statement-index l.body)
      (doing (g.W.ActivitySteps.run l.world) l.self.left l.action l.frames);
}

-- each turn finds as many variables bound as the first
abbrev pub invariant-repeat-loop : goal.invariant-repeat-loop
invariant-repeat-loop g l = record {
  makes : Makes (l.fn.action.name ∷ []) [] (g.W.ActivitySteps.run l.fn.world) (g.W.ActivitySteps.run l.world);
  over : EndOrFail g.W.ActivitySteps.alone g.W.ActivitySteps.fails [] (g.W.ActivitySteps.run l.fn.world) (g.W.ActivitySteps.run l.world);
  resolved : IsOf g.W.ActivitySteps.scripts l.self.script.now;
  body : IsBody l.self.script.now (sizes l.frames) l.body;
  frames : sizes l.frames ≡ sizes l.fn.frames;
  left : l.self.left ≤ l.fn.self.left;
  script : l.self.script.now ≡ l.fn.self.script.now;
  name : l.action.name ≡ l.fn.action.name;
  home : l.action.home ≡ l.fn.action.home;
  means : g.W.ActivitySteps.alone
      → AreTurnsFrom l.fn.self.script.now l.fn.self.left l.turns l.body (doing (g.W.ActivitySteps.run l.fn.world) l.fn.self.left l.fn.action l.fn.frames)
      (l.turns - l.counter) (doing (g.W.ActivitySteps.run l.world) l.self.left l.action l.frames);
}

-- the arms that have not run wait
abbrev pub invariant-run_arms-loop-arm : goal.invariant-run_arms-loop-arm
invariant-run_arms-loop-arm g l = record {
  makes : Makes l.fn.waiting.items l.fn.waiting.items (g.W.ActivitySteps.run l.fn.world) (g.W.ActivitySteps.run l.world);
  over : EndBut g.W.ActivitySteps.alone g.W.ActivitySteps.fails l.fn.waiting.items l.waiting.items (g.W.ActivitySteps.run l.fn.world)
      (g.W.ActivitySteps.run l.world);
  among : (a : Name) → IsTrue (has_name l.waiting.items a) → IsTrue (has_name l.fn.waiting.items a);
  each : length l.waiting.items + l.arm-index ≡ length l.arms;
  resolved : IsOf g.W.ActivitySteps.scripts l.self.script.now;
  arms : AreArms l.self.script.now (sizes l.frames) l.arms;
  frames : sizes l.frames ≡ sizes l.fn.frames;
  left : l.self.left ≤ l.fn.self.left;
  script : l.self.script.now ≡ l.fn.self.script.now;
  name : l.action.name ≡ l.fn.action.name;
  home : l.action.home ≡ l.fn.action.home;
  means : g.W.ActivitySteps.alone
      → AreArmsFrom l.fn.self.script.now l.fn.self.left l.arms (reverse l.fn.waiting.items)
      (doing (g.W.ActivitySteps.run l.fn.world) l.fn.self.left l.fn.action l.fn.frames) (drop l.arm-index l.arms) (reverse l.waiting.items)
      (doing (g.W.ActivitySteps.run l.world) l.self.left l.action l.frames);
}
