use Rattle.std.proofs.Common.{refl}
use Rattle.service.proofs.ArmEnds.{run_goes}
use Rattle.service.proofs.together.InArmArm.run.Goals as goal

pub work_in-done-requires-clause-run : goal.work_in-done-requires-clause-run
work_in-done-requires-clause-run g c = refl

pub work_in-done-requires-clause-action : goal.work_in-done-requires-clause-action
work_in-done-requires-clause-action g c = refl

pub work_in-done-requires-clause-home : goal.work_in-done-requires-clause-home
work_in-done-requires-clause-home g c = refl

pub work_in-done-requires-clause-there : goal.work_in-done-requires-clause-there
work_in-done-requires-clause-there g c = c.requires

pub work_in-done-requires-clause-reached : goal.work_in-done-requires-clause-reached
work_in-done-requires-clause-reached g c = refl

pub work_in-done-requires-clause-left : goal.work_in-done-requires-clause-left
work_in-done-requires-clause-left g c = refl

pub returns-clause-goes : goal.returns-clause-goes
returns-clause-goes g c = run_goes _ _ _ _ _ _ _ _ _ c.work_in-done.ensures.works c.end_arm.ensures.ends

pub returns-clause-does : goal.returns-clause-does
returns-clause-does g c = record {
  worked = g.W.MakesOwnSteps.run c.work_in-done.new.service.world;
  left = c.work_in-done.new.at;
  done = c.work_in-done.result;
  result = c.end_arm.result;
  is = refl;
  ran = c.work_in-done.ensures.does;
  action = c.work_in-done.ensures.action;
  home = c.work_in-done.ensures.home;
  reached = c.work_in-done.ensures.reached;
  works = c.work_in-done.ensures.works;
  ends = c.end_arm.ensures;
}
