use Rattle.std.proofs.Common.{take}
use Rattle.run_laws.specs.Serving.{IsServed}
use Rattle.run_model.specs.Openings.{opening_in}
use Rattle.world.specs.Running.{Ran}
use Rattle.world.proofs.world.World.run.Given as goal

abbrev pub invariant-loop-step : goal.invariant-loop-step
invariant-loop-step g l = record {
  ran : Ran g.S.Stable.seen l.fn.self l.self (take l.step-index l.steps) l.fn.answers.items l.answers.items;
  served : IsServed (opening_in l.self.run.lists) l.self.run.past;
}
