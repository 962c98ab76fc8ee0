use Rattle.std.proofs.Common.{take}
use Rattle.run_model.specs.Actions.{maker_in}
use Rattle.tracer.proofs.Kept.{AreAdded}
use Rattle.tracer.proofs.homes.Homes.add.Given as goal

abbrev pub invariant-loop-name : goal.invariant-loop-name
invariant-loop-name l = AreAdded l.fn.self.begun l.self.begun (record { home = l.home; maker = maker_in l.step }) (take l.name-index l.name-items)
