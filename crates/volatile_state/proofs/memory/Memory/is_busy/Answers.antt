use Rattle.volatile_state.proofs.Readings.{begun_there}
use Rattle.volatile_state.proofs.Sound.{inside}
use Rattle.volatile_state.proofs.memory.Memory.is_busy.Goals as goal

pub returns : goal.returns
returns c = λ s at there. c.is_busy.ensures s.number s.past (inside c.self.view_is at).actions (begun_there s c.args.action.now there)
