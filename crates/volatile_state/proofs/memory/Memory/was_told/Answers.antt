use Rattle.volatile_state.proofs.Sound.{inside}
use Rattle.volatile_state.proofs.memory.Memory.was_told.Goals as goal

pub returns : goal.returns
returns c = λ s at. c.was_told.ensures s.number s.past (inside c.self.view_is at).tellings
