use Rattle.volatile_state.proofs.Sound.{inside}
use Rattle.volatile_state.proofs.memory.Memory.is_done.Goals as goal

pub returns : goal.returns
returns c = λ s at there. c.is_done.ensures s.number s.past (inside c.self.view_is at).actions
