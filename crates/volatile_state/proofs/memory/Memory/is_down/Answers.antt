use Rattle.volatile_state.proofs.Sound.{inside}
use Rattle.volatile_state.proofs.memory.Memory.is_down.Goals as goal

pub returns : goal.returns
returns c = λ s at. c.is_down.ensures s.number s.past c.self.inside.places (inside c.self.view_is at).actions
