use Rattle.volatile_state.proofs.Sound.{inside}
use Rattle.volatile_state.proofs.memory.Memory.crashes.Goals as goal

pub returns : goal.returns
returns c = λ s at. c.crashes.ensures s.number s.past c.self.inside.places (inside c.self.view_is at).actions
