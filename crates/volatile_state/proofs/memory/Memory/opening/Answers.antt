use Rattle.std.proofs.Common.{ap, subst, ◌∙◌}
use Rattle.run_model.specs.Openings.{opening_in}
use Rattle.volatile_state.specs.Memories.{IsOfSome}
use Rattle.volatile_state.proofs.Sound.{inside}
use Rattle.volatile_state.proofs.memory.Memory.opening.Goals as goal

pub returns-clause-opening : goal.returns-clause-opening
returns-clause-opening c = λ s at. ap (λ o. opening_in o) c.deref.ensures ∙ (inside c.self.view_is at).opened

pub returns-clause-some : goal.returns-clause-some
returns-clause-some c = subst (λ m. IsOfSome m) c.self.view_is c.self.invariant
