use Rattle.std.proofs.Common.{sym, ◌∙◌}
use Rattle.version_stack.proofs.Stacked.{owners_in}
use Rattle.version_stack.proofs.versions.Versions.owners.Goals as goal

pub returns : goal.returns
returns g c = c.deref.ensures.value ∙ sym (owners_in c.self.invariant c.self.view_is)
