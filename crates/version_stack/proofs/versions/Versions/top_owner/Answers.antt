use Rattle.std.proofs.Common.{◌-◌, length, sym, ap, ◌∙◌}
use Rattle.std.specs.Prelude.{slice_get}
use Rattle.version_stack.proofs.Owners.{last_on_top}
use Rattle.version_stack.proofs.Stacked.{owners_in}
use Rattle.version_stack.proofs.versions.Versions.top_owner.Goals as goal

pub returns : goal.returns
returns g c =
    c.last.ensures.value
    ∙ ap (λ ns. slice_get ns (length ns - 1)) (c.deref.ensures.value ∙ sym (owners_in c.self.invariant c.self.view_is))
    ∙ last_on_top c.args.self.now.versions
