use Rattle.std.proofs.Common.{◌≡◌, ◌-◌, false, length, take, refl, sym, ap, ◌∙◌}
use Rattle.action_names.specs.Names.{is_top, parent_of}
use Rattle.action_names.proofs.Paths.{parent_of-take, IsName-parent}
use Rattle.action_names.proofs.name.Name.parent.Goals as goal

pub returns-clause-parent : goal.returns-clause-parent
returns-clause-parent c =
    let a = c.self.inside.parts in
    let deep = c.depth.ensures.depth ∙ ap length (sym c.self.view_is) in
    let is : c.in_ok-parts.parts ≡ parent_of a = c.in_ok-parts.ensures.ok ∙ ap (λ k. take (k - 1) a) deep ∙ sym (parent_of-take a) in
    let subaction : is_top a ≡ false = cc in
    rw (is, ← c.self.view_is) (IsName-parent a c.self.invariant subaction, refl)
