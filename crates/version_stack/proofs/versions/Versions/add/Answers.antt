use Rattle.std.proofs.Common.{ℤ, sym, ap, ◌∙◌, subst, w64}
use Rattle.std.specs.Option.{option_copied}
use Rattle.std.proofs.lemmas.Int.{to_z-of_z}
use Rattle.object_model.specs.Stacks.{added}
use Rattle.version_stack.specs.Layers.{IsAdded}
use Rattle.version_stack.proofs.Stacked.{base_within, added_base}
use Rattle.version_stack.proofs.versions.Versions.add.Goals as goal

pub add_to_base-requires-clause-within : goal.add_to_base-requires-clause-within
add_to_base-requires-clause-within g c = base_within c.self.invariant

pub invariant_of-self : goal.invariant_of-self
invariant_of-self g c =
    let t = g.T.Layered in
    let i = c.self.inside in
    let new = c.add_to_base.new in
    (added_base c.self.invariant c.self.view_is
    (subst (λ (z : ℤ). IsAdded t.laid g.T.AtomicType.after t.fits i.content new.content i.overlays.items new.overlays.items i.settled z)
    (to_z-of_z w64 c.args.by c.ranges.by) c.add_to_base.ensures)).layers

pub returns-in-None : goal.returns-in-None
returns-in-None g c =
    let t = g.T.Layered in
    let after = g.T.AtomicType.after in
    let i = c.self.inside in
    let new = c.add_to_base.new in
    (added_base c.self.invariant c.self.view_is
    (subst (λ (z : ℤ). IsAdded t.laid after t.fits i.content new.content i.overlays.items new.overlays.items i.settled z)
    (to_z-of_z w64 c.args.by c.ranges.by) c.add_to_base.ensures)).view
    ∙ ap (λ o. added after c.args.self.now (option_copied o) c.args.by) (sym c.in-None.is)
