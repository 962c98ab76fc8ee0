use Rattle.std.proofs.Common.{ℕ, ℤ, sym, ap, ◌∙◌, subst, w64}
use Rattle.std.proofs.lemmas.Int.{to_z-of_z}
use Rattle.values.specs.declared.value.Value.TheVariants.{Int}
use Rattle.atomic_types.specs.declared.operation.Operation.TheVariants.{Add}
use Rattle.version_stack.specs.Layers.{IsAdded}
use Rattle.version_stack.proofs.Under.{added_below}
use Rattle.version_stack.proofs.layers.add_to_base.Goals as goal

pub returns-then-base-eq0 : goal.returns-then-base-eq0
returns-then-base-eq0 g c =
    let t = g.T.Layered in
    let after = g.T.AtomicType.after in
    let x = c.args.content.now in
    let y = c.add.new.self in
    let os = c.args.overlays.now.items in
    subst (λ (k : ℕ). IsAdded t.laid after t.fits x y os os k c.args.by) (sym c.if-base-eq0.true)
    (added_below t.laid t.fits after g.met.T.Layered.fits_stay x y os c.args.by c.requires.sound
    (c.add.ensures ∙ ap (λ (z : ℤ). after x (Add (Int z))) (to_z-of_z w64 c.args.by c.ranges.by)))

pub returns : goal.returns
returns g c =
    let t = g.T.Layered in
    let x = c.args.content.now in
    subst (λ (z : ℤ). IsAdded t.laid g.T.AtomicType.after t.fits x x c.args.overlays.now.items c.add_under.new.overlays.items c.args.base z)
    (to_z-of_z w64 c.args.by c.ranges.by) (c.add_under.ensures x c.requires.sound)
