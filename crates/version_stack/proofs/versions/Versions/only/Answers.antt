use Rattle.std.proofs.Common.{◌≡◌, ◌≤◌, sym, ap, ◌∙◌, Some, None, length, take, arith}
use Rattle.std.proofs.lemmas.List.{length-take-le}
use Rattle.overlays.specs.Overlays.{laid_all}
use Rattle.object_model.specs.Stacks.{version_at}
use Rattle.version_stack.specs.Layers.{under, rows}
use Rattle.version_stack.proofs.Ends.{image}
use Rattle.version_stack.proofs.Stacked.{owner_within, version_in}
use Rattle.version_stack.proofs.Under.{fit_take}
use Rattle.version_stack.proofs.versions.Versions.only.Goals as goal

pub slice_bounds-new-end : goal.slice_bounds-new-end
slice_bounds-new-end g c =
    let i = c.self.inside in
    let end = c.in_ok-end.end in
    let a = c.args.owner.now in
    let found : version_at (rows i.owners.items i.ends.items) a ≡ Some end =
    rw (← c.deref.ensures.value, ← c.deref-2.ensures.value) (sym c.in_ok-end.ensures) in
    let all : end ≤ length i.overlays.items = (owner_within c.self.invariant a end found).1 in
    let within : end ≤ length c.deref-3.result.now = omega (arith, ap length c.deref-3.ensures.value) in
    sym (length-take-le end c.deref-3.result.now within)

pub new-requires : goal.new-requires
new-requires g c =
    let t = g.T.Layered in
    let i = c.self.inside in
    rw c.deref-3.ensures.value (fit_take t.laid t.fits c.in_ok-end.end i.content i.overlays.items c.self.invariant.sound.fit)

pub returns-in_err-end : goal.returns-in_err-end
returns-in_err-end g c =
    let i = c.self.inside in
    let a = c.args.owner.now in
    let none : version_at (rows i.owners.items i.ends.items) a ≡ None =
    rw (← c.deref.ensures.value, ← c.deref-2.ensures.value) (sym c.in_err-end.ensures) in
    c.from_residual.ensures ∙ sym (version_in c.self.invariant c.self.view_is a ∙ ap (image (under g.T.Layered.laid i.content i.overlays.items)) none)

pub returns : goal.returns
returns g c =
    let laid = g.T.Layered.laid in
    let i = c.self.inside in
    let a = c.args.owner.now in
    let end = c.in_ok-end.end in
    let found : version_at (rows i.owners.items i.ends.items) a ≡ Some end =
    rw (← c.deref.ensures.value, ← c.deref-2.ensures.value) (sym c.in_ok-end.ensures) in
    ap (λ x. Some x) (c.new.ensures ∙ ap (λ os. laid_all laid i.content (take end os)) c.deref-3.ensures.value)
    ∙ sym (version_in c.self.invariant c.self.view_is a ∙ ap (image (under laid i.content i.overlays.items)) found)
