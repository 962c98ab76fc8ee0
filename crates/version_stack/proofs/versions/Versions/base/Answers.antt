use Rattle.std.proofs.Common.{◌≤◌, length, take, sym, ap, ◌∙◌, arith}
use Rattle.std.proofs.lemmas.List.{length-take-le}
use Rattle.overlays.specs.Overlays.{laid_all}
use Rattle.object_model.specs.Stacks.{Stack}
use Rattle.version_stack.proofs.Stacked.{base_within}
use Rattle.version_stack.proofs.Under.{fit_take}
use Rattle.version_stack.proofs.versions.Versions.base.Goals as goal

pub slice_bounds-new-end : goal.slice_bounds-new-end
slice_bounds-new-end g c =
    let i = c.self.inside in
    let all : i.settled ≤ length i.overlays.items = base_within c.self.invariant in
    let within : i.settled ≤ length c.deref.result.now = omega (arith, ap length c.deref.ensures.value) in
    sym (length-take-le i.settled c.deref.result.now within)

pub new-requires : goal.new-requires
new-requires g c =
    let t = g.T.Layered in
    let i = c.self.inside in
    rw c.deref.ensures.value (fit_take t.laid t.fits i.settled i.content i.overlays.items c.self.invariant.sound.fit)

pub returns : goal.returns
returns g c =
    let i = c.self.inside in
    c.new.ensures ∙ ap (λ os. laid_all g.T.Layered.laid i.content (take i.settled os)) c.deref.ensures.value
    ∙ ap (λ (s : Stack g.row.T.Denot). s.base) c.self.view_is
