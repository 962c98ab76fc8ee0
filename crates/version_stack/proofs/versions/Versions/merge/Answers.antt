use Rattle.std.proofs.Common.{◌≡◌, ◌<◌, false, length, sym, ap, ◌∙◌, arith}
use Rattle.version_stack.specs.Layers.{is_end}
use Rattle.version_stack.proofs.Stacked.{merged}
use Rattle.version_stack.proofs.versions.Versions.merge.Goals as goal

pub invariant_of-self : goal.invariant_of-self
invariant_of-self g c = rw (c.in_err-merge.ensures.err, c.in_err-merge.ensures.content_stays) c.self.invariant

pub invariant_of-self-2 : goal.invariant_of-self-2
invariant_of-self-2 g c =
    let i = c.self.inside in
    let k = c.args.place in
    let within : k < length i.overlays.items = omega arith in
    let nobody : is_end i.settled i.ends.items k ≡ false = ap (λ es. is_end i.settled es k) (sym c.deref.ensures.value) ∙ sym c.if-is_end.ensures in
    rw (c.lowered-self-inside.ensures, c.lower_all.ensures) (merged c.self.invariant c.self.view_is nobody within c.in_ok-merge.ensures.ok).layers

pub returns : goal.returns
returns g c =
    let i = c.self.inside in
    let k = c.args.place in
    let within : k < length i.overlays.items = omega arith in
    let nobody : is_end i.settled i.ends.items k ≡ false = ap (λ es. is_end i.settled es k) (sym c.deref.ensures.value) ∙ sym c.if-is_end.ensures in
    rw (c.lowered-self-inside.ensures, c.lower_all.ensures) (merged c.self.invariant c.self.view_is nobody within c.in_ok-merge.ensures.ok).view
