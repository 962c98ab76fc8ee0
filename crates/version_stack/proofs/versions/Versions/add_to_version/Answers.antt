use Rattle.std.proofs.Common.{◌≡◌, ◌<◌, ℤ, Some, None, sym, subst, arith, w64}
use Rattle.std.proofs.lemmas.Int.{to_z-of_z}
use Rattle.object_model.specs.Stacks.{version_at}
use Rattle.version_stack.specs.Layers.{rows, IsAdded}
use Rattle.version_stack.proofs.Stacked.{owner_within, added_version, added_nowhere}
use Rattle.version_stack.proofs.versions.Versions.add_to_version.Goals as goal

pub returns-in_default : goal.returns-in_default
returns-in_default g c =
    let i = c.self.inside in
    let a = c.args.owner.now in
    let none : version_at (rows i.owners.items i.ends.items) a ≡ None =
    rw (← c.deref.ensures.value, ← c.deref-2.ensures.value) (sym c.in_default.ensures) in
    added_nowhere c.self.invariant c.self.view_is a c.args.by none

pub add_under-requires-clause-some : goal.add_under-requires-clause-some
add_under-requires-clause-some g c =
    let i = c.self.inside in
    let a = c.args.owner.now in
    let end = c.in-Some.end in
    let found : version_at (rows i.owners.items i.ends.items) a ≡ Some end =
    rw (← c.deref.ensures.value, ← c.deref-2.ensures.value) (sym c.in-Some.ensures) in
    let above : i.settled < end = (owner_within c.self.invariant a end found).0 in
    omega arith

pub add_under-requires-clause-within : goal.add_under-requires-clause-within
add_under-requires-clause-within g c =
    let i = c.self.inside in
    let a = c.args.owner.now in
    let end = c.in-Some.end in
    let found : version_at (rows i.owners.items i.ends.items) a ≡ Some end =
    rw (← c.deref.ensures.value, ← c.deref-2.ensures.value) (sym c.in-Some.ensures) in
    (owner_within c.self.invariant a end found).1

pub invariant_of-self : goal.invariant_of-self
invariant_of-self g c =
    let t = g.T.Layered in
    let i = c.self.inside in
    let a = c.args.owner.now in
    let end = c.in-Some.end in
    let found : version_at (rows i.owners.items i.ends.items) a ≡ Some end =
    rw (← c.deref.ensures.value, ← c.deref-2.ensures.value) (sym c.in-Some.ensures) in
    (added_version c.self.invariant c.self.view_is a found
    (subst (λ (z : ℤ). IsAdded t.laid g.T.AtomicType.after t.fits i.content i.content i.overlays.items c.add_under.new.overlays.items end z)
    (to_z-of_z w64 c.args.by c.ranges.by) (c.add_under.ensures i.content c.self.invariant.sound))).layers

pub returns : goal.returns
returns g c =
    let t = g.T.Layered in
    let i = c.self.inside in
    let a = c.args.owner.now in
    let end = c.in-Some.end in
    let found : version_at (rows i.owners.items i.ends.items) a ≡ Some end =
    rw (← c.deref.ensures.value, ← c.deref-2.ensures.value) (sym c.in-Some.ensures) in
    (added_version c.self.invariant c.self.view_is a found
    (subst (λ (z : ℤ). IsAdded t.laid g.T.AtomicType.after t.fits i.content i.content i.overlays.items c.add_under.new.overlays.items end z)
    (to_z-of_z w64 c.args.by c.ranges.by) (c.add_under.ensures i.content c.self.invariant.sound))).view
