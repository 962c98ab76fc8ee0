use Rattle.std.proofs.Common.{sym, ap, ◌∙◌, subst}
use Rattle.object_model.specs.Stacks.{inherited, HasNoneBetween}
use Rattle.version_stack.proofs.Stacked.{none_in, handed, handed_down, rising_in}
use Rattle.version_stack.proofs.versions.Versions.inherit.Goals as goal

pub pass-requires-clause-between : goal.pass-requires-clause-between
pass-requires-clause-between g c =
    let a = c.args.owner.now in
    none_in c.self.invariant c.self.view_is a c.in-Some.next
    (subst (λ o. HasNoneBetween c.args.self.now.versions a o) c.in-Some.is c.requires.between)

pub invariant_of-self : goal.invariant_of-self
invariant_of-self g c =
    let new = c.pass.new in
    let to = c.pass.ensures in
    (handed c.self.invariant c.self.view_is new.owners.items new.ends.items c.args.owner.now c.in-Some.next to.paired to.rising to.ends to.passed).layers

pub returns-in-Some-clause-inherited : goal.returns-in-Some-clause-inherited
returns-in-Some-clause-inherited g c =
    let a = c.args.owner.now in
    let new = c.pass.new in
    let to = c.pass.ensures in
    (handed c.self.invariant c.self.view_is new.owners.items new.ends.items a c.in-Some.next to.paired to.rising to.ends to.passed).view
    ∙ ap (λ o. inherited c.args.self.now a o) (sym c.in-Some.is)

pub returns-in-Some-clause-rising : goal.returns-in-Some-clause-rising
returns-in-Some-clause-rising g c = rising_in c.self.invariant c.self.view_is

pub invariant_of-self-in-None : goal.invariant_of-self-in-None
invariant_of-self-in-None g c =
    let new = c.settle.new in
    let to = c.settle.ensures in
    (handed_down c.self.invariant c.self.view_is new.base new.owners.items new.ends.items c.args.owner.now to.paired to.rising to.ends to.settled).layers

pub returns-in-None-clause-inherited : goal.returns-in-None-clause-inherited
returns-in-None-clause-inherited g c =
    let a = c.args.owner.now in
    let new = c.settle.new in
    let to = c.settle.ensures in
    (handed_down c.self.invariant c.self.view_is new.base new.owners.items new.ends.items a to.paired to.rising to.ends to.settled).view
    ∙ ap (λ o. inherited c.args.self.now a o) (sym c.in-None.is)

pub returns-in-None-clause-rising : goal.returns-in-None-clause-rising
returns-in-None-clause-rising g c = rising_in c.self.invariant c.self.view_is
