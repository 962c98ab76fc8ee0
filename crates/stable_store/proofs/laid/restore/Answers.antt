use Rattle.std.proofs.Common.{IsSome, sym, ap, subst, ◌∙◌}
use Rattle.stable_store.specs.Held.{parts_in}
use Rattle.stable_store.specs.Undone.{restored}
use Rattle.stable_store.proofs.Maps.{get_is, given, taken, found_something}
use Rattle.stable_store.proofs.laid.restore.Goals as goal

pub returns-in-Some-get_mut : goal.returns-in-Some-get_mut
returns-in-Some-get_mut c =
    let there = subst IsSome (get_is _ c.args.object) c.requires in
    given _ _ c.args.object c.in-Some.part ((c.get_mut.follows.holds c.in-Some.part).3 there).0
    ∙ ap (λ before. restored c.args.object before (parts_in c.args.base.now)) (sym c.in-Some.is)

pub returns-in_default : goal.returns-in_default
returns-in_default c = absurd (found_something _ c.requires (get_is _ c.args.object ∙ sym c.in_default.ensures.value))

pub returns-in-None : goal.returns-in-None
returns-in-None c =
    taken _ _ c.args.object c.remove.ensures.updates.0
    ∙ ap (λ before. restored c.args.object before (parts_in c.args.base.now)) (sym c.in-None.is)
