use Rattle.std.proofs.Common.{[], ap, rules, subst, sym, ◌∙◌, ◌∷◌, ◌≡◌}
use Rattle.std.specs.Int.{w64}
use mir.Val.{of_z, to_z}
use Rattle.atomic_types.specs.declared.op.Class.TheVariants.{Write}
use Rattle.atomic_types.specs.declared.op.Class.TheVariants as class
use Rattle.object_model.specs.Deltas.{HasDelta, more_at}
use Rattle.object_model.specs.Locks.{granted}
use Rattle.object_model.specs.Objects.{IsRestored, Seen}
use Rattle.atomic_object.specs.Kept.{Kept, seen}
use Rattle.atomic_object.specs.Restored.{MayStandToo, MayTake}
use Rattle.atomic_object.proofs.Giving.{both_ok, delta_given, on_ok, value_given}
use Rattle.atomic_object.proofs.object.Object.give_back.Goals as goal

pub returns-in_ok-grant-in-Value : goal.returns-in_ok-grant-in-Value
returns-in_ok-grant-in-Value c =
    let now = c.args.self.now in
    let a = c.args.holder.now in
    let v = c.in-Value.content in
    on_ok c.restore.result c.restore.ensures.ok (λ e d parts is stand.
    let new : Seen = record { stack = c.restore.new.self; deltas = c.self.inside.deltas.held; locks = c.grant.new.self.locks } in
    subst (λ p. IsRestored d ((a, p) ∷ parts) new) (sym c.in-Value.is)
    (value_given d parts a v (seen now) new (subst (λ p. MayStandToo parts a p) c.in-Value.is stand).0 is
    (e ∙ ap (λ (k : Kept). record { base = k.stack.base; versions = (a, v) ∷ [] }) c.self.view_is)
    (ap (λ (k : Kept). k.deltas.held) c.self.view_is)
    (c.in_ok-grant-in-Value.ensures.ok ∙ ap (λ (k : Kept). granted k.locks.locks a Write) c.self.view_is)))

pub returns-in_ok-grant-in-Delta : goal.returns-in_ok-grant-in-Delta
returns-in_ok-grant-in-Delta c =
    let now = c.args.self.now in
    let a = c.args.holder.now in
    let z = c.in-Delta.by in
    let wrapped : to_z w64 (of_z w64 z) ≡ z = search rules in
    on_ok c.add.result (both_ok _ _ c.add.result c.add.ensures.ok c.add.ensures.rising) (λ e d parts is stand.
    let new : Seen = record { stack = c.self.inside.versions; deltas = c.add.new.self.held; locks = c.grant-in-Delta.new.self.locks } in
    subst (λ p. IsRestored d ((a, p) ∷ parts) new) (sym c.in-Delta.is)
    (delta_given d parts a z (seen now) new is (subst (λ p. MayTake (seen now) a p) c.in-Delta.is c.requires.fits)
    (ap (λ (k : Kept). k.stack) c.self.view_is)
    (subst (λ (k : Kept). HasDelta k.deltas.held new.deltas a (more_at k.deltas.held a z)) c.self.view_is
    (subst (λ y. HasDelta c.self.inside.deltas.held new.deltas a (more_at c.self.inside.deltas.held a y)) wrapped e.0))
    e.1
    (c.in_ok-grant-in-Delta.ensures.ok ∙ ap (λ (k : Kept). granted k.locks.locks a class.Add) c.self.view_is)))
