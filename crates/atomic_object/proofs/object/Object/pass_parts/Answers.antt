use Rattle.std.proofs.Common.{None, not, ap, rules, subst, sym, ◌&&◌, ◌∙◌, ◌≡◌}
use Rattle.std.specs.Prelude.{is_some, if◌then◌else◌}
use Rattle.std.specs.Int.{w64}
use mir.Val.{of_z, to_z}
use Rattle.action_names.specs.Names.{same_name}
use Rattle.object_model.specs.Stacks.{version_at}
use Rattle.object_model.specs.Deltas.{delta_at, more_at}
use Rattle.object_model.specs.Objects.{is_next, owns}
use Rattle.atomic_object.specs.Kept.{Kept, MayBeHandedDeltas, seen}
use Rattle.atomic_object.proofs.Passing.{passed_more, passed_none}
use Rattle.atomic_object.proofs.Rooms.{next_has_room, next_may_be_handed, nobody_forgets}
use Rattle.atomic_object.proofs.object.Object.pass_parts.Goals as goal

pub pass_version-requires-clause-room : goal.pass_version-requires-clause-room
pass_version-requires-clause-room c =
    next_may_be_handed c.args.action.now c.args.to c.self.inside.deltas.held _ _ _ c.requires.next c.take-amount.ensures.room
    (nobody_forgets _ _ c.args.action.now c.take-amount.ensures.left)
    (subst (λ (k : Kept). MayBeHandedDeltas k c.args.to) (sym c.self.view_is) c.requires.room)

pub pass_delta-requires-clause-room : goal.pass_delta-requires-clause-room
pass_delta-requires-clause-room c =
    next_has_room c.args.action.now c.args.to c.self.inside.deltas.held _ _ c.in-Some.amount c.requires.next c.take-amount.ensures.room
    (sym c.take-amount.ensures.amount ∙ c.in-Some.is)
    (subst (λ (k : Kept). MayBeHandedDeltas k c.args.to) (sym c.self.view_is) c.requires.room)

pub returns-in-Some-clause-deltas : goal.returns-in-Some-clause-deltas
returns-in-Some-clause-deltas c = λ b.
    let a = c.args.action.now in
    let ds = c.take-amount.new.self.held in
    let wrapped : to_z w64 (of_z w64 c.in-Some.amount) ≡ c.in-Some.amount = search rules in
    passed_more (seen c.args.self.now) a c.args.to c.requires.next c.requires.beside
    (sym (ap (λ (k : Kept). owns (seen k) a) c.self.view_is) ∙ sym c.owns.ensures ∙ c.if-owns.false)
    b c.in-Some.amount _ (delta_at ds b)
    (sym (ap (λ (k : Kept). delta_at k.deltas.held a) c.self.view_is) ∙ sym c.take-amount.ensures.amount ∙ c.in-Some.is)
    (c.take-amount.ensures.left b ∙ ap (λ (k : Kept). if same_name a b then None else delta_at k.deltas.held b) c.self.view_is)
    (c.pass_delta.ensures.deltas b
    ∙ ap (λ m. if is_next c.args.to b && not (is_some (version_at c.self.inside.versions.versions b)) then more_at ds b m else delta_at ds b) wrapped
    ∙ ap (λ (k : Kept). if is_next c.args.to b && not (owns (seen k) b) then more_at ds b c.in-Some.amount else delta_at ds b) c.self.view_is)

pub returns-in_default-clause-deltas : goal.returns-in_default-clause-deltas
returns-in_default-clause-deltas c = λ b.
    let a = c.args.action.now in
    passed_none (seen c.args.self.now) a c.args.to c.requires.next c.requires.beside
    (sym (ap (λ (k : Kept). owns (seen k) a) c.self.view_is) ∙ sym c.owns.ensures ∙ c.if-owns.false)
    b _
    (sym (ap (λ (k : Kept). delta_at k.deltas.held a) c.self.view_is) ∙ sym c.take-amount.ensures.amount ∙ c.in_default.is)
    (c.take-amount.ensures.left b ∙ ap (λ (k : Kept). if same_name a b then None else delta_at k.deltas.held b) c.self.view_is)
