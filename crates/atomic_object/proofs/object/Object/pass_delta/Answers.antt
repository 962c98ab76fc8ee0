use Rattle.std.proofs.Common.{ap, not, rules, sym, ◌&&◌, ◌∙◌, ◌≡◌}
use Rattle.std.specs.Prelude.{if◌then◌else◌}
use Rattle.std.specs.Int.{w64}
use mir.Val.{of_z, to_z}
use Rattle.action_names.specs.Names.{same_name}
use Rattle.atomic_types.specs.Objects.{content_after}
use Rattle.object_model.specs.Stacks.{added}
use Rattle.object_model.specs.Deltas.{delta_at, more_at}
use Rattle.object_model.specs.Objects.{is_next, owns}
use Rattle.atomic_object.proofs.Passing.{added_nowhere, owner_at, put_at}
use Rattle.atomic_object.specs.Kept.{Kept, seen}
use Rattle.atomic_object.proofs.object.Object.pass_delta.Goals as goal

pub returns-in-Some-clause-stack : goal.returns-in-Some-clause-stack
returns-in-Some-clause-stack c =
    let now = c.args.self.now in
    ap (λ (k : Kept). k.stack) c.self.view_is
    ∙ added_nowhere now.stack c.in-Some.next c.args.amount (sym c.owns.ensures ∙ c.if-not-owns.true)
    ∙ ap (λ o. added content_after now.stack o c.args.amount) (sym c.in-Some.is)

pub returns-in-Some-clause-deltas : goal.returns-in-Some-clause-deltas
returns-in-Some-clause-deltas c = λ b.
    let wrapped : to_z w64 (of_z w64 c.args.amount) ≡ c.args.amount = search rules in
    let now = c.args.self.now in
    let next = c.in-Some.next in
    let ds = c.self.inside.deltas.held in
    put_at (seen now) next b c.args.amount _ (sym c.owns.ensures ∙ c.if-not-owns.true)
    (c.put_more.ensures.held b
    ∙ ap (λ z. if same_name next b then more_at ds next z else delta_at ds b) wrapped
    ∙ ap (λ (k : Kept). if same_name next b then more_at k.deltas.held next c.args.amount else delta_at k.deltas.held b) c.self.view_is)
    ∙ ap (λ o. if is_next o b && not (owns (seen now) b) then more_at now.deltas.held b c.args.amount else delta_at now.deltas.held b) (sym c.in-Some.is)

pub returns-in-Some-2-clause-deltas : goal.returns-in-Some-2-clause-deltas
returns-in-Some-2-clause-deltas c = λ b.
    let now = c.args.self.now in
    ap (λ (k : Kept). delta_at k.deltas.held b) c.self.view_is
    ∙ owner_at (seen now) c.in-Some.next b c.args.amount (sym c.owns.ensures ∙ c.if-not-owns.false)
    ∙ ap (λ o. if is_next o b && not (owns (seen now) b) then more_at now.deltas.held b c.args.amount else delta_at now.deltas.held b) (sym c.in-Some.is)
