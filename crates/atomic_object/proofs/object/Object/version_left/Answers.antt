use Rattle.std.proofs.Common.{ap, rules, sym, ◌∙◌, ◌≡◌}
use Rattle.std.specs.Int.{w64}
use mir.Val.{of_z, to_z}
use Rattle.values.specs.declared.value.Value.TheVariants.{Int}
use Rattle.atomic_types.specs.declared.operation.Operation.TheVariants.{Add}
use Rattle.atomic_types.specs.Objects.{content_after}
use Rattle.object_model.specs.Objects.{with_sum}
use Rattle.object_model.specs.Stacks.{version_at}
use Rattle.object_laws.specs.OnceTold.{deltas_left}
use Rattle.version_stack.specs.Beside.{sum_if_any}
use Rattle.atomic_object.specs.Kept.{Kept, seen}
use Rattle.atomic_object.proofs.Outcomes.{none_over, some_over, with_none, with_some}
use Rattle.atomic_object.proofs.object.Object.version_left.Goals as goal
use Rattle.atomic_object.proofs.object.Object.version_left.Goals.{in-Some-sum_left, in_default-sum_left}

pub returns-in_default : goal.returns-in_default
returns-in_default c = λ top.
    let owner = c.args.owner.now in
    none_over c.args.outcomes.now top (seen c.args.self.now) owner
    (sym (ap (λ (k : Kept). version_at k.stack.versions owner) c.self.view_is) ∙ sym c.only.ensures ∙ c.in_default.is)

pub returns : goal.returns
returns c = λ top.
    let now = c.args.self.now in
    let owner = c.args.owner.now in
    let outcomes = c.args.outcomes.now in
    let v = c.in-Some.version in
    let ds = deltas_left outcomes owner (seen now).deltas in
    let sum = sym (ap (λ (k : Kept). sum_if_any (deltas_left outcomes owner k.deltas.held)) c.self.view_is) ∙ sym c.sum_left.ensures.sum in
    let all : c.match-sum_left.content ≡ with_sum v ds = elim c.match-sum_left.branch [
      | in-Some-sum_left w ↦
          let z = w.in-Some-sum_left.sum in
          let wrapped : to_z w64 (of_z w64 z) ≡ z = search rules in
          with_some v c.match-sum_left.content ds z (sum ∙ w.in-Some-sum_left.is)
          (w.content-is ∙ w.add.ensures ∙ ap (λ n. content_after c.in_ok-content.content (Add (Int n))) wrapped
          ∙ ap (λ x. content_after x (Add (Int z))) c.in_ok-content.ensures)
      | in_default-sum_left w ↦ w.content-is ∙ c.in_ok-content.ensures ∙ with_none v ds (sum ∙ w.in_default-sum_left.is)
    ] in
    some_over outcomes top (seen now) owner v c.match-sum_left.content
    (sym (ap (λ (k : Kept). version_at k.stack.versions owner) c.self.view_is) ∙ sym c.only.ensures ∙ c.in-Some.is) all
