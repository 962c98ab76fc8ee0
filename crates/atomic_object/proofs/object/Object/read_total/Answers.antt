use Rattle.std.proofs.Common.{ap, filter, rules, ◌∙◌, ◌≡◌}
use Rattle.std.specs.Int.{w64}
use mir.Val.{of_z, to_z}
use Rattle.atomic_types.specs.Objects.{reply_of}
use Rattle.object_model.specs.Deltas.{delta_sum}
use Rattle.object_model.specs.Objects.{deltas_beside, is_beside}
use Rattle.object_model.specs.Stacks.{top_of}
use Rattle.atomic_object.specs.Kept.{Kept, seen}
use Rattle.atomic_object.proofs.Granting.{sum_shown}
use Rattle.atomic_object.proofs.object.Object.read_total.Goals as goal

pub returns : goal.returns
returns c =
    let now = c.args.self.now in
    let op = c.args.op.now in
    let top = c.top.ensures.top ∙ ap (λ (k : Kept). top_of k.stack) c.self.view_is in
    let replies = c.in_ok-reply.ensures ∙ ap (λ b. reply_of b op) top in
    let fits : to_z w64 (of_z w64 c.sum_beside-beside.result) ≡ c.sum_beside-beside.result = search rules in
    let sum =
    fits ∙ c.sum_beside-beside.ensures.sum ∙ ap (λ o. delta_sum (filter (λ d. is_beside o d.0) c.self.inside.deltas.held)) c.top_owner.ensures
    ∙ ap (λ (k : Kept). delta_sum (deltas_beside (seen k))) c.self.view_is in
    sum_shown (top_of now.stack) (deltas_beside (seen now)) op c.with_sum.result c.in_ok-reply.reply _ sum
    (c.with_sum.ensures.added (top_of now.stack) replies c.requires.known c.requires.reads) c.with_sum.ensures.none replies
