use Rattle.std.proofs.Common.{ap, sym, ◌∙◌}
use Rattle.std.specs.Prelude.{is_some}
use Rattle.object_model.specs.Deltas.{delta_at}
use Rattle.atomic_object.specs.Kept.{Kept}
use Rattle.atomic_object.proofs.Rooms.{nothing_forgotten}
use Rattle.atomic_object.proofs.object.Object.forget_delta.Goals as goal

pub returns-else-is_some-clause-left : goal.returns-else-is_some-clause-left
returns-else-is_some-clause-left c =
    let added = c.of.ensures ∙ ap (λ (k : Kept). delta_at k.deltas.held c.args.next.now) c.self.view_is in
    nothing_forgotten c.args.self.now.deltas.held c.args.next.now (ap is_some (sym added) ∙ sym c.is_some.ensures ∙ c.if-is_some.false)
