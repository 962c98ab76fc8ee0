use Rattle.std.proofs.Common.{ap, ◌∙◌}
use Rattle.std.proofs.lemmas.Int.{to_z-of_z}
use Rattle.std.specs.Int.{w64}
use Rattle.overlays.specs.ArrayOverlays.{ArrayChange, changed_at}
use Rattle.overlays.proofs.array.ArrayOverlay.item.Goals as goal

pub returns : goal.returns
returns c =
    c.get.ensures.value ∙ ap (changed_at c.self.inside.items.entries) (to_z-of_z w64 c.args.index c.ranges.index)
    ∙ ap (λ (o : ArrayChange). changed_at o.items c.args.index) c.self.view_is
