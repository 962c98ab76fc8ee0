use Rattle.std.proofs.Common.{sym, ap, ◌∙◌}
use Rattle.std.proofs.lemmas.Int.{to_z-of_z}
use Rattle.std.specs.Int.{w64}
use Rattle.overlays.specs.ArrayOverlays.{changed_at}
use Rattle.overlays.specs.ContentOverlays.{item_given}
use Rattle.overlays.proofs.content.item_given.Goals as goal

pub returns-in-Array : goal.returns-in-Array
returns-in-Array c =
    c.item.ensures ∙ ap (changed_at c.in-Array.items.items) (to_z-of_z w64 c.args.index c.ranges.index)
    ∙ ap (λ o. item_given o c.args.index) (sym c.in-Array.is)
