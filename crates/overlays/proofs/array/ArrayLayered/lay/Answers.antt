use Rattle.std.proofs.Common.{sym, ap, ◌∙◌, subst, rules}
use Rattle.std.proofs.lemmas.Int.{to_z-of_z}
use Rattle.std.proofs.lemmas.Result.{on_ok_weaker}
use Rattle.std.specs.Int.{w64}
use Rattle.values.specs.Bounds.{with_bounds, stored_over, AreOfKind}
use Rattle.overlays.proofs.ArrayJoins.{kinds_of_all}
use Rattle.overlays.proofs.ArrayBounds.{laid_in_bounds}
use Rattle.overlays.proofs.array.ArrayLayered.lay.Goals as goal

pub change-requires-clause-kinds : goal.change-requires-clause-kinds
change-requires-clause-kinds c =
    let a = c.args.self.now in
    let o = c.args.overlay.now in
    subst (AreOfKind a) (sym c.in_ok-listed_items.ensures.items) (kinds_of_all a o c.requires c.in_ok-listed_items.ensures.ordered)

pub returns-clause-ok : goal.returns-clause-ok
returns-clause-ok c =
    let a = c.args.self.now in
    let o = c.args.overlay.now in
    let b = c.bounds_over-bounds.result in
    on_ok_weaker c.change.result
    (λ e. e ∙ ap (stored_over _) c.in_ok-listed_items.ensures.items ∙ ap (λ l. stored_over (with_bounds a l b.size) o.items) (to_z-of_z w64 b.low (search rules))
    ∙ laid_in_bounds a o b c.requires (sym c.bounds_over-bounds.ensures.bounds))
    c.change.ensures.ok
