use Rattle.std.proofs.Common.{ap, ◌∙◌, rules}
use Rattle.std.specs.Prelude.{FitsSigned}
use Rattle.std.specs.Int.{w64}
use Rattle.std.specs.Ordering.{int_cmp}
use Rattle.std.specs.BTreeMap.{insert_entry}
use Rattle.std.proofs.lemmas.Int.{to_z-of_z}
use Rattle.overlays.specs.ArrayItems.{put_back_at}
use Rattle.overlays.specs.ArrayOverlays.{changed_at}
use Rattle.overlays.proofs.PutBack.{put_back_after}
use Rattle.overlays.proofs.array_items.replace.Goals as goal

pub returns-clause-back : goal.returns-clause-back
returns-clause-back c =
    let es = c.args.items.now.entries in
    let fits : FitsSigned w64 c.args.index = search rules in
    let at = to_z-of_z w64 c.args.index fits in
    ap (λ fs. put_back_at fs c.args.index c.in_ok-insert.field-0) (c.in_ok-insert.ensures.entries ∙ ap (λ i. insert_entry int_cmp es i c.args.item) at)
    ∙ ap (put_back_at (insert_entry int_cmp es c.args.index c.args.item) c.args.index) (c.in_ok-insert.ensures.old ∙ ap (changed_at es) at)
    ∙ put_back_after c.args.index c.args.item es c.insert.ensures.was_ordered
