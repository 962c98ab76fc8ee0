use Rattle.std.proofs.Common.{sym, ap, ◌∙◌, rules}
use Rattle.std.specs.Prelude.{FitsSigned}
use Rattle.std.specs.Int.{w64}
use Rattle.std.specs.Ordering.{int_cmp}
use Rattle.std.specs.BTreeMap.{BTreeMap, is_at}
use Rattle.std.specs.Map.{remove_entry, set_value}
use Rattle.std.proofs.lemmas.Int.{to_z-of_z}
use Rattle.overlays.specs.ArrayItems.{put_back_at}
use Rattle.overlays.specs.ArrayOverlays.{changed_at}
use Rattle.overlays.proofs.PutBack.{put_nowhere}
use Rattle.overlays.proofs.array_items.put_back_one.Goals as goal

pub returns-in-Some-get_mut : goal.returns-in-Some-get_mut
returns-in-Some-get_mut c =
    let es = c.args.items.now.entries in
    let fits : FitsSigned w64 c.args.index = search rules in
    (c.get_mut.follows.holds c.in-Some.item).0 ∙ ap (λ i. set_value (is_at (int_cmp i)) es c.in-Some.item) (to_z-of_z w64 c.args.index fits)
    ∙ ap (put_back_at es c.args.index) (sym c.in-Some.is)

pub returns-in_default : goal.returns-in_default
returns-in_default c =
    let es = c.args.items.now.entries in
    let fits : FitsSigned w64 c.args.index = search rules in
    ap (λ (m : BTreeMap _ _). m.entries) c.get_mut.follows.holds-at-none
    ∙ sym (put_nowhere c.args.index c.in-Some.item es (ap (changed_at es) (sym (to_z-of_z w64 c.args.index fits)) ∙ sym c.in_default.ensures.value))
    ∙ ap (put_back_at es c.args.index) (sym c.in-Some.is)

pub returns-in-None : goal.returns-in-None
returns-in-None c =
    let es = c.args.items.now.entries in
    let fits : FitsSigned w64 c.args.index = search rules in
    c.remove.ensures.entries ∙ ap (λ i. remove_entry (is_at (int_cmp i)) es) (to_z-of_z w64 c.args.index fits) ∙ ap (put_back_at es c.args.index) (sym c.in-None.is)
