use Rattle.std.proofs.Common.{sym, ap, ◌∙◌, rules}
use Rattle.std.specs.Prelude.{FitsSigned}
use Rattle.std.specs.Int.{w64}
use Rattle.std.proofs.lemmas.Int.{to_z-of_z}
use Rattle.overlays.specs.ArrayItems.{put_back_at, put_back_all}
use Rattle.overlays.proofs.PutBack.{put_back_last}
use Rattle.overlays.proofs.array_items.put_back.Goals as goal

pub loop-index-preserved : goal.loop-index-preserved
loop-index-preserved c =
    let es = c.loop-index.items.entries in
    let left = c.pop.new.self.items in
    let fits : FitsSigned w64 c.in-Some.index = search rules in
    ap (put_back_all left) (c.put_back_one.ensures ∙ ap (λ i. put_back_at es i c.in-Some.item) (to_z-of_z w64 c.in-Some.index fits))
    ∙ sym (put_back_last left (c.in-Some.index, c.in-Some.item) es) ∙ ap (λ rs. put_back_all rs es) (sym c.in-Some.ensures.items) ∙ c.loop-index.invariant
