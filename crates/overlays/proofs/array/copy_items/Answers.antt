use Rattle.std.proofs.Common.{◌∙◌}
use Rattle.std.specs.Cmp.{int_cmp_total}
use Rattle.std.proofs.lemmas.Map.Lookups.{btree_map_from_get, exact_signed}
use Rattle.overlays.proofs.ArrayJoins.{put_on_nothing}
use Rattle.overlays.proofs.array.copy_items.Goals as goal

pub returns : goal.returns
returns c =
    btree_map_from_get int_cmp_total c.put_items.new.items c.args.items.now (c.in_ok-put_items.ensures.ordered c.new-copy.ensures.ordered) c.in_ok-put_items.ensures.from_ordered
    (λ i. c.in_ok-put_items.ensures.put i ∙ put_on_nothing c.args.items.now.entries c.new-copy.result.entries c.new-copy.ensures.empty i) exact_signed
