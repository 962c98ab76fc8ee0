use Rattle.std.proofs.Common.{refl}
use Rattle.stable_store.proofs.Ordered.{all_copied}
use Rattle.store_texts.proofs.rising.map_of.Goals as goal

pub loop-number-preserved : goal.loop-number-preserved
loop-number-preserved g c =
    all_copied c.args.entries.items _ _ _ _ _ _ _ c.requires c.loop-number.invariant c.in-Some.ensures.steps.0 c.in_ok-insert.ensures.entries refl
