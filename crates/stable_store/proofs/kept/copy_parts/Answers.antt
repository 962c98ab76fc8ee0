use Rattle.std.specs.Map.Iter.{deref_pair}
use Rattle.std.proofs.lemmas.Map.Iter.{rest_more}
use Rattle.stable_store.proofs.Ordered.{all_copied}
use Rattle.stable_store.proofs.kept.copy_parts.Goals as goal

pub loop-object-preserved : goal.loop-object-preserved
loop-object-preserved c =
    let taken = rest_more deref_pair _ _ _ (c.in-Some.field-0-0, c.in-Some.part) c.in-Some.is c.next.ensures.steps in
    all_copied _ _ _ _ _ _ _ _ c.into_iter-object-iterator.ensures.into_iter_gives.5 c.loop-object.invariant taken
    c.in_ok-insert.ensures.entries c.in_ok-copy.ensures
