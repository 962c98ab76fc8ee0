use Rattle.std.specs.Map.Iter.{deref_pair}
use Rattle.std.proofs.lemmas.Map.Iter.{rest_more}
use Rattle.stable_store.specs.Held.{record_of}
use Rattle.stable_store.proofs.Ordered.{put_on}
use Rattle.stable_store.proofs.kept.copy_records.Goals as goal

pub loop-top-preserved : goal.loop-top-preserved
loop-top-preserved c =
    let taken = rest_more deref_pair _ _ _ (c.in-Some.field-0-0, c.in-Some.record) c.in-Some.is c.next.ensures.steps in
    put_on record_of record_of _ _ _ _ _ _ _ _ c.into_iter-top-iterator.ensures.into_iter_gives.5 c.loop-top.invariant taken
    c.in_ok-insert.ensures.entries c.in_ok-copy.ensures
