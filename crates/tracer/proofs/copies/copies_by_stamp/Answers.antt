use Rattle.std.proofs.Common.{rules}
use Rattle.std.proofs.lemmas.List.Sorted.{IsNonDecreasingBy-from_sort_by_key, answers_always}
use Rattle.traces.specs.Traces.{histories_in}
use Rattle.tracer.proofs.Copying.{sorted_is, stamp_of}
use Rattle.tracer.proofs.copies.copies_by_stamp.Goals as goal

pub returns : goal.returns
returns c =
    sorted_is (histories_in c.args.registry.now c.args.guardians.now) c.in_ok-copies.copies.items c.sort_by_key.new.self.items c.in_ok-copies.ensures
    (IsNonDecreasingBy-from_sort_by_key stamp_of _ c.in_ok-sort_by_key.ensures.sorted (λ a r q k. search rules))
    (c.in_ok-sort_by_key.ensures.stable stamp_of (answers_always _ _ _ (λ f a r g h. search rules)))
