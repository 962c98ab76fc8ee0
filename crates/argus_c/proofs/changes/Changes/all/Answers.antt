use Rattle.std.proofs.Common.{◌+◌, arith, below_more, length}
use Rattle.argus_c.proofs.Marks.{all_marked, now_marked, stays_marked}
use Rattle.argus_c.proofs.changes.Changes.all.Goals as goal

pub loop-index-preserved : goal.loop-index-preserved
loop-index-preserved c =
    let old = c.loop-index.changed in
    let new = c.insert.new.self in
    let put = c.in_ok-insert.ensures.updates.0 in
    below_more _ _ (λ k below. stays_marked old new (c.loop-index.index + 1) put (k + 1) (c.loop-index.invariant k below)) (now_marked old new (c.loop-index.index + 1) put)

pub returns : goal.returns
returns c = all_marked c.loop-index.changed (length c.args.setup.now) (λ k below. c.loop-index.invariant k (omega (arith, below)))
