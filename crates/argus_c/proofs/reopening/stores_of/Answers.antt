use Rattle.argus_c.proofs.Reopened.{store_more, stores_made}
use Rattle.argus_c.proofs.reopening.stores_of.Goals as goal

pub loop-kept-preserved : goal.loop-kept-preserved
loop-kept-preserved c =
    store_more _ c.loop-kept.stores.items c.push.new.self.items c.from.result c.in-Some.kept _ _ c.in_ok-push.ensures.items c.from.ensures.0
    c.in-Some.ensures.steps.0 c.loop-kept.invariant

pub returns : goal.returns
returns c =
    stores_made _ c.loop-kept.stores.items c.loop-kept.kept-iterator.rest.items c.loop-kept.kept-iterator.rest.len
    c.loop-kept.kept-iterator.rest.ok.0 c.in-None.ensures.steps.0 c.loop-kept.invariant
