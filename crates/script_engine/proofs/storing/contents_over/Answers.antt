use Rattle.std.proofs.Common.{arith, ◌+◌}
use Rattle.stable_store.specs.Held.{parts_in}
use Rattle.script_engine.proofs.Opening.{content_read, one_more_laid}
use Rattle.script_engine.proofs.storing.contents_over.Goals as goal

pub loop-index-preserved : goal.loop-index-preserved
loop-index-preserved c =
    one_more_laid (parts_in c.args.kept.now.base) c.args.own.now c.loop-index.index c.index-own-index.result c.in_ok-content_under.field-0
    c.loop-index.contents.items c.push.new.self.items (omega (arith, c.loop-index-test.true)) c.index-own-index.is
    (content_read c.args.kept.now.base.entries (c.loop-index.index + 1) c.get.result c.index-own-index.result c.in_ok-content_under.field-0
    c.in_ok-content_under.ensures c.get.ensures.value)
    c.loop-index.invariant c.in_ok-push.ensures.items
