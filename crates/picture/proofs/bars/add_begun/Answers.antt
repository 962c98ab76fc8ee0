use Rattle.std.proofs.Common.{arith}
use Rattle.picture.proofs.Beginnings.{one_added}
use Rattle.picture.proofs.bars.add_begun.Goals as goal

pub loop-name-preserved : goal.loop-name-preserved
loop-name-preserved c =
    one_added c.args.actions.now c.loop-name.actions c.insert.new.self c.args.begun c.args.names.now c.loop-name.name-index c.name-item.result
    c.in_ok-copy.field-0 (omega arith) c.name-item.is c.in_ok-copy.ensures.ok.1 c.loop-name.invariant
    c.in_ok-insert.ensures.updates.0
