use Rattle.std.proofs.Common.{arith}
use Rattle.picture.specs.Losses.{falls}
use Rattle.picture.proofs.Losing.{none_looked, one_looked}
use Rattle.picture.proofs.losses.add_lost.Goals as goal

pub loop-name-init : goal.loop-name-init
loop-name-init c = none_looked c.args.lost.now (falls c.args.prepared.now c.args.bars.now c.args.guardian)

pub loop-name-preserved : goal.loop-name-preserved
loop-name-preserved c =
    one_looked c.args.lost.now c.loop-name.lost c.add_if_lost.new.lost (falls c.args.prepared.now c.args.bars.now c.args.guardian) c.args.exposed.now
    c.loop-name.name-index c.name-item.result (omega arith) c.name-item.is c.loop-name.invariant c.in_ok-add_if_lost.ensures
