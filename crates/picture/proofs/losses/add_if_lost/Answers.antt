use Rattle.std.proofs.Common.{sym, ◌∙◌}
use Rattle.picture.specs.Losses.{falls}
use Rattle.picture.proofs.Losing.{lost_more, lost_same}
use Rattle.picture.proofs.losses.add_if_lost.Goals as goal

pub returns-in_ok-insert : goal.returns-in_ok-insert
returns-in_ok-insert c = λ q.
    lost_more c.args.lost.now c.insert.new.self c.in_ok-copy.field-0 c.args.name.now q (falls c.args.prepared.now c.args.bars.now c.args.guardian)
    c.in_ok-copy.ensures.ok.1 (sym c.falls.ensures ∙ c.if-falls.true) (c.in_ok-insert.ensures.updates.0 q)

pub returns-else-falls : goal.returns-else-falls
returns-else-falls c = λ q.
    lost_same c.args.lost.now c.args.name.now q (falls c.args.prepared.now c.args.bars.now c.args.guardian) (sym c.falls.ensures ∙ c.if-falls.false)
