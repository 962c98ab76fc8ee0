use Rattle.std.proofs.Common.{◌≡◌, get_or, sym, subst, arith}
use Rattle.run_model.specs.LocalHistories.{Stamped}
use Rattle.tracer.proofs.Copying.{one_copied}
use Rattle.tracer.proofs.copies.add_copies.Goals as goal

pub loop-stamped-preserved : goal.loop-stamped-preserved
loop-stamped-preserved c =
    one_copied c.args.history c.loop-stamped.stamped-index c.args.events.now c.args.copies.now.items c.loop-stamped.copies.items c.push.new.self.items
    c.loop-stamped.highest _ (c.stamped.inside.stamp, c.stamped.inside.event) c.is_at_most.result (omega arith)
    (subst (λ (x : Stamped). x ≡ get_or c.args.events.now c.loop-stamped.stamped-index x) (sym c.stamped.view_is) c.stamped-item.is)
    c.loop-stamped.invariant c.is_at_most.ensures c.in_ok-push.ensures.items c.higher.ensures
