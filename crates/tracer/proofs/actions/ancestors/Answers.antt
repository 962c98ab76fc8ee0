use Rattle.tracer.proofs.Going.{height_falls, parent_named, up_more}
use Rattle.tracer.proofs.actions.ancestors.Goals as goal

pub loop-next-smaller : goal.loop-next-smaller
loop-next-smaller c =
    height_falls c.loop-next.next c.in_ok-next.next c.in-Some.name c.in-Some.is c.loop-next.invariant.named c.in_ok-next.ensures.parent

pub loop-next-preserved : goal.loop-next-preserved
loop-next-preserved c = record {
  named = parent_named c.in-Some.name c.in_ok-next.next c.in_ok-next.ensures.parent;
  all =
      up_more c.args.action.now c.in-Some.name c.loop-next.next c.in_ok-next.next c.loop-next.names.items c.push.new.self.items c.in-Some.is
      c.loop-next.invariant.named c.loop-next.invariant.all c.in_ok-push.ensures.items c.in_ok-next.ensures.top c.in_ok-next.ensures.parent;
}
