use Rattle.tracer.proofs.Elsewhere.{whole}
use Rattle.tracer.proofs.gathering.stand_elsewhere.Goals as goal

pub returns : goal.returns
returns c past homes =
    whole c.args.limit c.args.event.now past c.args.turn.now c.has_copy.result c.takes_registry.result c.stand_at_others.result c.if-has_copy-takes_registry.false c.has_copy.ensures
    c.takes_registry.ensures (c.stand_at_others.ensures _ (c.in_ok-one.ensures past homes))
