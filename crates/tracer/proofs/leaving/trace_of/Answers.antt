use Rattle.std.proofs.Common.{arith, length}
use Rattle.run_model.specs.Openings.{opening_in}
use Rattle.traces.specs.Traces.{lists_of}
use Rattle.tracer.proofs.Putting.{all_kept, last_kept, next_kept, off_first, some_kept}
use Rattle.tracer.proofs.leaving.trace_of.Goals as goal

pub loop-before-preserved : goal.loop-before-preserved
loop-before-preserved c =
    next_kept (length c.args.opening.now.setup) c.loop-before.before _ c.event-item.result c.loop-before.homes c.add.new.self
    (lists_of c.loop-before.histories.items) (lists_of c.keep.new.histories.items) (omega arith) c.event-item.is c.loop-before.invariant
    c.in_ok-keep.ensures c.in_ok-add.ensures

pub returns-clause-histories : goal.returns-clause-histories
returns-clause-histories c =
    let kept =
    last_kept (length c.args.opening.now.setup) c.loop-before.before _ _ c.loop-before.homes (lists_of c.loop-before.histories.items) (omega arith)
    c.events-event-items.ensures c.loop-before.invariant in
    let some = some_kept (length c.args.opening.now.setup) _ c.loop-before.homes c.loop-before.histories.items kept in
    all_kept (opening_in c.args.opening.now) _ c.loop-before.homes (lists_of c.loop-before.histories.items) (lists_of c.remove-registry.new.self.items)
    c.remove-registry.result.items kept
    (off_first c.loop-before.histories.items c.remove-registry.new.self.items c.remove-registry.result some c.remove-registry.ensures.value
    c.remove-registry.ensures.items)
