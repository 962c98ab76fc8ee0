use Rattle.std.proofs.Common.{ap, arith, ◌∙◌}
use Rattle.run_model.specs.declared.history.Event.{Event}
use Rattle.traces.specs.Traces.{lists_of}
use Rattle.tracer.specs.Leaving.{put_behind}
use Rattle.tracer.proofs.Putting.{put_nowhere, put_there}
use Rattle.tracer.proofs.leaving.put.Goals as goal

pub returns-then-number-len : goal.returns-then-number-len
returns-then-number-len c = put_nowhere c.args.histories.now.items c.args.number (c.args.stamp, c.args.event.now) (omega arith)

pub returns : goal.returns
returns c =
    put_there c.args.histories.now.items c.args.number c.index_mut.result.now c.push.new.self (c.args.stamp, c.in_ok-event.event) (omega arith)
    c.index_mut.ensures.value c.in_ok-push.ensures.items
    ∙ ap (λ (e : Event). put_behind c.args.number (c.args.stamp, e) (lists_of c.args.histories.now.items)) c.in_ok-event.ensures
