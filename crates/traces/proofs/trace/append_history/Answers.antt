use Rattle.std.proofs.Common.{string_bytes, arith}
use Rattle.traces.proofs.Written.{event_more}
use Rattle.traces.proofs.trace.append_history.Goals as goal

pub loop-stamped-preserved : goal.loop-stamped-preserved
loop-stamped-preserved c =
    event_more c.args.owner c.loop-stamped.stamped-index c.args.history.now c.stamped-item.result (string_bytes c.args.text.now) (string_bytes c.loop-stamped.text)
    (string_bytes c.append_line.new.text) (omega arith) c.stamped-item.is c.loop-stamped.invariant c.in_ok-append_line.ensures.ok
