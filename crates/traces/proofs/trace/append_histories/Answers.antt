use Rattle.std.proofs.Common.{List, string_bytes, ◌++◌, ◌+◌, ap, ◌∙◌, arith}
use Rattle.run_model.specs.LocalHistories.{Stamped}
use Rattle.traces.specs.Traces.{lines_text, owned_lines}
use Rattle.traces.proofs.Written.{history_more}
use Rattle.traces.proofs.trace.append_histories.Goals as goal

pub loop-before-preserved : goal.loop-before-preserved
loop-before-preserved c =
    history_more c.loop-before.before c.args.guardians.now c.index-guardians-before.result (string_bytes c.args.text.now) (string_bytes c.loop-before.text)
    (string_bytes c.append_history.new.text) (omega arith) c.index-guardians-before.is c.loop-before.invariant
    (c.in_ok-append_history.ensures
    ∙ ap (λ (h : List Stamped). string_bytes c.loop-before.text ++ lines_text (owned_lines (c.loop-before.before + 1) h)) c.deref.ensures.value)
