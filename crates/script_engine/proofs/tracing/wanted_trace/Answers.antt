use Rattle.std.proofs.Common.{◌∙◌}
use Rattle.std.proofs.lemmas.Result.{IfOk-weaker}
use Rattle.traces.specs.Traces.{trace_text}
use Rattle.script_engine.proofs.tracing.wanted_trace.Goals as goal

pub returns-clause-trace : goal.returns-clause-trace
returns-clause-trace g c =
    IfOk-weaker c.text.result _ _ (λ text says some. says ∙ (λ k. trace_text (c.in_ok-trace.ensures.setup k) (c.in_ok-trace.ensures.histories k)))
    c.text.ensures.text
