use Rattle.std.proofs.Common.{List, subst, ℕ}
use Rattle.traces.specs.Faults.{IsFaultOf}
use Rattle.traces.specs.Traces.{IsTrace, histories_in}
use Rattle.argus_engine.proofs.tracing.verdict.Goals as goal

pub returns-in-Ok-clause-said : goal.returns-in-Ok-clause-said
returns-in-Ok-clause-said g c =
    let trace = c.in-Ok.trace in
    c.gathered.ensures.said c.args.bytes.items
    (subst (λ (bytes : List ℕ). IsTrace bytes trace.setup (histories_in trace.registry.items trace.guardians.items)) c.as_slice.ensures.value c.in-Ok.ensures.found)

pub returns-in_ok-error_line-in-Err-clause-said : goal.returns-in_ok-error_line-in-Err-clause-said
returns-in_ok-error_line-in-Err-clause-said g c =
    c.in_ok-error_line-in-Err.ensures c.args.bytes.items (subst (λ (bytes : List ℕ). IsFaultOf bytes c.in-Err.fault) c.as_slice.ensures.value c.in-Err.ensures.fault)
