use Rattle.std.proofs.Common.{◌≡◌, [], replicate}
use Rattle.traces.specs.Traces.{lists_of}
use Rattle.tracer.proofs.leaving.empty_histories.Given as goal

abbrev pub invariant-loop : goal.invariant-loop
invariant-loop l = lists_of l.histories.items ≡ replicate l.counter []
