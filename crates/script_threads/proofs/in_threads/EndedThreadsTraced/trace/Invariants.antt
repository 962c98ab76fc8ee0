use Rattle.std.proofs.Common.{map, reverse, take, ◌≡◌}
use Rattle.traces.specs.Traces.{lists_of}
use Rattle.script_threads.proofs.in_threads.EndedThreadsTraced.trace.Given as goal

-- those of the first guardians
abbrev pub invariant-loop-ended : goal.invariant-loop-ended
invariant-loop-ended l = lists_of l.guardians.items ≡ map (λ x. reverse x.history) (take l.ended-index l.ended-items)
