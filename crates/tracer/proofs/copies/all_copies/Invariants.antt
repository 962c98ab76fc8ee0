use Rattle.std.proofs.Common.{◌≡◌, ◌++◌, [], take}
use Rattle.traces.specs.Traces.{lists_of}
use Rattle.tracer.specs.Copies.{copies_behind, copies_from}
use Rattle.tracer.proofs.copies.all_copies.Given as goal

abbrev pub invariant-loop-before : goal.invariant-loop-before
invariant-loop-before l = l.copies.items ≡ copies_from 0 [] l.registry ++ copies_behind 1 (lists_of (take l.before l.guardians))
