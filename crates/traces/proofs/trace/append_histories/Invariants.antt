use Rattle.std.proofs.Common.{◌≡◌, ◌++◌, string_bytes, take}
use Rattle.traces.specs.Traces.{lines_from, lines_text, lists_of}
use Rattle.traces.proofs.trace.append_histories.Given as goal

abbrev pub invariant-loop-before : goal.invariant-loop-before
invariant-loop-before l = string_bytes l.text ≡ string_bytes l.fn.text ++ lines_text (lines_from 1 (lists_of (take l.before l.guardians)))
