use Rattle.std.proofs.Common.{◌≡◌, ◌++◌, string_bytes, take}
use Rattle.traces.specs.Traces.{lines_text, owned_lines}
use Rattle.traces.proofs.trace.append_history.Given as goal

abbrev pub invariant-loop-stamped : goal.invariant-loop-stamped
invariant-loop-stamped l = string_bytes l.text ≡ string_bytes l.fn.text ++ lines_text (owned_lines l.owner (take l.stamped-index l.history))
