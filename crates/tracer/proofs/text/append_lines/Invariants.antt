use Rattle.std.proofs.Common.{◌≡◌, ◌++◌, string_bytes}
use Rattle.tracer.specs.Explained.{entries_text}
use Rattle.tracer.proofs.text.append_lines.Given as goal

-- what was written, and the lines of the entries that are left
abbrev pub invariant-loop-place : goal.invariant-loop-place
invariant-loop-place l = string_bytes l.text ++ entries_text l.place-iterator ≡ string_bytes l.fn.text ++ entries_text l.operations.entries
