use Rattle.std.proofs.Common.{◌≡◌, ◌++◌, string_bytes}
use Rattle.script_engine.specs.Running.{base_lines}
use Rattle.script_engine.proofs.running.push_bases.Given as goal

-- what is left is to be said behind what was said
abbrev pub invariant-loop-object : goal.invariant-loop-object
invariant-loop-object l =
    string_bytes l.text ++ base_lines l.guardian l.object-iterator ≡ string_bytes l.fn.text ++ base_lines l.guardian l.bases.entries
