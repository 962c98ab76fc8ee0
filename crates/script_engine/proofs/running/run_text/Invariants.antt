use Rattle.std.proofs.Common.{◌≡◌, ◌++◌, map, string_bytes, take}
use Rattle.script_engine.specs.Running.{base_lines, end_line, numbered}
use Rattle.script_engine.proofs.running.run_text.Given as goal

-- the lines of the first clients
abbrev pub invariant-loop-index : goal.invariant-loop-index
invariant-loop-index l = string_bytes l.text ≡ numbered end_line 1 (take l.index l.ends)

-- those of all clients, and of the first guardians
abbrev pub invariant-loop-index-2 : goal.invariant-loop-index-2
invariant-loop-index-2 l = string_bytes l.text ≡ numbered end_line 1 l.fn.ends ++ numbered base_lines 1 (take l.index (map (λ base. base.entries) l.bases))
