use Rattle.std.proofs.Common.{◌≡◌, ◌++◌, string_bytes}
use Rattle.picture.specs.Escaping.{escaped_chars}
use Rattle.picture.proofs.escape.append_escaped.Given as goal

-- the characters so far were appended
abbrev pub invariant-loop-c : goal.invariant-loop-c
invariant-loop-c l = string_bytes l.document ≡ string_bytes l.fn.document ++ escaped_chars l.yielded
