use Rattle.std.proofs.Common.{◌≡◌, take}
use Rattle.script_engine.proofs.running.copies.Given as goal

-- the first contents
abbrev pub invariant-loop-content : goal.invariant-loop-content
invariant-loop-content l = l.copies.items ≡ take l.content-index l.contents
