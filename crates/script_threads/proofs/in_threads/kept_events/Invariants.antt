use Rattle.std.proofs.Common.{reverse, take, ◌≡◌}
use Rattle.script_threads.proofs.in_threads.kept_events.Given as goal

-- those before this place
abbrev pub invariant-loop-place : goal.invariant-loop-place
invariant-loop-place l = l.events.items ≡ take l.place (reverse l.kept)
