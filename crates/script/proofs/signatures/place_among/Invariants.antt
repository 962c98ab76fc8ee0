use Rattle.std.proofs.Common.{◌≡◌, ◌≤◌, ◌+◌, ◌-◌}
use Rattle.std.specs.Map.{keys_of}
use Rattle.script.proofs.Numbered.{place_in}
use Rattle.script.proofs.signatures.place_among.Given as goal

-- the name is none of those before
abbrev pub invariant-loop-other : goal.invariant-loop-other
invariant-loop-other l = (l.place ≤ 64) × (l.place + place_in (64 - l.place) l.name l.other-iterator ≡ place_in 64 l.name (keys_of l.handlers.entries))
