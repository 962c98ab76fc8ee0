use Rattle.std.proofs.Common.{◌≡◌, take}
use Rattle.script_engine.proofs.running.setup_of.Given as goal

-- the objects of the first guardians
abbrev pub invariant-loop-objects : goal.invariant-loop-objects
invariant-loop-objects l = l.setup ≡ take l.objects-index l.objects-items
