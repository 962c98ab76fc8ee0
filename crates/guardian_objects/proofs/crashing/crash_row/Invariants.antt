use Rattle.std.proofs.Common.{take}
use Rattle.guardian_objects.specs.Crashes.{HasCrashed}
use Rattle.guardian_objects.specs.Turns.{AreChanged}
use Rattle.guardian_objects.proofs.crashing.crash_row.Given as goal

-- those of the numbers so far have crashed
abbrev pub invariant-loop-number : goal.invariant-loop-number
invariant-loop-number g l = AreChanged (HasCrashed (g.S.Survivors.stays l.survivors)) (take l.number-index l.numbers) l.initial.objects l.objects
