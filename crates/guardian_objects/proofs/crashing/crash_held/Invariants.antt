use Rattle.std.proofs.Common.{drop}
use Rattle.std.specs.Map.{values_of}
use Rattle.guardian_objects.proofs.Crashed.{WillCrash}
use Rattle.guardian_objects.proofs.crashing.crash_held.Given as goal

-- with the rows that are left, all will have crashed
abbrev pub invariant-loop-numbers : goal.invariant-loop-numbers
invariant-loop-numbers g l =
    WillCrash (g.S.Survivors.stays l.survivors) l.held.rows l.initial.objects (values_of (drop l.numbers-index l.few)) l.objects

abbrev pub invariant-loop-row : goal.invariant-loop-row
invariant-loop-row g l = WillCrash (g.S.Survivors.stays l.survivors) l.held.rows l.initial.objects l.row-iterator l.objects
