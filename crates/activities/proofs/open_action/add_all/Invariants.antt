use Rattle.std.proofs.Common.{◌≡◌}
use Rattle.activities.specs.Serial.{joined}
use Rattle.activities.proofs.open_action.add_all.Given as goal

abbrev pub invariant-loop-guardian : goal.invariant-loop-guardian
invariant-loop-guardian l = joined l.to.keys l.guardian-iterator ≡ joined l.fn.to.keys l.guardians.keys
