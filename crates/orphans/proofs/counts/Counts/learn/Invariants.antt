use Rattle.std.proofs.Common.{vec_len, ◌≡◌}
use Rattle.run_model.specs.LocalReadings.{raised}
use Rattle.orphans.specs.Logs.{HasCountRoom, known_counts}
use Rattle.orphans.proofs.counts.Counts.learn.Given as goal

-- what is left to learn would give the same, and has room
abbrev pub invariant-loop-guardian : goal.invariant-loop-guardian
invariant-loop-guardian l = record {
  learnt : raised l.counts.items (known_counts l.self) ≡ raised l.fn.counts.items (known_counts l.fn.self);
  room : HasCountRoom l.self (vec_len l.counts);
}

abbrev pub decreases-loop-guardian : goal.decreases-loop-guardian
decreases-loop-guardian l = goal.left-loop-guardian l
