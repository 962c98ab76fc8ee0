use Rattle.std.proofs.Common.{vec_len, ◌≡◌}
use Rattle.run_model.specs.LocalReadings.{learnt}
use Rattle.orphans.specs.Logs.{HasRoom, known_names, names_of}
use Rattle.orphans.proofs.log.Log.learn.Given as goal

-- what is left to learn would give the same, and has room
abbrev pub invariant-loop-abort : goal.invariant-loop-abort
invariant-loop-abort l = record {
  learnt : learnt (names_of l.aborts.items) (known_names l.self) ≡ learnt (names_of l.fn.aborts.items) (known_names l.fn.self);
  room : HasRoom l.self (vec_len l.aborts);
}

abbrev pub decreases-loop-abort : goal.decreases-loop-abort
decreases-loop-abort l = goal.left-loop-abort l
