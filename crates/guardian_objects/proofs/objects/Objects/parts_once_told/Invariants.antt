use Rattle.std.proofs.Common.{◌++◌}
use Rattle.std.specs.Prelude.{vec_len}
use Rattle.std.specs.Map.{keys_of}
use Rattle.guardian_index.specs.Held.{IsRising}
use Rattle.guardian_objects.proofs.Parted.{ArePartly}
use Rattle.guardian_objects.proofs.objects.Objects.parts_once_told.Given as goal

-- the parts so far are those of the numbers that are not left
abbrev pub invariant-loop-number : goal.invariant-loop-number
invariant-loop-number l = record {
  rising : IsRising (l.numbers.items ++ keys_of l.parts.entries);
  partly : ArePartly l.self l.top l.outcomes l.initial.numbers.items l.numbers.items l.parts.entries;
}

abbrev pub decreases-loop-number : goal.decreases-loop-number
decreases-loop-number l = vec_len l.numbers
