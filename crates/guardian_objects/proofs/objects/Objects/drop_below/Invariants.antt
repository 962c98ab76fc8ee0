use Rattle.std.proofs.Common.{◌≡◌}
use Rattle.guardian_index.specs.Held.{IsRising}
use Rattle.guardian_objects.proofs.Aborting.{AreThere, WillAbort}
use Rattle.guardian_objects.proofs.Committing.{numbers_of}
use Rattle.guardian_objects.proofs.objects.Objects.drop_below.Given as goal

-- what is left is there to be told, and with it all will be
abbrev pub invariant-loop-number : goal.invariant-loop-number
invariant-loop-number l = record {
  guardian : l.self.guardian ≡ l.fn.self.guardian;
  held : l.self.held ≡ l.fn.self.held;
  rising : IsRising (numbers_of l.at.items);
  there : AreThere l.self.objects l.at.items;
  will : WillAbort l.fn.self.objects l.fn.telling.action l.fn.telling.at.items l.self.objects l.at.items;
}

abbrev pub decreases-loop-number : goal.decreases-loop-number
decreases-loop-number l = goal.left-loop-number l
