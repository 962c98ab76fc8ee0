use Rattle.std.proofs.Common.{◌≡◌}
use Rattle.guardian_index.specs.Held.{IsRising}
use Rattle.guardian_objects.specs.Objects.{index_of}
use Rattle.guardian_objects.proofs.Committing.{MayCommit, WillCommit, numbers_of}
use Rattle.guardian_objects.proofs.objects.Objects.hand_on.Given as goal

-- what is left may be told, and with it all will be
abbrev pub invariant-loop-number : goal.invariant-loop-number
invariant-loop-number l = record {
  guardian : l.self.guardian ≡ l.fn.self.guardian;
  index : index_of l.self ≡ index_of l.fn.self;
  rising : IsRising (numbers_of l.at.items);
  may : MayCommit l.self.objects l.fn.telling.action l.fn.telling.to l.at.items;
  will : WillCommit l.fn.self.objects l.fn.telling.action l.fn.telling.to l.fn.telling.at.items l.self.objects l.at.items;
}

abbrev pub decreases-loop-number : goal.decreases-loop-number
decreases-loop-number l = goal.left-loop-number l
