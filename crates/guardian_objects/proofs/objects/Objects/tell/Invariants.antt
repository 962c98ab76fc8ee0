use Rattle.std.proofs.Common.{length, ◌≡◌}
use Rattle.std.specs.List.{AllByRecursion}
use Rattle.guardian_objects.specs.Outcomes.{is_alone}
use Rattle.guardian_objects.specs.Turns.{IsReady}
use Rattle.guardian_objects.proofs.Turning.{StandsTold}
use Rattle.guardian_objects.proofs.objects.Objects.tell.Given as goal

-- what is left is ready, and all stand as what was told makes it
abbrev pub invariant-loop-telling : goal.invariant-loop-telling
invariant-loop-telling l = record {
  guardian : l.self.guardian ≡ l.fn.self.guardian;
  count : length l.self.objects ≡ length l.fn.self.objects;
  ready : AllByRecursion (IsReady (is_alone l.fn.planned.tellings.items) l.self) l.planned.tellings.items;
  stands : StandsTold l.fn.planned.tellings.items l.fn.self l.planned.tellings.items l.self;
}

abbrev pub decreases-loop-telling : goal.decreases-loop-telling
decreases-loop-telling l = goal.left-loop-telling l
