use Rattle.std.proofs.Common.{List, ℕ}
use Rattle.std.specs.Iterator.{AlwaysYields}
use Rattle.committing.proofs.Trying.{LeadsOn}
use Rattle.committing.proofs.two_phases.commit_by_two_phases.Given as goal

-- of whatever guardians the iterator gives
abbrev pub invariant-loop-guardian : goal.invariant-loop-guardian
invariant-loop-guardian g l =
    (goal.iterator-loop-guardian g).can_next l.guardian-iterator × (goal.iterator-loop-guardian g).is_finite l.guardian-iterator
    × ((guardians : List ℕ) → AlwaysYields g.I.Iterator.next_gives (λ x. x.now) l.fn.participants guardians
    → LeadsOn g.S.CommitSteps.tries g.I.Iterator.next_gives l.top guardians l.guardian-iterator l.fn.steps l.steps)
