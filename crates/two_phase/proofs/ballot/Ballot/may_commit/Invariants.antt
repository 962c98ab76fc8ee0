use Rattle.std.proofs.Common.{true, ℕ, ◌<◌, ◌≡◌, ◌≤◌}
use Rattle.action_names.specs.Deps.{guardian_at}
use Rattle.two_phase.specs.Ballots.{is_yes, vote_of}
use Rattle.two_phase.proofs.ballot.Ballot.may_commit.Given as goal

-- those so far who are guardians voted yes
abbrev pub invariant-loop-guardian : goal.invariant-loop-guardian
invariant-loop-guardian l =
    (k : ℕ) → k < l.guardian-index → 1 ≤ guardian_at l.guardian-items k → guardian_at l.guardian-items k ≤ l.guardians
    → is_yes (vote_of l.self (guardian_at l.guardian-items k)) ≡ true
