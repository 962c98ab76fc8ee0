use Rattle.std.proofs.Common.{false, get_or, ltb, ℕ, ◌<◌, ◌≡◌, ◌≤◌}
use Rattle.action_names.specs.Deps.{guardian_at}
use Rattle.orphans.specs.Knowing.{known_count}
use Rattle.orphans.proofs.lists.Lists.knows_crash_since.Given as goal

-- no guardian so far is known to have crashed since
abbrev pub invariant-loop-guardian : goal.invariant-loop-guardian
invariant-loop-guardian l =
    (k : ℕ) → k < l.guardian-index → 1 ≤ guardian_at l.guardian-items k → guardian_at l.guardian-items k ≤ l.guardians
    → ltb (get_or l.guardian-items k (0, 0)).1 (known_count l.self (guardian_at l.guardian-items k)) ≡ false
