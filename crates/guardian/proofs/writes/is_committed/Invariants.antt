use Rattle.std.proofs.Common.{drop, ◌≡◌}
use Rattle.run_model.specs.LocalReadings.{outcome_in, says_committed}
use Rattle.guardian.proofs.writes.is_committed.Given as goal

-- those so far say nothing of the action
abbrev pub invariant-loop-told : goal.invariant-loop-told
invariant-loop-told l = says_committed (outcome_in l.outcomes l.action) ≡ says_committed (outcome_in (drop l.told-index l.outcomes) l.action)
