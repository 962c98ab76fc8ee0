use Rattle.std.proofs.Common.{◌≡◌, ◌≤◌, ◌<◌, ℕ, true}
use Rattle.run_model.specs.Actions.{home_of, is_begun}
use Rattle.argus_c.proofs.called.home.Given as goal

-- none of the guardians that were asked is the home
abbrev pub invariant-loop-guardian : goal.invariant-loop-guardian
invariant-loop-guardian l =
    is_begun l.top l.world.run.past ≡ true → (g : ℕ) → 1 ≤ g → g < l.guardian → home_of l.top l.world.run.past ≡ g → ⊥
