use Rattle.std.proofs.Common.{reverse, take, true, ◌≡◌}
use Rattle.run_model.specs.LocalHistories.{events_there}
use Rattle.layer_contracts.specs.Forests.{ForestState}
use Rattle.script_threads.specs.Ended.{have_ended_there}
use Rattle.script_threads.proofs.ended.have_all_ended.Given as goal

-- each that was begun before this place has ended
abbrev pub invariant-loop-place : goal.invariant-loop-place
invariant-loop-place g l =
    (f : ForestState) → g.R.Forest.stands l.registry.value f
    → have_ended_there (events_there f.registry) (take l.place (reverse (l.registry.history))) ≡ true
