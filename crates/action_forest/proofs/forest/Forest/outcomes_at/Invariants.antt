use Rattle.std.proofs.Common.{Bool, take, ◌≡◌}
use Rattle.action_names.specs.Names.{Name}
use Rattle.run_model.specs.LocalHistories.{events_there}
use Rattle.action_forest.specs.Forests.{AtEach}
use Rattle.action_forest.specs.Trees.{trees}
use Rattle.action_forest.specs.Walks.{untold_at}
use Rattle.action_forest.proofs.forest.Forest.outcomes_at.Given as goal

abbrev pub invariant-loop-place : goal.invariant-loop-place
invariant-loop-place g l =
    (told : Name → Bool) → g.H.Hearer.hears l.hearer told → AtEach (trees l.self) (λ opening registry.
    l.outcomes.items ≡ untold_at (trees l.self) told (events_there registry) (take l.place-index l.places))
