use Rattle.std.proofs.Common.{take}
use Rattle.run_model.specs.LocalHistories.{events_there}
use Rattle.action_forest.specs.Forests.{AtEach}
use Rattle.action_forest.specs.Trees.{trees}
use Rattle.action_forest.specs.Walks.{AreReached}
use Rattle.action_forest.proofs.forest.Forest.descendants.Given as goal

abbrev pub invariant-loop-next : goal.invariant-loop-next
invariant-loop-next l =
    AtEach (trees l.self) (λ opening registry. AreReached (trees l.self) l.path (events_there registry) (take l.next l.below.items) l.below.items)
