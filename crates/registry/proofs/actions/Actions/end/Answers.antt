use Rattle.std.proofs.Common.{subst, sym, ◌∷◌}
use Rattle.action_forest.specs.Events.{done}
use Rattle.action_forest.specs.Forests.{IsForest}
use Rattle.action_forest.specs.Trees.{trees}
use Rattle.registry.specs.Following.{MayEnd}
use Rattle.registry.proofs.actions.Actions.end.Goals as goal

pub returns-in-Decide-clause-ended : goal.returns-in-Decide-clause-ended
returns-in-Decide-clause-ended c = λ opening registry h stamp may.
    subst (λ s. MayEnd registry s → IsForest opening (done stamp s ∷ registry) (trees c.decide.new.self)) (sym c.in-Decide.is)
    (λ own. c.decide.ensures opening registry h stamp own) may

pub returns-in-Abort-clause-ended : goal.returns-in-Abort-clause-ended
returns-in-Abort-clause-ended c = λ opening registry h stamp may.
    subst (λ s. MayEnd registry s → IsForest opening (done stamp s ∷ registry) (trees c.abort.new.self)) (sym c.in-Abort.is)
    (λ own. c.abort.ensures opening registry h stamp own) may

pub returns-in-Close-clause-ended : goal.returns-in-Close-clause-ended
returns-in-Close-clause-ended c = λ opening registry h stamp may.
    subst (λ s. MayEnd registry s → IsForest opening (done stamp s ∷ registry) (trees c.close.new.self)) (sym c.in-Close.is)
    (λ own. c.close.ensures opening registry h stamp own) may
