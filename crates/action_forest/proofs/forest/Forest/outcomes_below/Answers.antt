use Rattle.std.proofs.Common.{IsPermutation, ap, subst, ◌∙◌, ◌≡◌}
use Rattle.run_model.specs.LocalHistories.{events_there}
use Rattle.action_forest.proofs.WalksSorted.{sorted_outcomes}
use Rattle.action_forest.specs.Trees.{trees}
use Rattle.action_forest.specs.Walks.{untold_at}
use Rattle.action_forest.proofs.forest.Forest.outcomes_below.Goals as goal

pub returns : goal.returns
returns g c = λ told hears opening registry h.
    let forest = trees c.args.self.now in
    let found : c.in_ok-outcomes.outcomes.items ≡ untold_at forest told (events_there registry) c.in_ok-places.places.items =
    c.in_ok-outcomes.ensures told hears opening registry h ∙ ap (untold_at forest told (events_there registry)) c.deref.ensures.value in
    sorted_outcomes forest told (events_there registry) c.args.path.now c.in_ok-places.places.items c.sort_unstable.new.self.items
    (c.in_ok-places.ensures opening registry h)
    (subst (λ before. IsPermutation before c.sort_unstable.new.self.items) found c.sort_unstable.ensures.permutation)
    c.sort_unstable.ensures.sorted
