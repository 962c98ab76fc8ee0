use Rattle.std.proofs.Common.{ap, sym, ◌∙◌}
use Rattle.std.proofs.lemmas.List.{take_all}
use Rattle.run_model.specs.LocalHistories.{events_there}
use Rattle.action_forest.proofs.WalksUntold.{untold_passed, untold_pushed}
use Rattle.action_forest.specs.Trees.{trees}
use Rattle.action_forest.specs.Walks.{untold_at}
use Rattle.action_forest.proofs.forest.Forest.outcomes_at.Goals as goal
use Rattle.action_forest.proofs.forest.Forest.outcomes_at.Goals.{in-Some+in_ok-push, in_default}

pub loop-place-preserved : goal.loop-place-preserved
loop-place-preserved g c = λ told hears opening registry h.
    let forest = trees c.args.self.now in
    let outcome = c.in_ok-outcome.ensures told hears opening registry h in
    elim c.match-branch-2.branch [
      | in-Some+in_ok-push w ↦
          untold_pushed forest told (events_there registry) c.args.places.now c.loop-place.place-index w.in-Some.outcome
          c.loop-place.outcomes.items c.match-branch-2.outcomes.items c.loop-place-test.true (sym w.in-Some.is ∙ outcome)
          (c.loop-place.invariant told hears opening registry h) (ap (λ outcomes. outcomes.items) w.outcomes-is ∙ w.in_ok-push.ensures.items)
      | in_default w ↦
          ap (λ outcomes. outcomes.items) w.outcomes-is
          ∙ untold_passed forest told (events_there registry) c.args.places.now c.loop-place.place-index
          c.loop-place.outcomes.items c.loop-place-test.true (sym w.in_default.is ∙ outcome) (c.loop-place.invariant told hears opening registry h)
    ]

pub returns : goal.returns
returns g c = λ told hears opening registry h.
    c.loop-place.invariant told hears opening registry h
    ∙ ap (untold_at (trees c.args.self.now) told (events_there registry))
    (take_all c.loop-place.place-index c.args.places.now c.loop-place-test.false)
