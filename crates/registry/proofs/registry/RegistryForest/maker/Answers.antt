use Rattle.std.proofs.Common.{None, Some, ◌≡◌}
use Rattle.std.specs.Prelude.{MatchOption}
use Rattle.run_model.specs.Actions.{maker_of}
use Rattle.run_model.specs.LocalHistories.{events_there}
use Rattle.registry.proofs.Reading.{inside, named}
use Rattle.registry.proofs.registry.RegistryForest.maker.Goals as goal

pub returns : goal.returns
returns c = λ f at.
    named (λ a. MatchOption c.maker.result (maker_of a (events_there f.registry) ≡ None) (λ maker. maker_of a (events_there f.registry) ≡ Some maker.now))
    c.components.ensures.numbers (c.maker.ensures _ _ (inside c.self.view_is at).actions.forest)
