use Rattle.run_model.specs.Actions.{is_begun}
use Rattle.run_model.specs.LocalHistories.{events_there}
use Rattle.step_answers.specs.Actors.{IsActorOf, IsReadAs}
use Rattle.registry.proofs.Reading.{inside, named}
use Rattle.registry.proofs.registry.RegistryForest.actor.Goals as goal

pub returns : goal.returns
returns c = λ f at.
    let past = events_there f.registry in
    named (λ a. IsReadAs (is_begun a past) (IsActorOf a past) c.actor.result)
    c.components.ensures.numbers (c.actor.ensures _ _ (inside c.self.view_is at).actions.forest)
