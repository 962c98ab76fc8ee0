use Rattle.run_model.specs.LocalHistories.{events_there}
use Rattle.registry.proofs.Reading.{inside}
use Rattle.registry.proofs.registry.RegistryForest.has_voted.Goals as goal

pub returns : goal.returns
returns c = λ f at. c.has_voted.ensures (events_there f.registry) (inside c.self.view_is at).actions.ballots
