use Rattle.registry.proofs.Reading.{inside}
use Rattle.registry.proofs.registry.RegistryForest.next.Goals as goal

pub returns : goal.returns
returns c = λ f at. c.next.ensures _ _ (inside c.self.view_is at).actions.forest
