use Rattle.registry.proofs.Reading.{inside}
use Rattle.registry.proofs.registry.RegistryLineage.new_dependencies.Goals as goal

pub returns : goal.returns
returns c = λ f at. c.new_dependencies.ensures _ _ (inside c.self.view_is at).actions.forest
