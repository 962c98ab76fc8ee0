use Rattle.std.proofs.Common.{◌≡◌}
use Rattle.run_model.specs.LocalHistories.{dependency_there}
use Rattle.registry.proofs.Reading.{inside, named}
use Rattle.registry.proofs.registry.RegistryForest.dependency.Goals as goal

pub returns : goal.returns
returns c = λ f at.
    named (λ a. c.dependency.result ≡ dependency_there a c.args.guardian f.registry)
    c.components.ensures.numbers (c.dependency.ensures _ _ (inside c.self.view_is at).actions.forest)
