use Rattle.std.proofs.Common.{ap, refl, subst, sym, ◌∙◌}
use Rattle.run_model.specs.Openings.{opening_in}
use Rattle.layer_contracts.specs.Forests.{ForestState}
use Rattle.registry.specs.Registries.{InRegistry, StandsIn}
use Rattle.registry.proofs.Reading.{inside}
use Rattle.registry.proofs.registry.RegistryForest.opening.Goals as goal

pub returns-clause-opening : goal.returns-clause-opening
returns-clause-opening c = λ f at. ap (λ o. opening_in o) c.deref.ensures ∙ sym (inside c.self.view_is at).opening

pub returns-clause-some : goal.returns-clause-some
returns-clause-some c =
    let m : InRegistry = record { opening = c.self.inside.opening.value; actions = c.self.inside.actions; change = c.self.inside.change } in
    let f : ForestState = record { opening = opening_in m.opening; registry = c.self.invariant.0 } in
    (f, subst (λ k. StandsIn k f) c.self.view_is (record { opening = refl; actions = c.self.invariant.1 }))
