use Rattle.std.proofs.Common.{ap, subst, sym, ◌∙◌, ◌∷◌}
use Rattle.run_model.proofs.Events.{step_is}
use Rattle.layer_contracts.specs.Forests.{ForestState, RegistryNews, stamped_there}
use Rattle.registry.specs.Following.{AreActions}
use Rattle.registry.specs.Registries.{FitsRegistry, InRegistry}
use Rattle.registry.proofs.Planned.{stands_after}
use Rattle.registry.proofs.registry.RegistryForest.install.Goals as goal

pub apply-requires : goal.apply-requires
apply-requires c = subst (λ (k : InRegistry). FitsRegistry k) (sym c.self.view_is) c.requires.fits

pub invariant_of-self : goal.invariant_of-self
invariant_of-self c =
    let m : InRegistry = record { opening = c.self.inside.opening.value; actions = c.self.inside.actions; change = c.self.inside.change } in
    let f : ForestState = c.requires.planned.0 in
    let news : RegistryNews = c.requires.planned.1 in
    let step = c.event.inside.step.now in
    let after =
    stands_after {after = c.apply.new.change} m c.args.self.now f news step c.args._stamp c.apply.new.self c.self.view_is c.requires.planned.2 c.requires.planned.3
    (ap (λ e. e.step) c.requires.planned.4 ∙ step_is c.event.view_is) c.apply.ensures in (
      stamped_there c.args._stamp news ∷ f.registry,
      subst (λ opening. AreActions opening (stamped_there c.args._stamp news ∷ f.registry) c.apply.new.self) after.opening after.actions,
    )

pub returns : goal.returns
returns c = λ f news at of same.
    let m : InRegistry = record { opening = c.self.inside.opening.value; actions = c.self.inside.actions; change = c.self.inside.change } in
    let step = c.event.inside.step.now in
    stands_after m c.args.self.now f news step c.args._stamp c.apply.new.self c.self.view_is at of
    (ap (λ e. e.step) same ∙ step_is c.event.view_is) c.apply.ensures
