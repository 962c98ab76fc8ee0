use Rattle.std.proofs.Common.{ap, subst, sym, ◌∙◌, ◌∷◌}
use Rattle.run_model.specs.declared.step.Step.TheVariants.{Close}
use Rattle.action_forest.proofs.Ending.{closes}
use Rattle.action_forest.specs.Events.{done}
use Rattle.action_forest.specs.Forests.{IsForest}
use Rattle.action_forest.specs.Trees.{place_of, trees}
use Rattle.action_forest.proofs.forest.Forest.close.Goals as goal

pub returns-in-Some : goal.returns-in-Some
returns-in-Some c = λ opening registry h stamp was.
    subst (λ f. IsForest opening (done stamp (Close c.args.top.now) ∷ registry) f) (sym c.set_closed.ensures)
    (closes opening registry (trees c.args.self.now) c.args.top.now c.in-Some.at stamp
    (ap (place_of (trees c.args.self.now)) (sym c.components.ensures.numbers) ∙ sym c.in-Some.ensures) h)
