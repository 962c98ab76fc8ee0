use Rattle.std.proofs.Common.{None, Some, refl, subst, sym, ◌∙◌, ◌∷◌, ◌≡◌}
use Rattle.run_model.specs.declared.step.Step.TheVariants.{Commit}
use Rattle.action_forest.proofs.Ending.{commit_changes, commits}
use Rattle.action_forest.specs.Events.{done}
use Rattle.action_forest.specs.Forests.{IsForest}
use Rattle.action_forest.specs.Trees.{maker_place, trees}
use Rattle.action_forest.proofs.forest.Forest.commit.Goals as goal

pub returns-in-Some-maker_place : goal.returns-in-Some-maker_place
returns-in-Some-maker_place c = λ opening registry h stamp a is was top.
    let forest = trees c.args.self.now in
    let at = sym is.at ∙ c.in-Some.is in
    subst (λ f. IsForest opening (done stamp (Commit a) ∷ registry) f)
    (sym (commit_changes c.in-Some.at c.args.plan.now.depends forest (trees c.end.new.self) (trees c.set_depends.new.self)
    (Some c.in-Some-maker_place.parent) c.end.ensures c.in-Some-maker_place.ensures c.set_depends.ensures))
    (commits opening registry forest a c.in-Some.at stamp c.args.plan.now.depends at is.depends was top h)

pub returns-in_default-maker_place : goal.returns-in_default-maker_place
returns-in_default-maker_place c = λ opening registry h stamp a is was top.
    let forest = trees c.args.self.now in
    let at = sym is.at ∙ c.in-Some.is in
    let none : None ≡ maker_place (trees c.end.new.self) c.in-Some.at = c.in_default-maker_place.ensures in
    subst (λ f. IsForest opening (done stamp (Commit a) ∷ registry) f)
    (sym (commit_changes c.in-Some.at c.args.plan.now.depends forest (trees c.end.new.self) (trees c.end.new.self) None
    c.end.ensures none refl))
    (commits opening registry forest a c.in-Some.at stamp c.args.plan.now.depends at is.depends was top h)
