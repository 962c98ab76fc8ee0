use Rattle.std.proofs.Common.{◌==◌, ap, eqb-true, sym, ◌∙◌}
use Rattle.std.proofs.lemmas.Bool.{ne_eqb}
use Rattle.std.proofs.lemmas.List.{nil_from_length}
use Rattle.run_model.specs.Actions.{names_begun}
use Rattle.run_model.proofs.Events.{answer_is, step_is}
use Rattle.world_steps.proofs.Naming.{home_of_same}
use Rattle.world_steps.proofs.New.{new_elsewhere, new_here, new_never}
use Rattle.run_laws.proofs.Names.{eqb_self}
use Rattle.world_steps.proofs.lent.Lent.new_dependencies.Goals as goal

pub returns-then-is_empty : goal.returns-then-is_empty
returns-then-is_empty g c = λ f a b lent.
    let none = nil_from_length c.names_begun.result.now (eqb-true _ _ (sym c.is_empty.ensures ∙ c.if-is_empty.true)) in
    new_never f a b c.args.event.now c.args.at (ap names_begun (answer_is c.event.view_is) ∙ sym c.names_begun.ensures ∙ none)

pub returns-then-home-at : goal.returns-then-home-at
returns-then-home-at g c = λ f a b lent.
    new_elsewhere f a b c.args.event.now c.args.at c.home_of_new-home.result (home_of_same c.args.named c.home_of_new-home.result (step_is c.event.view_is) c.home_of_new-home.ensures f (c.requires.first f lent.forest) (c.requires.second f lent.forest)) (ne_eqb _ _ c.if-home-at.true)

pub returns : goal.returns
returns g c = λ f a b lent.
    new_here f a b c.args.event.now c.args.at c.home_of_new-home.result c.crashes_at.result
    (home_of_same c.args.named c.home_of_new-home.result (step_is c.event.view_is) c.home_of_new-home.ensures f (c.requires.first f lent.forest) (c.requires.second f lent.forest))
    (c.crashes_at.ensures a b lent.first lent.second) (ap (λ m. m == c.args.at) c.if-home-at.false ∙ eqb_self c.args.at)
