use Rattle.std.proofs.Common.{ap, eqb-true, sym, ◌∙◌}
use Rattle.std.proofs.lemmas.List.{nil_from_length}
use Rattle.run_model.specs.Actions.{names_begun}
use Rattle.run_model.proofs.Events.{answer_is, step_is}
use Rattle.world_steps.proofs.Naming.{home_of_same}
use Rattle.world_steps.proofs.New.{begun_never, begun_there}
use Rattle.world_steps.proofs.lent.Lent.life_of_new.Goals as goal

pub returns-then-is_empty : goal.returns-then-is_empty
returns-then-is_empty g c = λ f a b lent.
    let none = nil_from_length c.names_begun.result.now (eqb-true _ _ (sym c.is_empty.ensures ∙ c.if-is_empty.true)) in
    begun_never f a b c.args.event.now 0 (ap names_begun (answer_is c.event.view_is) ∙ sym c.names_begun.ensures ∙ none)

pub returns : goal.returns
returns g c = λ f a b lent.
    begun_there f a b c.args.event.now c.home_of_new.result c.crashes_at.result
    (home_of_same c.args.named c.home_of_new.result (step_is c.event.view_is) c.home_of_new.ensures f (c.requires.first f lent.forest) (c.requires.second f lent.forest))
    (c.crashes_at.ensures a b lent.first lent.second)
