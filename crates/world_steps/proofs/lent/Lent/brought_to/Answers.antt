use Rattle.std.proofs.Common.{ap, arith, sym, true, ◌∙◌, ◌≡◌}
use Rattle.run_model.specs.declared.history.Event.{Event}
use Rattle.run_model.specs.LocalHistories.{events_there, names_guardian}
use Rattle.layer_contracts.specs.Messages.{carried_of}
use Rattle.world_steps.proofs.Agreed.{agrees_at}
use Rattle.world_steps.proofs.Naming.{is_as_named}
use Rattle.world_steps.proofs.Owing.{owed_at}
use Rattle.world_steps.proofs.lent.Lent.brought_to.Goals as goal

pub returns : goal.returns
returns g c = λ f a b x lent stood one opening answered.
    let e : Event = c.args.event.now in
    let yes : c.is_named.result ≡ true = grind arith in
    let named : names_guardian e.step (events_there f.registry) x.number ≡ true =
    ap (λ k. names_guardian e.step (events_there f.registry) k) (sym (c.number.ensures.number x stood)) ∙ sym (is_as_named c.requires f lent.forest _ _ c.is_named.ensures) ∙ yes in
    let message = c.in_ok-fill.ensures f a b x lent stood one in
    record {
      named = named;
      carried = message;
      agrees = agrees_at f a b x e (carried_of f e c.fill.new.message) opening one.past one.number message answered.agrees named;
      owed = owed_at f a b x e (carried_of f e c.fill.new.message) opening one.past message answered named;
    }
