use Rattle.std.proofs.Common.{Bor, Option, ap, sym, ℕ, ◌∙◌, ◌≡◌}
use Rattle.std.specs.FinMap as tree
use Rattle.std.specs.Option.{option_and_then}
use Rattle.std.specs.Ordering.{nat_cmp}
use Rattle.std.proofs.lemmas.Result.{IfOk-weaker}
use Rattle.action_names.specs.Deps.{Deps}
use Rattle.action_names.specs.declared.deps.Deps as declared
use Rattle.run_model.proofs.Events.{step_is}
use Rattle.run_model.specs.Actions.{names_begun}
use Rattle.run_model.specs.LocalReadings.{beside, least_of}
use Rattle.layer_contracts.specs.Forests.{new_entries}
use Rattle.layer_contracts.specs.Messages.{known_sent, sent_by}
use Rattle.roster.proofs.Came.{beside_get}
use Rattle.roster.proofs.Sent.{first_says}
use Rattle.roster.proofs.roster.Roster.begun_with.Goals as goal

pub returns-in-Nothing : goal.returns-in-Nothing
returns-in-Nothing g c = λ f stands begins h.
    ap (λ deps. tree.get deps h) c.new.ensures
    ∙ tree.get-empty nat_cmp h
    ∙ ap (λ s. least_of (sent_by f c.args.event.now s) c.args.name.now h) (sym c.in-Nothing.is)

pub returns-in-Some : goal.returns-in-Some
returns-in-Some g c = λ f stands begins.
    IfOk-weaker c.copy.result _ _
    (λ d is h.
    ap (λ deps. tree.get deps h) is
    ∙ ap (λ (o : Option (Bor declared.Deps)). option_and_then (λ deps. tree.get deps.now h) o) (sym c.in-Some.is)
    ∙ c.known_of.ensures f stands h
    ∙ ap (λ s. least_of (known_sent f s) c.args.name.now h) (sym (step_is c.event.view_is))
    ∙ ap (λ s. least_of (sent_by f c.args.event.now s) c.args.name.now h) (sym c.in-OfKnown.is))
    c.copy.ensures

pub returns-in-None : goal.returns-in-None
returns-in-None g c = λ f stands begins h.
    ap (λ deps. tree.get deps h) c.new-in-None.ensures
    ∙ tree.get-empty nat_cmp h
    ∙ ap (λ (o : Option (Bor declared.Deps)). option_and_then (λ deps. tree.get deps.now h) o) (sym c.in-None.is)
    ∙ c.known_of.ensures f stands h
    ∙ ap (λ s. least_of (known_sent f s) c.args.name.now h) (sym (step_is c.event.view_is))
    ∙ ap (λ s. least_of (sent_by f c.args.event.now s) c.args.name.now h) (sym c.in-OfKnown.is)

pub returns-in-OfNew : goal.returns-in-OfNew
returns-in-OfNew g c = λ f stands begins.
    let home = c.in-OfNew.home in
    let life = c.in-OfNew.life in
    let e = c.args.event.now in
    let a = c.args.name.now in
    IfOk-weaker c.new_dependencies.result (λ (d : Deps). tree.entries d ≡ new_entries f home life a)
    (λ (d : Deps). (h : ℕ) → tree.get d h ≡ least_of (sent_by f e c.args.sending) a h)
    (λ d is h.
    sym (beside_get d h)
    ∙ ap (λ es. beside es h) is
    ∙ sym (first_says (new_entries f home life) (names_begun e.answer) a h begins)
    ∙ ap (λ s. least_of (sent_by f e s) a h) (sym c.in-OfNew.is))
    (c.new_dependencies.ensures f stands)
