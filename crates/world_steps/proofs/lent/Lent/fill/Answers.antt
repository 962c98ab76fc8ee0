use Rattle.std.proofs.Common.{Bool, List, Option, [], ap, sym, ℕ, ◌∙◌, ◌≡◌}
use Rattle.action_names.specs.Names.{Name}
use Rattle.run_model.specs.declared.history.Event.{Event}
use Rattle.run_model.specs.LocalReadings.{Carried, LocalEvent}
use Rattle.run_model.specs.LocalHistories.{aborts_from, carried_lent, counts_of_sender, events_there, outcomes_carried, sender_lent, sender_life}
use Rattle.run_model.proofs.Events.{step_is}
use Rattle.layer_contracts.specs.Guardians.{GuardianState, lent_two}
use Rattle.layer_contracts.specs.Forests.{ForestState}
use Rattle.layer_contracts.specs.Messages.{sent_by}
use Rattle.world_steps.specs.Lending.{dependencies_two}
use Rattle.world_steps.proofs.lent.Lent.fill.Goals as goal

abbrev made : Option ℕ → ℕ → List Name → List (ℕ × ℕ) → List (Name × List (ℕ × ℕ)) → List (Name × Bool) → Carried
made sender life aborts counts dependencies outcomes = record {
  sender = sender;
  life = life;
  aborts = aborts;
  counts = counts;
  dependencies = dependencies;
  outcomes = outcomes;
  restored = [];
}

-- part by part, where each number is that of the guardian
carried_is : (f : ForestState) (a b : GuardianState) (e : Event) (g k m : ℕ) (sender : Option ℕ) (life : ℕ) (aborts : List Name) (counts : List (ℕ × ℕ))
    (dependencies : List (Name × List (ℕ × ℕ))) (outcomes : List (Name × Bool)) → k ≡ g → m ≡ g
    → sender ≡ sender_lent e.step k f.registry (lent_two a b) → life ≡ sender_life sender (lent_two a b)
    → aborts ≡ aborts_from sender g (lent_two a b) → counts ≡ counts_of_sender sender g (lent_two a b) → dependencies ≡ dependencies_two f a b e m
    → outcomes ≡ outcomes_carried e.step g (events_there f.registry) (lent_two a b g)
    → made sender life aborts counts dependencies outcomes ≡ carried_lent f.opening e g f.registry (lent_two a b)
carried_is f a b e g k m sender life aborts counts dependencies outcomes n o s l i j d r =
    let lent : ℕ → List LocalEvent = lent_two a b in
    let from : Option ℕ = sender_lent e.step g f.registry lent in
    let same : sender ≡ from = s ∙ ap (λ h. sender_lent e.step h f.registry lent) n in
    ap (λ x. made x life aborts counts dependencies outcomes) same
    ∙ ap (λ x. made from x aborts counts dependencies outcomes) (l ∙ ap (λ x. sender_life x lent) same)
    ∙ ap (λ x. made from (sender_life from lent) x counts dependencies outcomes) (i ∙ ap (λ x. aborts_from x g lent) same)
    ∙ ap (λ x. made from (sender_life from lent) (aborts_from from g lent) x dependencies outcomes) (j ∙ ap (λ x. counts_of_sender x g lent) same)
    ∙ ap (λ x. made from (sender_life from lent) (aborts_from from g lent) (counts_of_sender from g lent) x outcomes)
    (d ∙ ap (λ h. dependencies_two f a b e h) o)
    ∙ ap (λ x. made from (sender_life from lent) (aborts_from from g lent) (counts_of_sender from g lent) (dependencies_two f a b e g) x) r

pub returns : goal.returns
returns g c = λ f a b x lent stood one.
    let step = step_is c.event.view_is in
    carried_is f a b c.args.event.now x.number c.number.result c.number-2.result c.sender-sender.result c.life_of-message.result
    c.lists.new.aborts c.lists.new.counts.items (sent_by f c.args.event.now c.dependencies-message.result) c.outcomes.new.outcomes.items
    (c.number.ensures.number x stood) (c.number-2.ensures.number x stood) (c.sender-sender.ensures f a b lent ∙ ap (λ s. sender_lent s c.number.result f.registry (lent_two a b)) (sym step))
    (c.life_of-message.ensures a b lent.first lent.second) (c.in_ok-lists.ensures.aborts f a b x lent stood one)
    (c.in_ok-lists.ensures.counts f a b x lent stood one) (c.dependencies-message.ensures f a b lent) (c.in_ok-outcomes.ensures f a b x lent stood one
    ∙ ap (λ s. outcomes_carried s x.number (events_there f.registry) (lent_two a b x.number)) (sym step))
