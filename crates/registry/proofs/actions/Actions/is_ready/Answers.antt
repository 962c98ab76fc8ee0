use Rattle.std.proofs.Common.{None, ap, is_none, length, sym, ℕ, ◌∙◌, ◌≡◌, ◌||◌}
use Rattle.std.specs.FinMap as map
use Rattle.std.specs.List.{list_all}
use Rattle.run_model.specs.Lists.{guardians_of}
use Rattle.run_model.specs.LocalHistories.{dependency_there, events_there}
use Rattle.run_model.specs.Openings.{opening_in}
use Rattle.run_model.specs.Visibility.{has_prepared}
use Rattle.two_phase.proofs.Participants.{all_guardians}
use Rattle.registry.specs.Following.{is_ready_there}
use Rattle.registry.proofs.actions.Actions.is_ready.Goals as goal

pub returns-in-Some : goal.returns-in-Some
returns-in-Some c = λ registry are.
    let top = c.args.top.now in
    let same : (g : ℕ) → map.get c.in-Some.participants.now g ≡ dependency_there top g registry = λ g.
    c.in-Some.ensures.least _ registry are.forest g ∙ ap (λ a. dependency_there a g registry) c.components.ensures.numbers in
    c.may_commit.ensures (events_there registry) are.ballots
    ∙ (λ i. list_all (λ g. is_none (same g i) || has_prepared g top (events_there registry)) (guardians_of (opening_in c.args.opening.now)))

pub returns-in-None : goal.returns-in-None
returns-in-None c = λ registry are.
    let top = c.args.top.now in
    let none : (g : ℕ) → None ≡ dependency_there top g registry = λ g.
    c.in-None.ensures.least _ registry are.forest g ∙ ap (λ a. dependency_there a g registry) c.components.ensures.numbers in
    sym (all_guardians (is_ready_there top registry) (length c.args.opening.now.setup)
    (λ g low high. ap (λ o. is_none o || has_prepared g top (events_there registry)) (sym (none g))))
