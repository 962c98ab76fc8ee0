-- Events that neither begin, close nor end an action.
use Rattle.std.proofs.Common.{List, [], Option, ap, cond, count_by, false, is_some, not, refl, sym, true, ℕ, ◌∙◌, ◌∷◌, ◌≡◌, ◌||◌}
use Rattle.std.proofs.lemmas.Bool.{false≢true}
use Rattle.action_names.specs.Names.{Name, has_name}
use Rattle.run_model.specs.declared.step.Step.{Step}
use Rattle.run_model.specs.declared.step.Step.TheVariants.{Abort, Close, Commit, Decide}
use Rattle.run_model.specs.Actions.{is_aborted, is_closed, is_committed, is_ended, made_by, names_begun, step_aborts, step_closes, step_commits}
use Rattle.run_model.specs.LocalHistories.{RegistryEvent, dependency_there, events_there, new_least}
use Rattle.run_model.specs.LocalReadings.{after_commit}
use Rattle.run_model.specs.Openings.{Opening}
use Rattle.action_forest.proofs.Quiet.{made_quiet, tree_quiet}
use Rattle.action_forest.specs.Events.{is_still, status_there}
use Rattle.action_forest.specs.Forests.{IsForest}
use Rattle.action_forest.specs.Trees.{Trees}
use Rattle.step_answers.specs.declared.actor.Status.TheVariants.{Aborted, Active, Closed, Committed}

pub still_commits : (step : Step) (a : Name) → is_still step ≡ true → step_commits step a ≡ false
still_commits (Commit b) a h = absurd (false≢true h)
still_commits (Decide b) a h = absurd (false≢true h)
still_commits _ a h = refl

pub still_aborts : (step : Step) (a : Name) → is_still step ≡ true → step_aborts step a ≡ false
still_aborts (Abort b) a h = absurd (false≢true h)
still_aborts _ a h = refl

pub still_closes : (step : Step) (a : Name) → is_still step ≡ true → step_closes step a ≡ false
still_closes (Close b) a h = absurd (false≢true h)
still_closes (Commit b) a h = absurd (false≢true h)
still_closes _ a h = refl

pub still_depends : (step : Step) (a : Name) (own : Option ℕ) (came : Name → Option ℕ) → is_still step ≡ true → after_commit step a own came ≡ own
still_depends (Commit b) a own came h = absurd (false≢true h)
still_depends _ a own came h = refl

pub committed_still : (c : RegistryEvent) (registry : List RegistryEvent) → is_still c.event.step ≡ true → (a : Name)
    → is_committed a (events_there (c ∷ registry)) ≡ is_committed a (events_there registry)
committed_still c registry h a = ap (λ b. b || is_committed a (events_there registry)) (still_commits c.event.step a h)

pub aborted_still : (c : RegistryEvent) (registry : List RegistryEvent) → is_still c.event.step ≡ true → (a : Name)
    → is_aborted a (events_there (c ∷ registry)) ≡ is_aborted a (events_there registry)
aborted_still c registry h a = ap (λ b. b || is_aborted a (events_there registry)) (still_aborts c.event.step a h)

pub ended_still : (c : RegistryEvent) (registry : List RegistryEvent) → is_still c.event.step ≡ true → (a : Name)
    → is_ended a (events_there (c ∷ registry)) ≡ is_ended a (events_there registry)
ended_still c registry h a = λ i. committed_still c registry h a i || aborted_still c registry h a i

pub closed_still : (c : RegistryEvent) (registry : List RegistryEvent) → is_still c.event.step ≡ true → (a : Name)
    → is_closed a (events_there (c ∷ registry)) ≡ is_closed a (events_there registry)
closed_still c registry h a = ap (λ b. b || is_closed a (events_there registry)) (still_closes c.event.step a h)

pub status_still : (c : RegistryEvent) (registry : List RegistryEvent) → is_still c.event.step ≡ true → (a : Name)
    → status_there a (events_there (c ∷ registry)) ≡ status_there a (events_there registry)
status_still c registry h a = λ i.
    cond (committed_still c registry h a i) Committed
    (cond (aborted_still c registry h a i) Aborted (cond (closed_still c registry h a i) Closed Active))

-- Such an event leaves a forest to say what it says.
pub unmoved : (opening : Opening) (registry : List RegistryEvent) (forest : Trees) (c : RegistryEvent) → names_begun c.event.answer ≡ []
    → is_still c.event.step ≡ true → IsForest opening registry forest → IsForest opening (c ∷ registry) forest
unmoved opening registry forest c none still h = record {
  first = h.first;
  setup = h.setup;
  tree = tree_quiet registry forest c none h.tree;
  status = λ a. h.status a ∙ sym (status_still c registry still a);
  depends = λ a g. h.depends a g ∙ sym (depends_same a g);
  unended = λ a.
      h.unended a
      ∙ sym ((λ i. count_by (λ b. not (ended_still c registry still b i)) (made_by a (events_there (c ∷ registry))))
      ∙ ap (count_by (λ b. not (is_ended b (events_there registry)))) (made_quiet c registry a none));
  inside = λ a g some. h.inside a g (ap is_some (sym (depends_same a g)) ∙ some);
}
  where
    depends_same : (a : Name) (g : ℕ) → dependency_there a g (c ∷ registry) ≡ dependency_there a g registry
    depends_same a g =
        ap (λ names. cond (has_name names a) (new_least c.begun a g)
        (after_commit c.event.step a (dependency_there a g registry) (λ d. dependency_there d g registry))) none
        ∙ still_depends c.event.step a (dependency_there a g registry) (λ d. dependency_there d g registry) still
