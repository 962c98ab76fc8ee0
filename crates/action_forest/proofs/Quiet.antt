-- Events that begin nothing.
use Rattle.std.proofs.Common.{Bool, List, [], None, Option, Some, ap, cond, count_by, false, filter, is_some, length, refl, subst, sym, true, ℕ, ◌++◌, ◌<◌, ◌∙◌, ◌∷◌, ◌≡◌}
use Rattle.action_names.specs.Names.{Name, has_name, parent_of, same_name}
use Rattle.run_model.specs.Actions.{begins, begun, home_in, home_of, is_begun, is_exactly, made_by, maker_in, maker_of, names_begun, step_makes}
use Rattle.run_model.specs.LocalHistories.{RegistryEvent, events_there}
use Rattle.action_forest.proofs.Changed.{KeepsTree, children_changed, count_changed, maker_changed, name_changed, place_changed, said_kept}
use Rattle.action_forest.specs.Forests.{IsTree}
use Rattle.action_forest.specs.Trees.{Action, Trees, changed, changed_at}

-- what nothing is made of
pub made_quiet : (c : RegistryEvent) (registry : List RegistryEvent) (m : Name) → names_begun c.event.answer ≡ []
    → made_by m (events_there (c ∷ registry)) ≡ made_by m (events_there registry)
made_quiet c registry m none = ap (λ names. cond (step_makes c.event.step m) names [] ++ made_by m (events_there registry)) none ∙ of (step_makes c.event.step m)
  where
    of : (b : Bool) → cond b [] [] ++ made_by m (events_there registry) ≡ made_by m (events_there registry)
    of true = refl
    of false = refl

-- what such an event leaves of the trees
pub tree_quiet : (registry : List RegistryEvent) (forest : Trees) (c : RegistryEvent) → names_begun c.event.answer ≡ [] → IsTree registry forest
    → IsTree (c ∷ registry) forest
tree_quiet registry forest c none h = record {
  count = h.count ∙ sym (ap length begun_same);
  found = λ a. h.found a ∙ sym (is_begun_same a);
  named = h.named;
  placed = h.placed;
  home = λ a. h.home a ∙ sym (not_begun a (home_in c.event.step (λ b. home_of b (events_there registry))) (home_of a (events_there registry)));
  makers = h.makers;
  maker = λ a. h.maker a ∙ sym (maker_same a);
  children = λ a. h.children a ∙ sym (ap (λ names. length (filter (λ b. same_name (parent_of b) a) names)) begun_same);
  made = λ a m.
      ap (count_by (λ b. same_name b a)) (made_quiet c registry m none)
      ∙ h.made a m ∙ ap (λ o. cond (is_exactly o m) 1 0) (sym (maker_same a));
  parents = λ a was top. maker_same a ∙ h.parents a (sym (is_begun_same a) ∙ was) top;
}
  where
    not_begun : {B : Type 0} (a : Name) (x y : B) → cond (begins c.event a) x y ≡ y
    not_begun a x y = ap (λ names. cond (has_name names a) x y) none

    begun_same : begun (events_there (c ∷ registry)) ≡ begun (events_there registry)
    begun_same = ap (λ names. names ++ begun (events_there registry)) none

    is_begun_same : (a : Name) → is_begun a (events_there (c ∷ registry)) ≡ is_begun a (events_there registry)
    is_begun_same a = ap (λ names. has_name names a) begun_same

    maker_same : (a : Name) → maker_of a (events_there (c ∷ registry)) ≡ maker_of a (events_there registry)
    maker_same a = not_begun a (maker_in c.event.step) (maker_of a (events_there registry))

-- the trees stay as one action is changed
pub tree_changed : (registry : List RegistryEvent) (forest : Trees) (f : Action → Action) (i : ℕ) → KeepsTree f → IsTree registry forest
    → IsTree registry (changed f i forest)
tree_changed registry forest f i keeps h = record {
  count = count_changed f i forest ∙ h.count;
  found = λ a. ap is_some (place_changed f i forest keeps a) ∙ h.found a;
  named = λ a j at. name_changed f i forest keeps j ∙ h.named a j (sym (place_changed f i forest keeps a) ∙ at);
  placed = λ a j name. place_changed f i forest keeps a ∙ h.placed a j (sym (name_changed f i forest keeps j) ∙ name);
  home = λ a. said_kept (λ action. action.home) 0 f i forest keeps keeps.home a ∙ h.home a;
  makers = λ a j e.
      subst (λ n. j < n) (sym (count_changed f i forest))
      (h.makers a j (sym (said_kept (λ action. action.maker) None f i forest keeps keeps.maker a) ∙ e));
  maker = λ a. maker_changed f i forest keeps a ∙ h.maker a;
  children = λ a. ap length (children_changed f i forest keeps a) ∙ h.children a;
  made = h.made;
  parents = h.parents;
}

pub tree_changed_at : (registry : List RegistryEvent) (forest : Trees) (f : Action → Action) (o : Option ℕ) → KeepsTree f → IsTree registry forest
    → IsTree registry (changed_at f o forest)
tree_changed_at registry forest f None keeps h = h
tree_changed_at registry forest f (Some i) keeps h = tree_changed registry forest f i keeps h
