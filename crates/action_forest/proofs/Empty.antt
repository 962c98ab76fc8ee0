-- A forest before a history.
use Rattle.std.proofs.Common.{[], None, ap, is_some, refl, suc, ℕ, ◌∙◌, ◌∷◌, ◌≡◌, length}
use Rattle.std.specs.FinMap as tree
use Rattle.std.specs.Prelude.{slice_get}
use Rattle.std.specs.Option.{option_and_then}
use Rattle.action_names.specs.Names.{Name}
use Rattle.run_model.specs.Openings.{Opening, given_before}
use Rattle.action_forest.proofs.Found.{below_none, numbered_none}
use Rattle.action_forest.specs.Forests.{IsForest}
use Rattle.action_forest.specs.Trees.{Action, Trees, action_of, children_of, name_at, place_below, place_of, said}
use Rattle.step_answers.specs.declared.actor.Status.TheVariants.{Active}

module _ (first guardians : ℕ) where
  abbrev pub empty : Trees
  empty = record { first_top = first; guardians = guardians; actions = []; tops = [] }

  nowhere : (a : Name) → place_of empty a ≡ None
  nowhere [] = refl
  nowhere (n ∷ a) = ap (place_below [] a) (numbered_none first n) ∙ below_none [] a

  nothing_said : {B : Type 0} (field : Action → B) (missing : B) (a : Name) → said field missing (action_of empty a) ≡ missing
  nothing_said field missing a = ap (λ o. said field missing (option_and_then (λ i. slice_get {X = Action} [] i) o)) (nowhere a)

  pub empty_is : (opening : Opening) → first ≡ suc (given_before opening []) → guardians ≡ length opening.setup → IsForest opening [] empty
  empty_is opening is_first is_setup = record {
    first = is_first;
    setup = is_setup;
    tree = record {
      count = refl;
      found = λ a. ap is_some (nowhere a);
      named = λ a i at. let none = nowhere a in absurd (cc);
      placed = λ a i name. absurd (cc);
      home = λ a. nothing_said (λ action. action.home) 0 a;
      makers = λ a j e. let none = nothing_said (λ action. action.maker) None a in absurd (cc);
      maker = λ a. nothing_said (λ action. option_and_then (λ i. name_at empty i) action.maker) None a;
      children = λ a. no_children a;
      made = λ a m. refl;
      parents = λ a was top. absurd (cc);
    };
    status = λ a. nothing_said (λ action. action.status) Active a;
    depends = λ a g. nothing_said (λ action. tree.get action.depends g) None a;
    unended = λ a. nothing_said (λ action. action.unended) 0 a;
    inside = λ a g some. absurd (cc);
  }
    where
      no_children : (a : Name) → length (children_of empty a) ≡ 0
      no_children [] = refl
      no_children (n ∷ a) = ap length (nothing_said (λ action. action.children) [] (n ∷ a))
