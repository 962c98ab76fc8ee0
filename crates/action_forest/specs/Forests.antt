-- When a forest says what the registry's history says of actions.
use Rattle.std.specs.Prelude.{◌≡◌, ◌<◌, ◌≤◌, ℕ, suc, List, [], length, count_by, if◌then◌else◌, Option, Some, None, IsSome, IsTrue, IsFalse, is_some}
use Rattle.std.specs.Option.{option_and_then}
use Rattle.std.specs.FinMap as tree
use Rattle.action_names.specs.Deps.{lesser}
use Rattle.action_names.specs.Names.{Name, is_top, parent_of, same_name}
use Rattle.run_model.specs.Actions.{begun, home_of, is_begun, is_exactly, made_by, maker_of}
use Rattle.run_model.specs.LocalHistories.{RegistryEvent, dependency_there, events_there}
use Rattle.run_model.specs.LocalReadings.{beside}
use Rattle.run_model.specs.Openings.{Opening, given_before}
use Rattle.action_forest.specs.declared.forest.Commitment.{Commitment}
use Rattle.step_answers.specs.declared.actor.Status.TheVariants.{Active}
use Rattle.action_forest.specs.Events.{children_there, first_entries, status_there, unended_there}
use Rattle.action_forest.specs.Trees.{Action, Trees, action_of, children_of, depends_at, home_at, maker_at, name_at, place_of, said, status_at, unended_at}

-- What does not change once an action has begun. Each action that was begun stands at one place, under its name, with
-- its home and its maker. An action is made once, and a subaction by its parent.
pub record IsTree (registry : List RegistryEvent) (forest : Trees) : Type 0 where
  pub count : length forest.actions ≡ length (begun (events_there registry))
  pub found : (a : Name) → is_some (place_of forest a) ≡ is_begun a (events_there registry)
  pub named : (a : Name) (i : ℕ) → place_of forest a ≡ Some i → name_at forest i ≡ Some a
  pub placed : (a : Name) (i : ℕ) → name_at forest i ≡ Some a → place_of forest a ≡ Some i
  pub home : (a : Name) → home_at forest a ≡ home_of a (events_there registry)
  pub makers : (a : Name) (j : ℕ) → said (λ action. action.maker) None (action_of forest a) ≡ Some j
      → j < length forest.actions
  pub maker : (a : Name) → maker_at forest a ≡ maker_of a (events_there registry)
  pub children : (a : Name)
      → length (children_of forest a) ≡ children_there a (events_there registry)
  pub made : (a m : Name) → count_by (λ b. same_name b a) (made_by m (events_there registry))
      ≡ (if is_exactly (maker_of a (events_there registry)) m then 1 else 0)
  pub parents : (a : Name) → IsTrue (is_begun a (events_there registry)) → IsFalse (is_top a)
      → maker_of a (events_there registry) ≡ Some (parent_of a)

-- The forest says what the registry's history says.
pub record IsForest (opening : Opening) (registry : List RegistryEvent)
    (forest : Trees) : Type 0 where
  pub first : forest.first_top ≡ suc (given_before opening [])
  pub setup : forest.guardians ≡ length opening.setup
  pub tree : IsTree registry forest
  pub status : (a : Name) → status_at forest a ≡ status_there a (events_there registry)
  pub depends : (a : Name) (g : ℕ) → depends_at forest a g ≡ dependency_there a g registry
  pub unended : (a : Name) → unended_at forest a ≡ unended_there a (events_there registry)
  -- whom an action depends on is of the setup
  pub inside : (a : Name) (g : ℕ) → IsSome (dependency_there a g registry)
      → (1 ≤ g) × (g ≤ length opening.setup)

-- at each opening and registry's history of which the forest says what they say
abbrev pub AtEach : Trees → (Opening → List RegistryEvent → Type 0) → Type 0
AtEach forest holds = (opening : Opening) (registry : List RegistryEvent)
    → IsForest opening registry forest → holds opening registry

-- the plan commits this action of the forest: its parent is left with the lesser of each dependency
pub record IsCommitmentOf (forest : Trees) (a : Name) (plan : Commitment) : Type 0 where
  pub at : plan.at ≡ place_of forest a
  pub depends : (g : ℕ)
      → tree.get plan.depends g ≡ lesser (depends_at forest (parent_of a) g) (depends_at forest a g)

-- the action is as it begins with this name, made by m if by any, at home at h in its incarnation n
pub record IsBorn (opening : Opening) (registry : List RegistryEvent) (m : Option Name) (h n : ℕ)
    (forest : Trees) (b : Name) (x : Action) : Type 0 where
  pub name : x.name ≡ b
  pub home : x.home ≡ h
  pub maker : x.maker ≡ option_and_then (λ a. place_of forest a) m
  pub depends : (g : ℕ) → tree.get x.depends g ≡ beside (first_entries opening registry h n b) g
  pub status : x.status ≡ Active
  pub unended : x.unended ≡ 0
  pub children : x.children ≡ []
