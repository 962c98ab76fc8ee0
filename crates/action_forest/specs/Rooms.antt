-- When a forest has room for actions that begin.
use Rattle.std.specs.Prelude.{◌≡◌, ◌≤◌, ◌<◌, ◌+◌, ◌^◌, ℕ, List, [], ◌∷◌, map, Option, Some, None, MatchOption, IsTrue, slice_get, vec_capacity, vec_len}
use Rattle.std.specs.List.{All}
use Rattle.action_names.specs.Names.{Name}
use Rattle.run_model.specs.declared.step.Step.{Step}
use Rattle.run_model.specs.Actions.{home_in, home_of, is_begun, maker_in, next_number}
use Rattle.run_model.specs.LocalHistories.{RegistryEvent, events_there}
use Rattle.run_model.specs.Openings.{Opening}
use Rattle.action_forest.specs.declared.forest.Begun.{Begun}
use Rattle.action_forest.specs.declared.forest.Forest.{Forest}
use Rattle.action_forest.specs.declared.forest.Node.{Node}
use Rattle.action_forest.specs.Events.{AreNext, AreUnder, is_still}
use Rattle.action_forest.specs.Forests.{IsBorn}
use Rattle.action_forest.specs.Trees.{Action, Trees, action_in}

-- the action at the place has room for so many children more
abbrev pub HasRoomBelow : Forest → ℕ → Option ℕ → Type 0
HasRoomBelow forest n None = Unit {0}
HasRoomBelow forest n (Some at) =
    MatchOption (slice_get forest.nodes.items at) ⊥
    (λ node. (vec_len node.children + n ≤ vec_capacity node.children) × (node.unended + n < 2 ^ 64))

-- the action at the place has room for so many children more, and its count for so many things more that it made
abbrev pub HasRoomAt : List Node → ℕ → ℕ → Option ℕ → Type 0
HasRoomAt nodes n k None = Unit {0}
HasRoomAt nodes n k (Some at) =
    MatchOption (slice_get nodes at) ⊥
    (λ node. (vec_len node.children + n ≤ vec_capacity node.children) × (node.unended + k < 2 ^ 64))

-- the forest has room for so many actions more that are made by the action at the place
pub record HasRoom (forest : Forest) (n : ℕ) (maker : Option ℕ) : Type 0 where
  pub nodes : vec_len forest.nodes + n ≤ vec_capacity forest.nodes
  pub tops : vec_len forest.tops + n ≤ vec_capacity forest.tops
  pub below : HasRoomBelow forest n maker

-- it has room for the actions of the plan
pub record FitsBegun (forest : Forest) (plan : Begun) : Type 0 where
  pub room : HasRoom forest (vec_len plan.nodes) plan.maker
  pub same : All (λ node. node.maker ≡ plan.maker) plan.nodes.items

-- these actions are as they begin with these names
abbrev pub AllBorn : Opening → List RegistryEvent → Option Name → ℕ → ℕ → Trees → List Name
    → List Action → Type 0
AllBorn opening registry maker home life forest [] [] = Unit {0}
AllBorn opening registry maker home life forest [] (x ∷ actions) = ⊥
AllBorn opening registry maker home life forest (b ∷ names) [] = ⊥
AllBorn opening registry maker home life forest (b ∷ names) (x ∷ actions) =
    IsBorn opening registry maker home life forest b x
    × AllBorn opening registry maker home life forest names actions

abbrev pub AreBorn : Opening → List RegistryEvent → Option Name → ℕ → ℕ → Trees
    → List Name → Begun → Type 0
AreBorn opening registry maker home life forest names plan =
    AllBorn opening registry maker home life forest names (map action_in plan.nodes.items)

-- What an accepted step has that begins these names at this home: their numbers come next, and each is a top action
-- or a child of the maker, which was begun.
pub record IsBeginning (opening : Opening) (registry : List RegistryEvent) (step : Step)
    (names : List Name) (home : ℕ) : Type 0 where
  pub still : IsTrue (is_still step)
  pub next : AreNext (λ a. next_number opening a (events_there registry)) names
  pub under : AreUnder (maker_in step) names
  pub maker : (m : Name) → maker_in step ≡ Some m → IsTrue (is_begun m (events_there registry))
  pub at_home : home ≡ home_in step (λ a. home_of a (events_there registry))
