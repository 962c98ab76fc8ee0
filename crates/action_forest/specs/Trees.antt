-- What a forest keeps, without the room that its lists have, and how an action is found in it: its number leads to it
-- among the children of its parent.
use Rattle.std.specs.Prelude.{ℕ, zero, suc, ◌+◌, ◌-◌, nat_lt, Bool, true, false, List, [], ◌∷◌, ◌++◌, length, map, if◌then◌else◌, Option, Some, None, slice_get}
use Rattle.std.specs.Option.{option_and_then}
use Rattle.std.specs.FinMap as tree
use Rattle.action_names.specs.Deps.{Deps}
use Rattle.action_names.specs.Names.{Name, is_top}
use Rattle.action_forest.specs.declared.forest.Forest.{Forest}
use Rattle.action_forest.specs.declared.forest.Node.{Node}
use Rattle.step_answers.specs.declared.actor.Status.{Status}
use Rattle.step_answers.specs.declared.actor.Status.TheVariants.{Active, Closed, Committed}

-- An action. Its maker and its children are named by their places.
pub record Action : Type 0 where
  pub name : Name
  pub home : ℕ
  pub maker : Option ℕ
  pub depends : Deps
  pub status : Status
  pub unended : ℕ
  pub children : List ℕ

-- actions in the order in which they began, with the places of the top actions, of which the first has the number
-- first_top
pub record Trees : Type 0 where
  pub first_top : ℕ
  pub guardians : ℕ
  pub actions : List Action
  pub tops : List ℕ

abbrev pub action_in : Node → Action
action_in node = record {
  name = node.name;
  home = node.home;
  maker = node.maker;
  depends = node.depends;
  status = node.status;
  unended = node.unended;
  children = node.children.items;
}

abbrev pub trees : Forest → Trees
trees forest = record {
  first_top = forest.first_top;
  guardians = forest.guardians;
  actions = map action_in forest.nodes.items;
  tops = forest.tops.items;
}

-- the place that has a number, where these are all, from the number first on
abbrev pub numbered : List ℕ → ℕ → ℕ → Option ℕ
numbered places first n = if nat_lt n first then None else slice_get places (n - first)

-- what is said of an action, and of one that is not there
abbrev pub said : {B : Type 0} → (Action → B) → B → Option Action → B
said field missing None = missing
said field missing (Some action) = field action

abbrev pub children_in : Option Action → List ℕ
children_in action = said (λ action. action.children) [] action

-- the place to which a path leads from a place
abbrev pub place_below : List Action → Name → Option ℕ → Option ℕ
place_below actions [] at = at
place_below actions (n ∷ path) at = place_below actions path
    (option_and_then (λ i. numbered (children_in (slice_get actions i)) 1 n) at)

-- the place of an action, if it is there
abbrev pub place_of : Trees → Name → Option ℕ
place_of forest [] = None
place_of forest (n ∷ path) =
    place_below forest.actions path (numbered forest.tops forest.first_top n)

abbrev pub action_of : Trees → Name → Option Action
action_of forest a = option_and_then (λ i. slice_get forest.actions i) (place_of forest a)

abbrev pub name_at : Trees → ℕ → Option Name
name_at forest i = said (λ action. Some action.name) None (slice_get forest.actions i)

abbrev pub home_at : Trees → Name → ℕ
home_at forest a = said (λ action. action.home) 0 (action_of forest a)

abbrev pub maker_at : Trees → Name → Option Name
maker_at forest a =
    said (λ action. option_and_then (λ i. name_at forest i) action.maker) None (action_of forest a)

abbrev pub status_at : Trees → Name → Status
status_at forest a = said (λ action. action.status) Active (action_of forest a)

abbrev pub depends_at : Trees → Name → ℕ → Option ℕ
depends_at forest a g = said (λ action. tree.get action.depends g) None (action_of forest a)

abbrev pub unended_at : Trees → Name → ℕ
unended_at forest a = said (λ action. action.unended) 0 (action_of forest a)

-- the places of the children of an action, and of the empty name those of the top actions, with the number of the first
abbrev pub children_of : Trees → Name → List ℕ
children_of forest [] = forest.tops
children_of forest (n ∷ a) = children_in (action_of forest (n ∷ a))

abbrev pub first_of : Trees → Name → ℕ
first_of forest [] = forest.first_top
first_of forest (n ∷ a) = 1

-- the list in which the action at a place is changed
abbrev pub updated : (Action → Action) → ℕ → List Action → List Action
updated f i [] = []
updated f zero (x ∷ xs) = f x ∷ xs
updated f (suc i) (x ∷ xs) = x ∷ updated f i xs

-- the forest in which the action at a place is changed
abbrev pub changed : (Action → Action) → ℕ → Trees → Trees
changed f i forest = record forest { actions = updated f i forest.actions }

abbrev pub changed_at : (Action → Action) → Option ℕ → Trees → Trees
changed_at f None forest = forest
changed_at f (Some i) forest = changed f i forest

abbrev pub with_status : Status → Action → Action
with_status status action = record action { status = status }

-- how an action stands that stood so and closes
abbrev pub closed : Status → Status
closed Active = Closed
closed status = status

abbrev pub with_closed : Action → Action
with_closed action = record action { status = closed action.status }

abbrev pub with_depends : Deps → Action → Action
with_depends depends action = record action { depends = depends }

abbrev pub one_less : Action → Action
one_less action = record action { unended = action.unended - 1 }

-- the place of the maker of the action at a place
abbrev pub maker_place : Trees → ℕ → Option ℕ
maker_place forest i = said (λ action. action.maker) None (slice_get forest.actions i)

-- the action at the place ends with this status, and its maker has one less that has not
abbrev pub ended : Status → ℕ → Trees → Trees
ended status i forest =
    changed_at one_less (maker_place forest i) (changed (with_status status) i forest)

-- it commits: its maker, which is its parent, is left with these dependencies
abbrev pub committed : Deps → ℕ → Trees → Trees
committed depends i forest =
    changed_at (with_depends depends) (maker_place forest i) (ended Committed i forest)

abbrev pub one_more : Action → Action
one_more action = record action { unended = action.unended + 1 }

abbrev pub with_child : ℕ → Action → Action
with_child place action = record action { children = action.children ++ place ∷ [] }

-- the forest with one action more at its end, which no number leads to yet
abbrev pub pushed : Action → Trees → Trees
pushed action forest = record forest { actions = forest.actions ++ action ∷ [] }

-- the forest where the next number of a top action, or of a child of the maker, leads to a place
abbrev pub hung : Bool → Option ℕ → ℕ → Trees → Trees
hung true maker place forest = record forest { tops = forest.tops ++ place ∷ [] }
hung false maker place forest = changed_at (with_child place) maker forest

-- the forest with one action more, that is a top action or a child of its maker
abbrev pub grown : Action → Trees → Trees
grown action forest =
    hung (is_top action.name) action.maker (length forest.actions) (pushed action forest)

-- and that counts at its maker
abbrev pub added : Action → Trees → Trees
added action forest = grown action (changed_at one_more action.maker forest)

abbrev pub all_added : List Action → Trees → Trees
all_added [] forest = forest
all_added (action ∷ actions) forest = all_added actions (added action forest)

-- an action as it begins
abbrev pub fresh_action : Name → Option ℕ → ℕ → Deps → Action
fresh_action a maker home depends = record {
  name = a;
  home = home;
  maker = maker;
  depends = depends;
  status = Active;
  unended = 0;
  children = [];
}
