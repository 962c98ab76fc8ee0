-- The names of a tree's nodes, by place, and how they are found.
use Rattle.std.specs.Prelude.{◌≡◌, ◌<◌, ◌++◌, ℕ, List, [], ◌∷◌, get_or, Option, Some, None, slice_get}
use Rattle.std.specs.FinMap as map
use Rattle.action_names.specs.Names.{Name, child_of}
use Rattle.places.specs.Placed.{ArePlaced, place_in}
use Rattle.places.specs.declared.places.Node.{Node}

-- the name at the place, and the empty name where there is none
abbrev pub name_at : List Name → Option ℕ → Name
name_at names None = []
name_at names (Some i) = get_or names i []

-- the name of a node behind these names
abbrev pub name_of : List Name → Node → Name
name_of names node = child_of (name_at names node.parent) node.number

abbrev pub with_nodes : List Name → List Node → List Name
with_nodes names [] = names
with_nodes names (node ∷ nodes) = with_nodes (names ++ name_of names node ∷ []) nodes

abbrev pub names_by : List Node → List Name
names_by nodes = with_nodes [] nodes

-- What a node at a place is among these names: its name is its parent's with its number, its parent stands before it,
-- and its children's numbers lead to their places.
pub record IsNode (names : List Name) (i : ℕ) (node : Node) : Type 0 where
  pub name : get_or names i [] ≡ name_of names node
  pub parent : (j : ℕ) → node.parent ≡ Some j → j < i
  pub children : (n : ℕ) → map.get node.children n ≡ place_in names (child_of (get_or names i []) n)

-- The nodes are of names that have places, and each is found by its number.
pub record IsTree (nodes : List Node) (top : ℕ → Option ℕ) : Type 0 where
  pub placed : ArePlaced (names_by nodes)
  pub each : (i : ℕ) (node : Node) → slice_get nodes i ≡ Some node → IsNode (names_by nodes) i node
  pub tops : (n : ℕ) → top n ≡ place_in (names_by nodes) (n ∷ [])
