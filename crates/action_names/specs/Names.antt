-- Names of actions: paths of numbers, their ancestors, their order and their text.
use Rattle.std.specs.Prelude.{ℕ, Bool, true, false, not, ◌&&◌, ◌||◌, ◌==◌, ◌<◌, ◌≤◌, ◌^◌, suc, zero, List, [], ◌∷◌, ◌++◌, length, map, if◌then◌else◌, decimal}
use Rattle.std.specs.List.{AllByRecursion}
use Rattle.std.specs.Ordering.{nat_cmp, is_lt}
use Rattle.std.specs.Cmp.Lexicographic.{slice_cmp}
use Rattle.std.specs.declared.cmp.Ordering.{Ordering}

-- A name is a path of numbers. The empty path names no action: it stands above the top actions.
abbrev pub Name : Type 0
Name = List ℕ

-- how deep names go
abbrev pub max_depth : ℕ
max_depth = 32

-- a number that may stand in a name
abbrev pub IsComponent : ℕ → Type 0
IsComponent n = (1 ≤ n) × (n < 2 ^ 32)

-- what an action may be called: 1 to 32 numbers from 1 to 4294967295
pub record IsName (a : Name) : Type 0 where
  pub not_empty : 1 ≤ length a
  pub not_too_deep : length a ≤ max_depth
  pub components : AllByRecursion IsComponent a

-- the numbers, joined by dots
abbrev pub name_text : Name → List ℕ
name_text [] = []
name_text (n ∷ []) = decimal n
name_text (n ∷ m ∷ a) = decimal n ++ 46 ∷ name_text (m ∷ a)

-- whether two names are the same
abbrev pub same_name : Name → Name → Bool
same_name [] [] = true
same_name [] (n ∷ b) = false
same_name (m ∷ a) [] = false
same_name (m ∷ a) (n ∷ b) = (m == n) && same_name a b

-- whether a is a beginning of b
abbrev pub is_prefix : Name → Name → Bool
is_prefix [] b = true
is_prefix (m ∷ a) [] = false
is_prefix (m ∷ a) (n ∷ b) = (m == n) && is_prefix a b

-- whether a is an ancestor of b: a beginning of its name that is not empty, b included (Lynch, Merritt, Weihl and
-- Fekete)
abbrev pub is_ancestor : Name → Name → Bool
is_ancestor [] b = false
is_ancestor (n ∷ a) b = is_prefix (n ∷ a) b

-- an ancestor other than b
abbrev pub is_proper_ancestor : Name → Name → Bool
is_proper_ancestor a b = is_ancestor a b && not (same_name a b)

-- all ancestors, outermost first
abbrev pub ancestors : Name → List Name
ancestors [] = []
ancestors (n ∷ b) = (n ∷ []) ∷ map (λ a. n ∷ a) (ancestors b)

-- how many leading numbers two names share
abbrev pub meet_of : Name → Name → ℕ
meet_of [] b = zero
meet_of (m ∷ a) [] = zero
meet_of (m ∷ a) (n ∷ b) = if m == n then suc (meet_of a b) else zero

-- the name without its last number: a child's parent, and the empty name for a top action
abbrev pub parent_of : Name → Name
parent_of [] = []
parent_of (m ∷ []) = []
parent_of (m ∷ n ∷ b) = m ∷ parent_of (n ∷ b)

-- the top action of the tree
abbrev pub top_of : Name → Name
top_of [] = []
top_of (n ∷ b) = n ∷ []

abbrev pub is_top : Name → Bool
is_top [] = false
is_top (n ∷ []) = true
is_top (m ∷ n ∷ b) = false

-- the child with this number; a top action is a child of the empty name
abbrev pub child_of : Name → ℕ → Name
child_of a n = a ++ n ∷ []

-- the last number of a name
abbrev pub last_of : Name → ℕ
last_of [] = 0
last_of (n ∷ []) = n
last_of (m ∷ n ∷ a) = last_of (n ∷ a)

-- the order of names: component by component, a beginning first
abbrev pub name_cmp : Name → Name → Ordering
name_cmp a b = slice_cmp nat_cmp a b

abbrev pub name_lt : Name → Name → Bool
name_lt a b = is_lt (name_cmp a b)

abbrev pub has_name : List Name → Name → Bool
has_name [] a = false
has_name (b ∷ bs) a = same_name b a || has_name bs a

-- a name put into its place among rising names, if it is not there yet
abbrev pub insert_name : Name → List Name → List Name
insert_name a [] = a ∷ []
insert_name a (b ∷ bs) =
    if same_name a b then b ∷ bs else (if name_lt a b then a ∷ b ∷ bs else b ∷ insert_name a bs)

-- the names of a list, each once, rising
abbrev pub rising_names : List Name → List Name
rising_names [] = []
rising_names (b ∷ bs) = insert_name b (rising_names bs)
