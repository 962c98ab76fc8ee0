-- Names by place: a list in which each name stands once, and behind its parent.
use Rattle.std.specs.Prelude.{◌≡◌, ◌<◌, ◌++◌, ℕ, zero, suc, List, [], ◌∷◌, get_or, length, if◌then◌else◌, Option, Some, None, IsFalse}
use Rattle.std.specs.Option.{option_map}
use Rattle.action_names.specs.Names.{IsName, Name, is_top, parent_of, same_name}

-- the place of a name, counted from 0, if it has one
abbrev pub place_in : List Name → Name → Option ℕ
place_in [] a = None
place_in (b ∷ names) a = if same_name b a then Some zero else option_map (λ i. suc i) (place_in names a)

-- These names have places: each is a name and stands once, and each subaction stands behind its parent.
pub record ArePlaced (names : List Name) : Type 0 where
  pub named : (i : ℕ) → i < length names → IsName (get_or names i [])
  pub once : (i : ℕ) → i < length names → place_in names (get_or names i []) ≡ Some i
  pub behind : (i : ℕ) → i < length names → IsFalse (is_top (get_or names i []))
      → (j : ℕ) × (j < i) × (get_or names j [] ≡ parent_of (get_or names i []))

-- Names that come only come behind. So each name that had a place has it still.
pub record AreMore (old new : List Name) : Type 0 where
  pub added : List Name
  pub behind : new ≡ old ++ added
