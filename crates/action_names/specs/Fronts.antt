-- A number or a name at the front of bytes: it goes on for as long as its bytes do.
use Rattle.std.specs.Prelude.{◌≡◌, ◌≢◌, ℕ, ◌≤◌, List, [], ◌∷◌, ◌++◌, slice_index, decimal}
use Rattle.action_names.specs.Names.{Name, IsName, IsComponent, name_text}

-- no digit comes first
abbrev pub EndsNumber : List ℕ → Type 0
EndsNumber rest = 48 ≤ slice_index rest 0 → slice_index rest 0 ≤ 57 → ⊥

-- neither a digit nor a dot comes first
pub record EndsName (rest : List ℕ) : Type 0 where
  pub no_digit : EndsNumber rest
  pub no_dot : slice_index rest 0 ≢ 46

-- the bytes begin with this number of a name, and the rest follows it
pub record BeginsWithNumber (bytes : List ℕ) (n : ℕ) (rest : List ℕ) : Type 0 where
  pub fits : IsComponent n
  pub parts : bytes ≡ decimal n ++ rest
  pub ended : EndsNumber rest

-- the bytes begin with this name, and the rest follows it
pub record BeginsWithName (bytes : List ℕ) (a : Name) (rest : List ℕ) : Type 0 where
  pub fits : IsName a
  pub parts : bytes ≡ name_text a ++ rest
  pub ended : EndsName rest

-- numbers with a dot behind each, before the rest
abbrev pub dotted : Name → List ℕ → List ℕ
dotted [] rest = rest
dotted (n ∷ a) rest = decimal n ++ 46 ∷ dotted a rest
