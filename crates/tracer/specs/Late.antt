-- Which stamps are late, by the highest stamp so far.
use Rattle.std.specs.Prelude.{ℕ, Bool, false, ◌≡◌, nat_le, List, Option, Some, None}
use Rattle.std.specs.List.{list_any}

-- there is a highest stamp, and this one is no greater
abbrev pub is_at_most : ℕ → Option ℕ → Bool
is_at_most s None = false
is_at_most s (Some highest) = nat_le s highest

-- it is the highest of these
abbrev pub IsHighest : Option ℕ → List ℕ → Type 0
IsHighest highest seen = (s : ℕ) → list_any (λ t. nat_le s t) seen ≡ is_at_most s highest
