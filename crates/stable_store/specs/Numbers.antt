-- Numbers of top actions, guardians and objects are from 1.
use Rattle.std.specs.Prelude.{ℕ, Bool, ◌==◌, ◌||◌, List}
use Rattle.std.specs.List.{list_any}

-- one of them has the number 0
abbrev pub has_zero : {X : Type 0} → List (ℕ × X) → Bool
has_zero entries = list_any (λ e. e.0 == 0) entries

-- so has the top action, its home or an object of its record
abbrev pub is_misnumbered : {X : Type 0} → ℕ → ℕ → List (ℕ × X) → Bool
is_misnumbered top home parts = (top == 0) || ((home == 0) || has_zero parts)
