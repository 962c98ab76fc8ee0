-- Indexes of logs; and counts with their sender's own.
use Rattle.std.specs.Prelude.{◌≡◌, ℕ, List, [], ◌∷◌, Option, Some, None, Vec, nat_eq, unwrap_or}
use Rattle.std.specs.Cmp.Lexicographic.{pointwise}
use Rattle.std.specs.List.{list_any}
use Rattle.std.specs.declared.alloc.Global.{Global}
use Rattle.action_names.specs.Names.{Name, has_name}
use Rattle.run_model.specs.LocalReadings.{most_of}

-- these are the paths of the names, and no others
abbrev pub IsIndex : List Name → List (Vec ℕ Global) → Type 0
IsIndex names paths = (a : Name)
    → list_any (λ path. pointwise nat_eq a path.items) paths ≡ has_name names a

-- what stands beside a guardian is the greatest of its counts
abbrev pub AreGreatest : (ℕ → Option ℕ) → List (ℕ × ℕ) → Type 0
AreGreatest beside counts = (g : ℕ) → unwrap_or (beside g) 0 ≡ most_of counts g

-- what comes of a sender's counts: with them, in front, its own
abbrev pub with_own : Option ℕ → ℕ → List (ℕ × ℕ) → List (ℕ × ℕ)
with_own None life counts = []
with_own (Some h) life counts = (h, life) ∷ counts
