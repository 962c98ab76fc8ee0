-- Dependencies: from guardians to least incarnations.
use Rattle.std.specs.Prelude.{◌≡◌, ℕ, ◌<◌, ◌≤◌, min, not, T, Option, Some, None, is_some, List, length, count_by, slice_index_or}
use Rattle.std.specs.Ordering.{nat_cmp}
use Rattle.std.specs.FinMap as map
use Rattle.std.specs.FinMap.Entries.{put}

-- from a guardian's number to the least incarnation of it on which something depends
abbrev pub Deps : Type 0
Deps = map.FinMap nat_cmp ℕ

-- the lesser of two incarnations, where both are there
abbrev pub lesser : Option ℕ → Option ℕ → Option ℕ
lesser None d = d
lesser (Some m) None = Some m
lesser (Some m) (Some n) = Some (min m n)

-- the least incarnation once a further one is known
abbrev pub lowered : Option ℕ → ℕ → ℕ
lowered None n = n
lowered (Some m) n = min m n

-- entries by guardian, as they are kept: the guardians strictly rise
abbrev pub Entries : Type 0
Entries = List (ℕ × ℕ)

abbrev pub IsRising : Entries → Type 0
IsRising es = T (map.is_sorted nat_cmp es)

-- the least incarnation of a guardian, if there is one
abbrev pub least_at : Entries → ℕ → Option ℕ
least_at es g = map.find nat_cmp g es

-- the entries once a guardian has this least incarnation
abbrev pub with_least : Entries → ℕ → ℕ → Entries
with_least es g n = put nat_cmp g n es

-- how many entries have a guardian that the known ones lack
abbrev pub count_new : Entries → Entries → ℕ
count_new known es = count_by (λ e. not (is_some (least_at known e.0))) es

-- the guardian of the entry at place i
abbrev pub guardian_at : Entries → ℕ → ℕ
guardian_at es i = let e = slice_index_or es i (0, 0) in e.0

-- the entry at place i is the guardian's
pub record IsAt (es : Entries) (g i : ℕ) : Type 0 where
  pub in_range : i < length es
  pub same : guardian_at es i ≡ g

-- the guardian has no entry, and would have it at place i
pub record IsGapFor (es : Entries) (g i : ℕ) : Type 0 where
  pub in_range : i ≤ length es
  pub smaller_before : (j : ℕ) → j < i → guardian_at es j < g
  pub greater_after : (j : ℕ) → i ≤ j → j < length es → g < guardian_at es j
