-- What actions add to a counter that own no version of it: each by itself, beside the versions.
use Rattle.std.specs.Prelude.{◌≡◌, ℤ, pos, List, [], ◌∷◌, Option, Some, None, unwrap_or, if◌then◌else◌}
use Rattle.action_names.specs.Names.{Name, same_name, is_ancestor}
use Rattle.atomic_types.specs.Counters.{sum_of}

-- how much a holder adds, if anything
abbrev pub delta_at : List (Name × ℤ) → Name → Option ℤ
delta_at [] a = None
delta_at (d ∷ ds) a = if same_name d.0 a then Some d.1 else delta_at ds a

-- how much all of them add
abbrev pub delta_sum : List (Name × ℤ) → ℤ
delta_sum [] = pos 0
delta_sum (d ∷ ds) = sum_of (delta_sum ds) d.1

-- a holder adds this instead of what it added, or nothing; all others add what they added
abbrev pub HasDelta : List (Name × ℤ) → List (Name × ℤ) → Name → Option ℤ → Type 0
HasDelta old new a z = (b : Name) → delta_at new b ≡ (if same_name a b then z else delta_at old b)

-- how much a holder adds once what another added, if anything, is added to it
abbrev pub with_more : Option ℤ → Option ℤ → Option ℤ
with_more old None = old
with_more old (Some z) = Some (sum_of (unwrap_or old (pos 0)) z)

-- how much a holder adds once it adds more
abbrev pub more_at : List (Name × ℤ) → Name → ℤ → Option ℤ
more_at ds a z = with_more (delta_at ds a) (Some z)

-- an action and its descendants add nothing; all others add what they added
abbrev pub HasNoneBelow : List (Name × ℤ) → List (Name × ℤ) → Name → Type 0
HasNoneBelow old new a = (b : Name)
    → delta_at new b ≡ (if is_ancestor a b then None else delta_at old b)
