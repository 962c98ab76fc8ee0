-- The deltas that an operation above some version sees beside it.
use Rattle.std.specs.Prelude.{ℤ, pos, Bool, List, [], ◌∷◌, filter, Option, Some, None, unwrap_or, if◌then◌else◌}
use Rattle.action_names.specs.Names.{Name}
use Rattle.atomic_types.specs.Counters.{sum_of}
use Rattle.object_model.specs.Deltas.{delta_sum}
use Rattle.object_model.specs.Objects.{is_beside}

-- how much all of those add that are no ancestors of the owner
abbrev pub sum_beside : List (Name × ℤ) → Option Name → ℤ
sum_beside ds owner = delta_sum (filter (λ d. is_beside owner d.0) ds)

-- how much these add together, if there are any
abbrev pub sum_if_any : List (Name × ℤ) → Option ℤ
sum_if_any [] = None
sum_if_any (d ∷ ds) = Some (delta_sum (d ∷ ds))

-- a sum with what a holder adds, if it adds anything and is no ancestor of the owner
abbrev pub with_beside : ℤ → Option Name → Name → Option ℤ → ℤ
with_beside sum owner a None = sum
with_beside sum owner a (Some z) = if is_beside owner a then sum_of sum z else sum

-- a sum, if there is one, with what a holder adds, if it adds anything and stays
abbrev pub with_left : Option ℤ → Option ℤ → Bool → Option ℤ
with_left sum None stays = sum
with_left sum (Some z) stays = if stays then Some (sum_of (unwrap_or sum (pos 0)) z) else sum
