-- The votes of guardians in their order, as a ballot keeps them.
use Rattle.std.specs.Prelude.{◌≡◌, ◌<◌, ◌≤◌, ℕ, Bool, false, T, List, length, slice_index_or, Option}
use Rattle.std.specs.Ordering.{nat_cmp}
use Rattle.std.specs.FinMap as map

-- votes by guardian, each with whether it was ever a yes
abbrev pub Votes : Type 0
Votes = List (ℕ × Bool)

-- the guardians strictly rise
abbrev pub AreRising : Votes → Type 0
AreRising votes = T (map.is_sorted nat_cmp votes)

-- whether the guardian voted yes, if it voted
abbrev pub vote_in : Votes → ℕ → Option Bool
vote_in votes g = map.find nat_cmp g votes

-- the guardian of the vote at place i
abbrev pub voter_at : Votes → ℕ → ℕ
voter_at votes i = let v = slice_index_or votes i (0, false) in v.0

-- the vote at place i is the guardian's
pub record IsVoteAt (votes : Votes) (g i : ℕ) : Type 0 where
  pub in_range : i < length votes
  pub same : voter_at votes i ≡ g

-- the guardian has no vote, and would have it at place i
pub record IsGapFor (votes : Votes) (g i : ℕ) : Type 0 where
  pub in_range : i ≤ length votes
  pub smaller_before : (j : ℕ) → j < i → voter_at votes j < g
  pub greater_after : (j : ℕ) → i ≤ j → j < length votes → g < voter_at votes j
