-- When ballots say what a history says of the votes on top actions.
use Rattle.std.specs.Prelude.{◌≡◌, ℕ, Bool, List, [], ◌∷◌, Option, Some, None, MatchOption, IsFalse, nat_eq}
use Rattle.std.specs.Map.{lookup}
use Rattle.std.specs.Option.{IsSome}
use Rattle.action_names.specs.Names.{Name, last_of}
use Rattle.run_model.specs.declared.history.Event.{Event}
use Rattle.run_model.specs.Votes.{has_voted}
use Rattle.two_phase.specs.Ballots.{FitsVote, IsBallot, IsVote, has_yes, voter_of}
use Rattle.two_phase.specs.declared.ballot.Ballot.{Ballot}
use Rattle.two_phase.specs.declared.ballot.VotePlan.{VotePlan}
use Rattle.registry.specs.declared.ballots.Ballots.{Ballots}
use Rattle.registry.specs.declared.ballots.Vote.{Vote}

-- the ballot of an action among ballots by numbers, if there is one: top actions alone have ballots
abbrev pub ballot_in : List (ℕ × Ballot) → Name → Option Ballot
ballot_in entries [] = None
ballot_in entries (n ∷ []) = lookup (nat_eq n) entries
ballot_in entries (m ∷ n ∷ a) = None

abbrev pub ballot_of : Ballots → Name → Option Ballot
ballot_of ballots t = ballot_in ballots.ballots.entries t

-- the ballot notes the votes on t; where there is none, nobody voted
abbrev pub IsNoted : Name → List Event → Option Ballot → Type 0
IsNoted t past None = (g : ℕ) → IsFalse (has_voted g t past)
IsNoted t past (Some ballot) = IsBallot t past ballot

-- the ballots note the votes on each action
abbrev pub AreNoted : List Event → List (ℕ × Ballot) → Type 0
AreNoted past entries = (t : Name) → IsNoted t past (ballot_in entries t)

abbrev pub AreBallots : List Event → Ballots → Type 0
AreBallots past ballots = AreNoted past ballots.ballots.entries

-- there is a ballot under the number
abbrev pub HasBallot : Ballots → ℕ → Type 0
HasBallot ballots n = IsSome (lookup (nat_eq n) ballots.ballots.entries)

-- the ballot under the number is there, and has room for the vote
abbrev pub HasRoomAt : Ballots → ℕ → VotePlan → Type 0
HasRoomAt ballots n plan =
    MatchOption (lookup (nat_eq n) ballots.ballots.entries) ⊥ (λ ballot. FitsVote ballot plan)

-- on what a vote is, whose it is, and whether it is a yes
abbrev pub top_in : Vote → Name
top_in v = v.top ∷ []

abbrev pub voter_in : Vote → ℕ
voter_in v = voter_of v.vote

abbrev pub is_yes_in : Vote → Bool
is_yes_in v = has_yes v.vote

abbrev pub FitsBallots : Ballots → Vote → Type 0
FitsBallots ballots v = HasRoomAt ballots v.top v.vote

-- the vote is this one
pub record IsVoteOn (g : ℕ) (t : Name) (yes : Bool) (v : Vote) : Type 0 where
  pub top : v.top ≡ last_of t
  pub vote : IsVote g yes v.vote
