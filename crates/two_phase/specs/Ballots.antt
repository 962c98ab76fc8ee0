-- When a ballot says what a history says of the votes on a top action.
use Rattle.std.specs.Prelude.{◌≡◌, ◌<◌, ℕ, Bool, false, List, Option, Some, None, is_some, if◌then◌else◌, vec_len, vec_capacity}
use Rattle.action_names.specs.Names.{Name}
use Rattle.run_model.specs.declared.answer.Answer.TheVariants.{VoteNo, VoteYes}
use Rattle.run_model.specs.declared.history.Event.{Event}
use Rattle.run_model.specs.declared.step.Step.TheVariants.{Prepare}
use Rattle.run_model.specs.Visibility.{has_prepared}
use Rattle.run_model.specs.Votes.{has_voted}
use Rattle.two_phase.specs.Votes.{vote_in}
use Rattle.two_phase.specs.declared.ballot.Ballot.{Ballot}
use Rattle.two_phase.specs.declared.ballot.VotePlan.{VotePlan}

-- what is noted of a guardian: whether it voted yes, if it voted
abbrev pub vote_of : Ballot → ℕ → Option Bool
vote_of ballot g = vote_in ballot.votes.items g

abbrev pub is_yes : Option Bool → Bool
is_yes None = false
is_yes (Some vote) = vote

-- the ballot notes who voted on the top action in this history, and who voted yes
pub record IsBallot (top : Name) (past : List Event) (ballot : Ballot) : Type 0 where
  pub voted : (g : ℕ) → is_some (vote_of ballot g) ≡ has_voted g top past
  pub prepared : (g : ℕ) → is_yes (vote_of ballot g) ≡ has_prepared g top past

-- the event that is this vote
abbrev pub vote : ℕ → Name → Bool → Event
vote g top v = record { step = Prepare g top; answer = if v then VoteYes else VoteNo }

-- whose vote a plan is, and whether it is a yes
abbrev pub voter_of : VotePlan → ℕ
voter_of plan = plan.guardian

abbrev pub has_yes : VotePlan → Bool
has_yes plan = plan.yes

-- the plan is this vote
abbrev pub IsVote : ℕ → Bool → VotePlan → Type 0
IsVote g v plan = (voter_of plan ≡ g) × (has_yes plan ≡ v)

-- the ballot has room for the vote
abbrev pub FitsVote : Ballot → VotePlan → Type 0
FitsVote ballot plan = vec_len ballot.votes < vec_capacity ballot.votes
