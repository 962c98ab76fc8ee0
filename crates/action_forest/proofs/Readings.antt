-- What is read in a forest.
use Rattle.std.proofs.Common.{Bool, List, [], ap, arith, cond, count_by, false, not, refl, true, ℕ, ◌+◌, ◌||◌, ◌∙◌, ◌∷◌, ◌≡◌}
use Rattle.std.specs.Prelude.{nat_lt}
use Rattle.std.specs.List.{list_any}
use Rattle.std.proofs.lemmas.Bool.{lt-ltb, true≢false}
use Rattle.action_names.specs.Names.{Name}
use Rattle.run_model.specs.declared.history.Event.{Event}
use Rattle.run_model.specs.Actions.{is_aborted, is_busy, is_closed, is_committed, is_ended, made_by}
use Rattle.step_answers.specs.Actors as actors
use Rattle.action_forest.proofs.Counted.{count_front}
use Rattle.action_forest.specs.Events.{status_there, unended_there}
use Rattle.step_answers.specs.declared.actor.Status.{Status}
use Rattle.step_answers.specs.declared.actor.Status.TheVariants.{Aborted, Active, Closed, Committed}

abbrev pub is_kept : Status → Bool
is_kept Committed = true
is_kept _ = false

pub ended_by_status : (a : Name) (past : List Event) → actors.has_ended (status_there a past) ≡ is_ended a past
ended_by_status a past = of (is_committed a past) (is_aborted a past) (is_closed a past)
  where
    of : (c b k : Bool) → actors.has_ended (cond c Committed (cond b Aborted (cond k Closed Active))) ≡ (c || b)
    of true b k = refl
    of false true k = refl
    of false false true = refl
    of false false false = refl

pub committed_by_status : (a : Name) (past : List Event) → is_kept (status_there a past) ≡ is_committed a past
committed_by_status a past = of (is_committed a past) (is_aborted a past) (is_closed a past)
  where
    of : (c b k : Bool) → is_kept (cond c Committed (cond b Aborted (cond k Closed Active))) ≡ c
    of true b k = refl
    of false true k = refl
    of false false true = refl
    of false false false = refl

-- of an action that has not ended its status says whether it is closed
pub closed_by_status : (a : Name) (past : List Event) → is_ended a past ≡ false
    → actors.is_closed (status_there a past) ≡ is_closed a past
closed_by_status a past = of (is_committed a past) (is_aborted a past) (is_closed a past)
  where
    of : (c b k : Bool) → (c || b) ≡ false
        → actors.is_closed (cond c Committed (cond b Aborted (cond k Closed Active))) ≡ k
    of true b k h = absurd (true≢false h)
    of false true k h = absurd (true≢false h)
    of false false true h = refl
    of false false false h = refl

-- some pass where the count is not 0
any_counted : (p : Name → Bool) (xs : List Name) → nat_lt 0 (count_by p xs) ≡ list_any p xs
any_counted p [] = refl
any_counted p (x ∷ xs) = ap (nat_lt 0) (count_front p x xs) ∙ of (p x) (any_counted p xs)
  where
    of : (b : Bool) → nat_lt 0 (count_by p xs) ≡ list_any p xs → nat_lt 0 (cond {A = ℕ} b 1 0 + count_by p xs) ≡ (b || list_any p xs)
    of true e = lt-ltb 0 (1 + count_by p xs) (omega arith)
    of false e = let same : 0 + count_by p xs ≡ count_by p xs = omega arith in ap (nat_lt 0) same ∙ e

pub busy_counted : (a : Name) (past : List Event) → nat_lt 0 (unended_there a past) ≡ is_busy a past
busy_counted a past = any_counted (λ b. not (is_ended b past)) (made_by a past)
