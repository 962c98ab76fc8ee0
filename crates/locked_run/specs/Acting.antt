-- What a step under locks leaves.
use Rattle.std.specs.Prelude.{◌≡◌, ◌⊎◌, ◌==◌, ◌&&◌, ◌||◌, ◌-◌, ℕ, suc, Bool, true, false, List, [], ◌∷◌, nat_lt, if◌then◌else◌, Option, Some, None, MatchOption, Result, Ok, Err, is_some}
use Rattle.one_run.specs.declared.piece.Piece.{Piece}
use Rattle.one_run.specs.Pieces.{AllFit, GoesOn, seen_of}
use Rattle.stable_store.specs.Calls.{View}
use Rattle.run_model.specs.declared.answer.Answer.{Answer}
use Rattle.run_model.specs.declared.history.Event.{Event}
use Rattle.run_model.specs.declared.step.Step.{Step}
use Rattle.run_model.specs.declared.step.Step.TheVariants.{Crash, Op, Recover}
use Rattle.run_model.specs.Actions.{home_of, is_begun}
use Rattle.run_model.specs.Answers.{answer_of}
use Rattle.run_model.specs.Openings.{Opening}
use Rattle.run_model.specs.Runs.{IsRun, history_after, is_accepted}
use Rattle.shared_run.specs.Places.{touches}
use Rattle.layer_contracts.specs.Stores.{Leaves, Stays}
use Rattle.layer_contracts.specs.declared.guardian.Fault.{Fault}
use Rattle.world_steps.specs.Naming.{first_named, second_named}
use Rattle.world_steps.specs.Standings.{asks_of, content_then}
use Rattle.locked_run.specs.Parts.{InHeld, Moved}

-- no guardian of so many has this number
abbrev pub is_out : ℕ → ℕ → Bool
is_out count g = (g == 0) || nat_lt count g

-- this guardian, or none
abbrev pub is_at_most : ℕ → ℕ → ℕ → Bool
is_at_most count g k = (k == g) || is_out count k

-- the step names just these two
abbrev pub names_two : Step → List Event → ℕ → ℕ → Bool
names_two step past g h =
    ((first_named step past == g) && (second_named step past == h))
    || ((first_named step past == h) && (second_named step past == g))

-- it names nobody of so many but this one
abbrev pub names_one : ℕ → Step → List Event → ℕ → Bool
names_one count step past g =
    is_at_most count g (first_named step past) && is_at_most count g (second_named step past)

-- and nobody at all
abbrev pub names_nobody : ℕ → Step → List Event → Bool
names_nobody count step past =
    is_out count (first_named step past) && is_out count (second_named step past)

-- The guardian makes the step without the registry: an operation of an action at home there, its own
-- crash, or its own recovery.
abbrev pub is_own : ℕ → Step → List Event → Bool
is_own g (Op a x wanted) past = is_begun a past && (home_of a past == g)
is_own g (Crash h) past = h == g
is_own g (Recover h) past = h == g
is_own g _ past = false

-- What came of a step: it is for other locks, or it was taken, and perhaps added to the run, or it
-- failed.
pub data Outcome : Type 0 where
  elsewhere : Outcome
  taken : Bool → Outcome
  failed : Fault → Outcome

abbrev pub outcome_of : {A : Type 0} → (A → Option (List Event)) → Result (Option A) Fault → Outcome
outcome_of receipt (Ok None) = elsewhere
outcome_of receipt (Ok (Some a)) = taken (is_some (receipt a))
outcome_of receipt (Err fault) = failed fault

-- the step was added to the run
abbrev pub has_added : Outcome → Bool
has_added elsewhere = false
has_added (taken added) = added
has_added (failed fault) = false

-- the run before the step that was added, of the run after it
abbrev pub run_before : Bool → List Event → List Event
run_before false past = past
run_before true [] = []
run_before true (e ∷ past) = past

-- The answer is that of the step at a run, and what is locked has seen the run after it. A step that
-- is accepted has a receipt, whose run is that one; no other step has any.
pub record IsAnswered (opening : Opening) (step : Step) (answer : Answer)
    (receipt : Option (List Event)) (seen : List Event) : Type 0 where
  pub past : List Event
  pub run : IsRun opening past
  pub answered : answer ≡ answer_of opening step past
  pub seen_after : seen ≡ history_after step answer past
  pub accepted : is_some receipt ≡ is_accepted answer
  pub receipt_is : MatchOption receipt (Unit {0}) (λ run. run ≡ seen)

-- what the step leaves of the store of guardian g, by the run before it
abbrev pub StoreAfter : Opening → Step → Outcome → List Event → ℕ → View → View → Type 0
StoreAfter opening step elsewhere seen g old new = Stays old new
StoreAfter opening step (taken added) seen g old new =
    Leaves (asks_of opening step (run_before added seen) g old.content)
    (content_then opening step (run_before added seen) g old.content) old new None
StoreAfter opening step (failed fault) seen g old new =
    Leaves (asks_of opening step seen g old.content) (content_then opening step seen g old.content)
    old new (Some fault)

-- What the step leaves of a guardian under its lock: nothing else has touched it since it was seen
-- last, and its store has made the call that the step asks of it, or refused it.
pub record IsLeft {G : Type 0} (opening : Opening) (stored : G → View) (step : Step) (o : Outcome)
    (old new : InHeld G) : Type 0 where
  pub number : new.number ≡ old.number
  pub since : GoesOn touches (Some (suc old.number)) old.seen (run_before (has_added o) new.seen)
  pub store :
      StoreAfter opening step o new.seen old.number (stored old.guardian) (stored new.guardian)

-- what is left of the stamps of the guardian that drew one, if one was drawn
abbrev pub left_after : Bool → ℕ → ℕ
left_after added left = if added then left - 1 else left

-- nothing but the step has touched the registry since it was seen last
abbrev pub IsLeftThere : Outcome → List Event → List Event → Type 0
IsLeftThere o old new = GoesOn touches (Some 0) old (run_before (has_added o) new)

-- what came of an event that was to be kept
abbrev pub kept_outcome : Result ℕ Fault → Outcome
kept_outcome (Ok number) = taken true
kept_outcome (Err fault) = failed fault

-- What a step has the parts see: nothing touched their places before it, and if it was added they
-- have seen it.
pub record HasMoved (o : Outcome) (v w : List (Piece Event)) : Type 0 where
  pub since : AllFit touches (run_before (has_added o) (seen_of w)) v
  pub moved : Moved (has_added o) v w

-- A step is for other locks: what is locked does not fit, the guardian that would draw its stamp has
-- none left, or the step names others.
abbrev pub IsElsewhere : Type 0 → ℕ → Bool → Type 0
IsElsewhere apart left named = apart ⊎ ((left ≡ 0) ⊎ (named ≡ false))
