-- What a transaction does to a run.
use Rattle.std.specs.Prelude.{◌≡◌, ◌⊎◌, ℕ, Bool, true, false, IsTrue, not, ◌==◌, ◌&&◌, ◌||◌, List, [], ◌∷◌, ◌++◌, Option, Some, None}
use Rattle.std.specs.List.{list_all, list_any}
use Rattle.action_names.specs.Names.{Name, has_name, is_prefix, parent_of, same_name}
use Rattle.run_model.specs.declared.answer.Answer.{Answer}
use Rattle.run_model.specs.declared.answer.Answer.TheVariants as answers
use Rattle.run_model.specs.declared.history.Event.{Event}
use Rattle.run_model.specs.declared.step.Step.{Step}
use Rattle.run_model.specs.declared.step.Step.TheVariants as steps
use Rattle.run_model.specs.Actions.{begins, is_begun, is_committed, is_ended}
use Rattle.run_model.specs.Openings.{opening_in}
use Rattle.run_model.specs.Runs.{history_from, is_accepted}
use Rattle.run_model.specs.Telling.{told_since_crash}
use Rattle.run_model.specs.Votes.{has_voted}
use Rattle.stepping.specs.Beside.{IsAnsweredTo, IsPartOf, OwnRun, Sees, SeesOwn, own_after, started}
use Rattle.service.specs.Calling.{ComesToNothing}
use Rattle.service.specs.Outcomes.{has_committed}
use Rattle.service.specs.declared.fault.CallFault.{CallFault}
use Rattle.service.specs.declared.outcome.Cause.TheVariants.{Vote, Step as ByStep}
use Rattle.service.specs.declared.outcome.Outcome.TheVariants.{Aborted}
use Rattle.service.specs.declared.outcome.Outcome.{Outcome}
use Rattle.service.specs.declared.outcome.Transacted.{Transacted}
use Rattle.service.specs.declared.place.Place.{Place}

-- ---- steps of a transaction

-- b is a descendant of a, a itself left out
abbrev pub is_below : Name → Name → Bool
is_below a b = is_prefix a b && not (is_prefix b a)

-- a step of work in an action: it calls, operates and begins arms and top actions there and below, and ends only what
-- is below
abbrev pub works_in : Name → Step → Bool
works_in a (steps.NestedTop b) = is_prefix a b
works_in a (steps.Call b g) = is_prefix a b
works_in a (steps.Arms b kinds) = is_prefix a b
works_in a (steps.Op b x wanted) = is_prefix a b
works_in a (steps.Commit b) = is_below a b
works_in a (steps.Abort b) = is_below a b
works_in a (steps.Tell g b) = is_below a b
works_in a _ = false

-- a step that aborts an action, or tells how it ended
abbrev pub settles : Name → Step → Bool
settles a (steps.Abort b) = same_name a b
settles a (steps.Tell g b) = same_name a b
settles a _ = false

-- or commits it to its parent
abbrev pub finishes : Name → Step → Bool
finishes a (steps.Commit b) = same_name a b
finishes a (steps.Abort b) = same_name a b
finishes a (steps.Tell g b) = same_name a b
finishes a _ = false

-- a step that ends a top action by two phases, or tells how it ended
abbrev pub ends_top : Name → Step → Bool
ends_top t (steps.Close b) = same_name t b
ends_top t (steps.Prepare g b) = same_name t b
ends_top t (steps.Decide b) = same_name t b
ends_top t (steps.Abort b) = same_name t b
ends_top t (steps.Tell g b) = same_name t b
ends_top t _ = false

-- a step of work in this top action, or of its end
abbrev pub belongs : Name → Step → Bool
belongs t step = works_in t step || ends_top t step

-- a step of work in one of these top actions, or of its end
abbrev pub belongs_to : List Name → Step → Bool
belongs_to tops step = list_any (λ t. belongs t step) tops

-- a step of work in this action, or a step of these top actions, which began in it
abbrev pub works_with : List Name → Name → Step → Bool
works_with tops a step = works_in a step || belongs_to tops step

-- an action stays open, or a guardian untold, if no such step happens
abbrev pub is_settling : Step → Bool
is_settling (steps.Abort b) = true
is_settling (steps.Tell g b) = true
is_settling _ = false

-- a top action is not decided if no such step happens
abbrev pub is_concluding : Step → Bool
is_concluding (steps.Close b) = true
is_concluding (steps.Prepare g b) = true
is_concluding (steps.Decide b) = true
is_concluding _ = false

-- a guardian votes no
abbrev pub votes_no : Name → Step → Answer → Bool
votes_no t (steps.Prepare g b) answers.VoteNo = same_name t b
votes_no t step answer = false

-- a guardian has voted no
abbrev pub is_voted_down : Name → List Event → Bool
is_voted_down t past = list_any (λ (e : Event). votes_no t e.step e.answer) past

-- ---- what steps leave

-- no action began in between
abbrev pub NoneBegan : OwnRun → OwnRun → Type 0
NoneBegan old new = (b : Name) → is_begun b new.past ≡ is_begun b old.past

-- A top action began in between.
pub record Began (t : Name) (old new : OwnRun) : Type 0 where
  pub number : ℕ
  pub named : t ≡ number ∷ []
  pub recent : List Event
  pub parts : new.past ≡ recent ++ old.past
  pub begun : is_begun t recent ≡ true

-- each of these did
abbrev pub AllBegan : List Name → OwnRun → OwnRun → Type 0
AllBegan tops old new = (t : Name) → has_name tops t ≡ true → Began t old new

-- the step begins actions at this guardian, if its maker began there in case of a nested top action and of arms
abbrev pub begins_at : Step → ℕ → (Name → Bool) → Bool
begins_at (steps.Top h) g there = h == g
begins_at (steps.NestedTop b) g there = there b
begins_at (steps.Call b h) g there = h == g
begins_at (steps.Arms b kinds) g there = there b
begins_at _ g there = false

abbrev pub is_arms : Step → Bool
is_arms (steps.Arms b kinds) = true
is_arms _ = false

-- the last of these events began arms
abbrev pub begins_arms : List Event → Bool
begins_arms [] = false
begins_arms (e ∷ past) = is_arms e.step

-- b began at this guardian
abbrev pub began_at : ℕ → Name → List Event → Bool
began_at g b [] = false
began_at g b (e ∷ past) =
    (begins e b && begins_at e.step g (λ c. began_at g c past)) || began_at g b past

-- It has ended, and the guardian at which it began was told.
pub record IsSettled (b : Name) (now : OwnRun) : Type 0 where
  pub ended : is_ended b now.past ≡ true
  pub home : ℕ
  pub there : began_at home b now.past ≡ true
  pub told : told_since_crash home b now.past ≡ true

-- so is every action that was begun in between
abbrev pub AllSettled : OwnRun → OwnRun → Type 0
AllSettled old new = (b : Name) → is_begun b new.past ≡ true → is_begun b old.past ≡ false
    → IsSettled b new

-- each guardian that voted in between was told how the top action ended on which it voted
abbrev pub AllVotersTold : OwnRun → OwnRun → Type 0
AllVotersTold old new = (t : Name) (g : ℕ) → has_voted g t new.past ≡ true
    → has_voted g t old.past ≡ false → told_since_crash g t new.past ≡ true

-- it has ended, and this guardian was told
abbrev pub EndedAndTold : Name → ℕ → OwnRun → Type 0
EndedAndTold a g now = (is_ended a now.past ≡ true) × (told_since_crash g a now.past ≡ true)

-- no child of this action has committed in between, unless it is below a top action that began in between
abbrev pub CommitsNoChild : Name → OwnRun → OwnRun → Type 0
CommitsNoChild a old new = (b : Name) → parent_of b ≡ a
    → ((t : Name) → Began t old new → is_prefix t b ≡ false)
    → is_committed b new.past ≡ is_committed b old.past

-- ---- the end of a top action

abbrev pub has_number : List ℕ → ℕ → Bool
has_number numbers n = list_any (λ m. m == n) numbers

-- all of the first are of the second too
abbrev pub Includes : List ℕ → List ℕ → Type 0
Includes few more = (n : ℕ) → has_number few n ≡ true → has_number more n ≡ true

-- these guardians voted
abbrev pub AllVoted : Name → List ℕ → OwnRun → Type 0
AllVoted t guardians now = (g : ℕ) → has_number guardians g ≡ true → has_voted g t now.past ≡ true

-- these guardians were told how it ended
abbrev pub AllTold : Name → List ℕ → OwnRun → Type 0
AllTold t guardians now = list_all (λ g. told_since_crash g t now.past) guardians ≡ true

-- ---- steps and their answers, where such histories are seen

module _ (sees : Sees) where
  -- each event is of a step of this kind, with an answer that the caller was given after the events before
  abbrev pub AreOwn : (Step → Bool) → OwnRun → List Event → Type 0
  AreOwn mine old [] = Unit {0}
  AreOwn mine old (e ∷ later) = (mine e.step ≡ true) × IsTrue (is_accepted e.answer)
      × IsAnsweredTo sees (record old { past = later ++ old.past }) e.step e.answer
      × AreOwn mine old later

  -- Steps of this kind, one after another, lead from one run to the other.
  pub record Goes (mine : Step → Bool) (old new : OwnRun) : Type 0 where
    pub lists : new.lists ≡ old.lists
    pub since : new.since ≡ old.since
    pub later : List Event
    pub past : new.past ≡ later ++ old.past
    pub own : AreOwn mine old later

  -- At the caller's own run, one of these steps, of this kind, came to nothing for this reason.
  pub record StopsAt (mine kind : Step → Bool) (old new : OwnRun) (fault : CallFault) : Type 0 where
    pub before : OwnRun
    pub first : Goes mine old before
    pub step : Step
    pub own : mine step ≡ true
    pub of_kind : kind step ≡ true
    pub why : ComesToNothing sees before step fault
    pub more : Goes mine before new

-- Of these steps one of this kind came to nothing, for this reason: at the caller's own run, or in an arm. The arm's
-- run went on from that at which arms began, and what it did is a part of what the caller then went on by. Who runs
-- no arms has only the first.
pub data CameToNothing (sees : Sees) (mine kind : Step → Bool) : OwnRun → OwnRun → CallFault
    → Type 0 where
  by_itself : {old new : OwnRun} {fault : CallFault} → StopsAt sees mine kind old new fault
      → CameToNothing sees mine kind old new fault
  in_arm : {old new : OwnRun} {fault : CallFault} (begun arm joined : OwnRun)
      (since : List (List Event))
      → Goes sees mine old begun → begins_arms begun.past ≡ true
      → (inside : Goes sees mine (started begun since) arm)
      → CameToNothing sees mine kind (started begun since) arm fault
      → (both : Goes sees mine begun joined) → IsPartOf inside.later both.later
      → Goes sees mine joined new → CameToNothing sees mine kind old new fault

module _ (sees : Sees) where
  -- one that was to settle something did
  abbrev pub FallsShort : (Step → Bool) → OwnRun → OwnRun → CallFault → Type 0
  FallsShort mine old new fault = CameToNothing sees mine is_settling old new fault

  -- Steps of this kind that begin nothing. Unless one came to nothing, it is so afterwards. Else the reason is kept, of
  -- one of these steps or of one before.
  pub record Settles (mine : Step → Bool) (old new : OwnRun) (was is : Option CallFault)
      (So : Type 0) : Type 0 where
    pub goes : Goes sees mine old new
    pub none : NoneBegan old new
    pub settled : is ≡ None → (was ≡ None) × So
    pub short : (fault : CallFault) → is ≡ Some fault
        → (was ≡ Some fault) ⊎ FallsShort mine old new fault

  -- ---- work

  -- Work in this action, and in top actions that began in it. Unless a step came to nothing, all that it began is
  -- settled. Else the reason is kept, of one of these steps or of one before.
  pub record Works (a : Name) (old new : OwnRun) (was is : Option CallFault) : Type 0 where
    pub tops : List Name
    pub began : AllBegan tops old new
    pub goes : Goes sees (works_with tops a) old new
    pub settled : is ≡ None → (was ≡ None) × AllSettled old new × AllVotersTold old new
    pub short : (fault : CallFault) → is ≡ Some fault
        → (was ≡ Some fault) ⊎ FallsShort (works_with tops a) old new fault

  -- ---- the end of a top action

  -- Steps that end a top action, whether they commit it or not. Only these guardians vote.
  pub record Concludes (t : Name) (guardians : List ℕ) (old new : OwnRun)
      (committed : Bool) : Type 0 where
    pub goes : Goes sees (ends_top t) old new
    pub none : NoneBegan old new
    pub says : is_committed t new.past ≡ committed || is_committed t old.past
    pub voted : (g : ℕ) → has_number guardians g ≡ false
        → has_voted g t new.past ≡ has_voted g t old.past

  -- The top action is ended. Unless a step came to nothing, these guardians were told. Else the reason is kept, of one
  -- of these steps or of one before.
  pub record EndsTop (t : Name) (guardians : List ℕ) (old new : OwnRun)
      (was is : Option CallFault) (committed : Bool) : Type 0 where
    pub concludes : Concludes t guardians old new committed
    pub settled : is ≡ None → (was ≡ None) × (is_ended t new.past ≡ true)
        × AllTold t guardians new
    pub short : (fault : CallFault) → is ≡ Some fault
        → (was ≡ Some fault) ⊎ FallsShort (ends_top t) old new fault

  -- ---- transactions

  -- The step began the action.
  pub record Begins (first : Step) (action : Name) (old new : OwnRun) : Type 0 where
    pub answer : IsAnsweredTo sees old first (answers.Began (action ∷ []))
    pub after : new ≡ own_after old first (answers.Began (action ∷ []))

  -- A call of this guardian began a subaction of the action, which has committed.
  pub record CommitsCall (a : Name) (g : ℕ) (old new : OwnRun) : Type 0 where
    pub sub : Name
    pub begun : OwnRun
    pub begins : Begins (steps.Call a g) sub old begun
    pub committed : is_committed sub new.past ≡ true

  -- The step began the top action of a transaction, which ended so. If a step came to nothing, the reason is kept: of
  -- one of its own or of one before.
  pub record IsTransacted {T E : Type 0} (first : Step) (old new : OwnRun) (outcome : Outcome T E)
      (was is : Option CallFault) : Type 0 where
    pub top : Name
    pub begun : OwnRun
    pub begins : Begins first top old begun
    -- the run goes on by steps of this transaction alone, and of top actions that began in it
    pub tops : List Name
    pub began : AllBegan tops begun new
    pub goes : Goes sees (belongs_to (top ∷ tops)) begun new
    -- it says committed exactly if its top action has committed
    pub says : is_committed top new.past ≡ has_committed outcome
    -- it says that a vote is the cause only if a guardian voted no
    pub vote : outcome ≡ Aborted Vote → is_voted_down top new.past ≡ true
    -- and that a step is only if one that was to close, to vote or to decide came to nothing for this reason
    pub step : (fault : CallFault) → outcome ≡ Aborted (ByStep fault)
        → CameToNothing sees (belongs_to (top ∷ tops)) is_concluding begun new fault
    -- each action that began has ended, and the guardian at which it began was told; so was each that voted
    pub settled : is ≡ None → (was ≡ None) × AllSettled old new × AllVotersTold old new
    -- else a step that was to end or tell something came to nothing, for this reason
    pub short : (fault : CallFault) → is ≡ Some fault
        → (was ≡ Some fault) ⊎ FallsShort (belongs_to (top ∷ tops)) begun new fault
    -- nobody else's action is ended
    pub others : (b : Name) → list_any (λ t. is_prefix t b) (top ∷ tops) ≡ false
        → is_ended b new.past ≡ is_ended b old.past

  -- The top action did not begin, for this reason, and nothing has happened.
  pub record IsUnbegun {T E : Type 0} (first : Step) (old new : OwnRun) (outcome : Outcome T E)
      (was is : Option CallFault) : Type 0 where
    pub fault : CallFault
    pub aborted : outcome ≡ Aborted (ByStep fault)
    pub why : ComesToNothing sees old first fault
    pub same : new ≡ old
    pub none : is ≡ was

  abbrev pub Transacts : {T E : Type 0} → Step → OwnRun → OwnRun → Outcome T E → Option CallFault
      → Option CallFault → Type 0
  Transacts first old new outcome was is = ∥ IsUnbegun first old new outcome was is
      ⊎ IsTransacted first old new outcome was is ∥₁

  -- a transaction of its own, at this home
  abbrev pub TransactsAt : {T E : Type 0} → ℕ → OwnRun → OwnRun → Transacted T E → Type 0
  TransactsAt home old new ended =
      Transacts (steps.Top home) old new ended.outcome None ended.left

  -- Work in a top action that has begun, and its end.
  pub record RunsTop {T E : Type 0} (at : Place) (old new : OwnRun)
      (ended : Transacted T E) : Type 0 where
    pub worked : OwnRun
    pub guardians : List ℕ
    pub mid : Option CallFault
    pub works : Works at.action old worked at.left mid
    pub reached : Includes at.reached.items guardians
    pub ends : EndsTop at.action guardians worked new mid ended.left (has_committed ended.outcome)
    pub vote : ended.outcome ≡ Aborted Vote → is_voted_down at.action new.past ≡ true
    pub step : (fault : CallFault) → ended.outcome ≡ Aborted (ByStep fault)
        → CameToNothing sees (ends_top at.action) is_concluding worked new fault

-- ---- a caller that is alone

-- what it does is that its steps are made one after another, as a history goes on
abbrev pub GoesByItself : Type 0
GoesByItself = (mine : Step → Bool) (old new : OwnRun) → Goes SeesOwn mine old new
    → (made : List Step) × (list_all mine made ≡ true)
    × (new.past ≡ history_from (opening_in old.lists) old.past made)
