-- Two arms of an action, in each of which work ran, at once.
use Rattle.std.specs.Prelude.{◌≡◌, ◌⊎◌, ◌+◌, ◌≤◌, ℕ, Bool, true, false, ◌||◌, List, [], ◌∷◌, Option, Some, Result, Ok, Err, OnErr, OnOk, vec_capacity, vec_len}
use Rattle.std.specs.Result.{IsErrAnd, is_ok}
use Rattle.std.specs.declared.vec.Vec.{Vec}
use Rattle.action_names.specs.Names.{Name, is_prefix, parent_of, same_name}
use Rattle.run_model.specs.declared.answer.Answer.TheVariants as answers
use Rattle.run_model.specs.declared.history.Event.{Event}
use Rattle.run_model.specs.declared.step.ArmKind.TheVariants as kinds
use Rattle.run_model.specs.declared.step.Step.{Step}
use Rattle.run_model.specs.declared.step.Step.TheVariants as steps
use Rattle.run_model.specs.Actions.{is_committed}
use Rattle.layer_contracts.specs.declared.guardian.Fault.{Fault}
use Rattle.stepping.specs.Beside.{IsAnsweredTo, OwnRun, Sees, own_after, started}
use Rattle.service.specs.Arms.{AreJoined, ArmDoes}
use Rattle.service.specs.Calling.{ComesToNothing}
use Rattle.service.specs.Transacting.{Began, Begins, EndedAndTold, Goes, Includes, Settles, Works, ends_top, finishes, settles}
use Rattle.service.specs.Working.{Does, IsOutcomeOf, IsResultOf}
use Rattle.service.specs.declared.fault.CallFault.{CallFault}
use Rattle.service.specs.declared.fault.CallFault.TheVariants.{Failed}
use Rattle.service.specs.declared.outcome.Cause.TheVariants.{Step as ByStep}
use Rattle.service.specs.declared.outcome.Outcome.{Outcome}
use Rattle.service.specs.declared.outcome.Outcome.TheVariants.{Aborted}
use Rattle.service.specs.declared.place.Place.{Place}

-- a list that can take in as many numbers again, without memory
abbrev pub HasRoomAgain : {Z : Type 0} → Vec ℕ Z → Type 0
HasRoomAgain numbers = vec_len numbers + vec_len numbers ≤ vec_capacity numbers

-- ---- how arms begin

-- the step that begins two arms of the action, which are subactions
abbrev pub arms_of : Name → Step
arms_of a = steps.Arms a (kinds.Sub ∷ kinds.Sub ∷ [])

module _ (sees : Sees) where
  -- The step began these two.
  pub record BeginArms (a one other : Name) (old begun : OwnRun) : Type 0 where
    pub answer : IsAnsweredTo sees old (arms_of a) (answers.Began (one ∷ other ∷ []))
    pub after : begun ≡ own_after old (arms_of a) (answers.Began (one ∷ other ∷ []))

-- a step that aborts one of two actions, or tells how it ended
abbrev pub settles_both : Name → Name → Step → Bool
settles_both one other step = settles one step || settles other step

-- No child of this action but these two has committed in between, unless it is below a top action that began in
-- between.
abbrev pub CommitsNoOther : Name → Name → Name → OwnRun → OwnRun → Type 0
CommitsNoOther a one other old new = (b : Name) → parent_of b ≡ a
    → same_name one b ≡ false → same_name other b ≡ false
    → ((t : Name) → Began t old new → is_prefix t b ≡ false)
    → is_committed b new.past ≡ is_committed b old.past

-- ---- an arm

-- The work ran once in the arm, and gave this, from which the result comes. Then the arm was committed or aborted, and
-- its guardian was told.
pub record RunsInArm {J T E : Type 0} (sees : Sees) (does : Does J T E)
    (comes : CallFault → E → Type 0) (arm : Name) (begun : OwnRun) (before after : J)
    (result : Result T E) (now : OwnRun) : Type 0 where
  pub worked : OwnRun
  pub done : Result T E
  pub ran : does before begun done after worked
  pub ended : Goes sees (finishes arm) worked now
  pub gives : IsResultOf comes (ComesToNothing sees worked (steps.Commit arm)) done result

-- ---- an arm, as it leaves its place

module _ {T E : Type 0} (sees : Sees) (comes : CallFault → E → Type 0) where
  -- The arm was committed or aborted, and its guardian was told. If it gives a value, it has committed, and its list of
  -- guardians has room for as many again.
  pub record IsEndOf (at now : Place) (worked run : OwnRun) (done result : Result T E)
      : Type 0 where
    pub action : now.action ≡ at.action
    pub reached : Includes at.reached.items now.reached.items
    pub ends : Settles sees (finishes at.action) worked run at.left now.left
        (EndedAndTold at.action at.home run)
    pub gives : IsResultOf comes (ComesToNothing sees worked (steps.Commit at.action)) done result
    pub committed : OnOk result (is_committed at.action run.past ≡ true)
    pub room : OnOk result (HasRoomAgain now.reached)
    pub undone : OnErr result (Goes sees (settles at.action) worked run)

module _ {J T E : Type 0} (sees : Sees) (does : Does J T E) (comes : CallFault → E → Type 0) where
  -- The work ran in the arm, which then ended.
  pub record EndsArm (at now : Place) (begun run : OwnRun) (before after : J)
      (kept : Option (Result T E)) : Type 0 where
    pub worked : OwnRun
    pub left : Place
    pub done : Result T E
    pub result : Result T E
    pub is : kept ≡ Some result
    pub ran : does before begun done after worked
    pub action : left.action ≡ at.action
    pub home : left.home ≡ at.home
    pub reached : Includes at.reached.items left.reached.items
    pub works : ∥ Works sees at.action begun worked at.left left.left ∥₁
    pub ends : IsEndOf sees comes left now worked run done result

  -- so an arm, which is its place and its work, gives this
  abbrev pub GivesInArm : Result T E → ArmDoes (Place × J)
  GivesInArm gave old begun new run = EndsArm old.0 new.0 begun run old.1 new.1 (Some gave)

-- ---- both

module _ {J T E K U F : Type 0} (sees : Sees) (does : Does J T E) (also_does : Does K U F)
    (comes : CallFault → E → Type 0) (also_comes : CallFault → F → Type 0) where
  -- The arms began and ran at once. Each has committed exactly if it gives a value, and no other child has.
  pub record RanTogether (a : Name) (old new : OwnRun) (one one_after : J) (other other_after : K)
      (gave : Result T E) (also_gave : Result U F) : Type 0 where
    pub first : Name
    pub second : Name
    pub begun : OwnRun
    pub begins : BeginArms sees a first second old begun
    pub since : List (List Event)
    pub first_run : OwnRun
    pub second_run : OwnRun
    pub first_ran : RunsInArm sees does comes first (started begun since) one one_after gave
        first_run
    pub second_ran : RunsInArm sees also_does also_comes second (started begun since) other
        other_after also_gave second_run
    pub joined : ∥ AreJoined sees begun since first_run second_run new ∥₁
    pub first_says : is_committed first new.past ≡ is_ok gave
    pub second_says : is_committed second new.past ≡ is_ok also_gave
    pub no_other : CommitsNoOther a first second old new

-- The arms began, and could not be run. Both were aborted.
pub record AreCalledOff (sees : Sees) (a : Name) (old new : OwnRun) (fault : CallFault)
    : Type 0 where
  pub first : Name
  pub second : Name
  pub begun : OwnRun
  pub begins : BeginArms sees a first second old begun
  pub aborted : Goes sees (settles_both first second) begun new
  pub failed : (why : Fault) × (fault ≡ Failed why)

-- the arms did not begin, for this reason, and nothing has happened; or they were called off
abbrev pub RanNot : Sees → Name → OwnRun → OwnRun → CallFault → Type 0
RanNot sees a old new fault = (ComesToNothing sees old (arms_of a) fault × (new ≡ old))
    ⊎ AreCalledOff sees a old new fault

-- ---- a transaction of two works

-- both values, or else the first error
abbrev pub both_given : {T U E : Type 0} → Result T E → Result U E → Result (T × U) E
both_given (Ok one) (Ok other) = Ok (one, other)
both_given (Ok one) (Err error) = Err error
both_given (Err error) other = Err error

module _ {J T K U E : Type 0} (sees : Sees) (does : Does J T E) (also_does : Does K U E)
    (comes : CallFault → E → Type 0) where
  -- Both works ran at once in arms of the action, and this comes of what they gave. Or no arm ran, for the reason of
  -- which the error comes, and the works are as they were.
  abbrev pub WorkTogether : Name → OwnRun → OwnRun → J → J → K → K → Result (T × U) E → Type 0
  WorkTogether a begun worked one one_after other other_after done =
      ((gave : Result T E) × (also_gave : Result U E) × (done ≡ both_given gave also_gave)
      × RanTogether sees does also_does comes comes a begun worked one one_after other other_after
      gave also_gave)
      ⊎ ((fault : CallFault) × IsErrAnd done (comes fault) × RanNot sees a begun worked fault
      × (one_after ≡ one) × (other_after ≡ other))

  -- So both worked in the action. Then came steps that end it, and no other.
  pub record RunsBoth (a : Name) (begun new : OwnRun) (one one_after : J) (other other_after : K)
      (done : Result (T × U) E) : Type 0 where
    pub worked : OwnRun
    pub ran : WorkTogether a begun worked one one_after other other_after done
    pub ended : Goes sees (ends_top a) worked new

  -- A top action began at this home, and so both worked in it.
  pub record RunsBothAt (home : ℕ) (old new : OwnRun) (one one_after : J) (other other_after : K)
      (done : Result (T × U) E) : Type 0 where
    pub top : Name
    pub begun : OwnRun
    pub begins : Begins sees (steps.Top home) top old begun
    pub runs : RunsBoth top begun new one one_after other other_after done

  -- The works of a transaction that ended so ran at once in its top action. Or this did not begin, and the works are as
  -- they were.
  abbrev pub TransactsTogether : ℕ → OwnRun → OwnRun → J → J → K → K → Outcome (T × U) E → Type 0
  TransactsTogether home old new one one_after other other_after outcome =
      ((fault : CallFault) × (outcome ≡ Aborted (ByStep fault)) × (new ≡ old)
      × (one_after ≡ one) × (other_after ≡ other))
      ⊎ ((done : Result (T × U) E) × IsOutcomeOf done outcome
      × RunsBothAt home old new one one_after other other_after done)
