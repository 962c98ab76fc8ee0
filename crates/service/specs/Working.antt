-- Work that runs once, and what comes of what it gives.
use Rattle.std.specs.Prelude.{◌≡◌, ◌⊎◌, ℕ, Bool, true, Result, Ok, Err}
use Rattle.std.specs.Result.{IsErrAnd, is_ok}
use Rattle.action_names.specs.Names.{Name}
use Rattle.run_model.specs.declared.step.Step.{Step}
use Rattle.run_model.specs.declared.step.Step.TheVariants as steps
use Rattle.stepping.specs.Beside.{OwnRun, Sees}
use Rattle.service.specs.Calling.{ComesToNothing}
use Rattle.service.specs.Transacting.{Begins, Goes, ends_top, finishes}
use Rattle.service.specs.declared.fault.CallFault.{CallFault}
use Rattle.service.specs.declared.outcome.Cause.TheVariants.{Work, Vote, Step as ByStep}
use Rattle.service.specs.declared.outcome.Outcome.{Outcome}
use Rattle.service.specs.declared.outcome.Outcome.TheVariants.{Aborted, Committed}

-- That work of this type, at a run, gives a result with this value or error, and how it and the run are then.
abbrev pub Does : Type 0 → Type 0 → Type 0 → Type 1
Does J T E = J → OwnRun → Result T E → J → OwnRun → Type 0

-- where nothing is stated of it
abbrev pub Anything : {J T E : Type 0} → Does J T E
Anything before old result after new = Unit {0}

-- A call gives the value or the error of the work. If the work gave a value, the error may also come of a fault that
-- kept the subaction from its commit.
abbrev pub IsResultOf : {T E : Type 0} → (CallFault → E → Type 0) → (CallFault → Type 0)
    → Result T E → Result T E → Type 0
IsResultOf comes stopped done (Ok value) = done ≡ Ok value
IsResultOf comes stopped done (Err error) = (done ≡ Err error)
    ⊎ ((is_ok done ≡ true) × (fault : CallFault) × comes fault error × stopped fault)

-- an outcome has the value or the error of the work; it has another cause only if the work gave a value
abbrev pub IsOutcomeOf : {T E : Type 0} → Result T E → Outcome T E → Type 0
IsOutcomeOf done (Committed value) = done ≡ Ok value
IsOutcomeOf done (Aborted (Work error)) = done ≡ Err error
IsOutcomeOf done (Aborted Vote) = is_ok done ≡ true
IsOutcomeOf done (Aborted (ByStep fault)) = is_ok done ≡ true

module _ {J T E : Type 0} (sees : Sees) (does : Does J T E) where
  -- The work ran once, and gave this. Then came steps of this kind, and no other.
  pub record RunsOnce (ends : Step → Bool) (begun new : OwnRun) (before after : J)
      (done : Result T E) : Type 0 where
    pub worked : OwnRun
    pub ran : does before begun done after worked
    pub ended : Goes sees ends worked new

  -- This step began an action, and the work ran once in it.
  pub record RunsIn (first : Step) (ends : Name → Step → Bool) (old new : OwnRun)
      (before after : J) (done : Result T E) : Type 0 where
    pub action : Name
    pub begun : OwnRun
    pub begins : Begins sees first action old begun
    pub runs : RunsOnce (ends action) begun new before after done

  -- the work of a transaction that ended so ran once in its top action; or this did not begin, and the work is as it was
  abbrev pub TransactsOnce : Step → OwnRun → OwnRun → J → J → Outcome T E → Type 0
  TransactsOnce first old new before after outcome =
      ((fault : CallFault) × (outcome ≡ Aborted (ByStep fault)) × (new ≡ old) × (after ≡ before))
      ⊎ ((done : Result T E) × IsOutcomeOf done outcome
      × RunsIn first ends_top old new before after done)

  -- The work of a call that gave this ran once in its subaction. Or the subaction did not begin, for the reason of which
  -- the error comes, and the work is as it was.
  abbrev pub CallsOnce : (CallFault → E → Type 0) → Name → ℕ → OwnRun → OwnRun → J → J
      → Result T E → Type 0
  CallsOnce comes a g old new before after result =
      ((fault : CallFault) × IsErrAnd result (comes fault)
      × ComesToNothing sees old (steps.Call a g) fault × (new ≡ old) × (after ≡ before))
      ⊎ ((done : Result T E) × (ran : RunsIn (steps.Call a g) finishes old new before after done)
      × IsResultOf comes (ComesToNothing sees ran.runs.worked (steps.Commit ran.action)) done result)
