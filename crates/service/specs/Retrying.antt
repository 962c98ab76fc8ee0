-- When a transaction is made again, and how often.
use Rattle.std.specs.Prelude.{◌≡◌, ◌⊎◌, ℕ, zero, suc, Bool, true, false, Option, Some, None, is_some, if◌then◌else◌}
use Rattle.run_model.specs.declared.step.Step.TheVariants as steps
use Rattle.stepping.specs.Beside.{OwnRun, Sees}
use Rattle.service.specs.Outcomes.{fault_passes}
use Rattle.service.specs.Transacting.{TransactsAt}
use Rattle.service.specs.Working.{Does, TransactsOnce}
use Rattle.service.specs.declared.fault.CallFault.{CallFault}
use Rattle.service.specs.declared.fault.CallFault.TheVariants.{Refused, Waits, Failed}
use Rattle.service.specs.declared.outcome.Cause.{Cause}
use Rattle.service.specs.declared.outcome.Cause.TheVariants.{Work, Vote, Step}
use Rattle.service.specs.declared.outcome.Outcome.{Outcome}
use Rattle.service.specs.declared.outcome.Outcome.TheVariants.{Committed, Aborted}
use Rattle.service.specs.declared.outcome.Transacted.{Transacted}
use Rattle.service.specs.declared.retrying.Obstacle.{Obstacle}
use Rattle.service.specs.declared.retrying.Obstacle.TheVariants as obstacles
use Rattle.service.specs.declared.retrying.Retries.{Retries}

-- what is in the way after a fault, whether it may pass or not
abbrev pub obstacle_in : CallFault → Obstacle
obstacle_in (Refused why) = obstacles.Refused
obstacle_in (Waits names) = obstacles.Waits
obstacle_in (Failed fault) = obstacles.Failed

abbrev pub fault_obstacle : CallFault → Option Obstacle
fault_obstacle fault = if fault_passes fault then Some (obstacle_in fault) else None

-- whether these retries name what is in the way
abbrev pub is_named : Retries → Option Obstacle → Bool
is_named retries None = false
is_named retries (Some obstacles.Refused) = retries.refused
is_named retries (Some obstacles.Waits) = retries.waits
is_named retries (Some obstacles.Failed) = retries.failed

-- ---- by how a transaction ended; this tells what was in the way from an error of the work

module _ {E : Type 0} (obstacle : E → Option Obstacle) (retries : Retries) where
  abbrev pub names_cause : Cause E → Bool
  names_cause (Work error) = is_named retries (obstacle error)
  names_cause Vote = retries.vote
  names_cause (Step fault) = is_named retries (fault_obstacle fault)

  abbrev pub names_outcome : {T : Type 0} → Outcome T E → Bool
  names_outcome (Committed value) = false
  names_outcome (Aborted cause) = names_cause cause

  -- nothing is to be left unsettled
  abbrev pub goes_on : {T : Type 0} → Transacted T E → Bool
  goes_on ended = if is_some ended.left then false else names_outcome ended.outcome

-- ---- transactions one after another

module _ {J T E : Type 0} (sees : Sees) (does : Does J T E) (again : Transacted T E → Bool)
    (home : ℕ) where
  -- A transaction of this work ended so.
  pub record IsMadeOnce (old new : OwnRun) (before after : J) (ended : Transacted T E)
      : Type 0 where
    pub transacts : TransactsAt sees home old new ended
    pub once : TransactsOnce sees does (steps.Top home) old new before after ended.outcome

  -- One did, and is to be made again.
  pub record IsRepeated (old mid : OwnRun) (before between : J) : Type 0 where
    pub ended : Transacted T E
    pub made : IsMadeOnce old mid before between ended
    pub named : again ended ≡ true

  -- It was made again as often as it was to be, but this often at most; the last one ended so.
  abbrev pub Retried : ℕ → OwnRun → OwnRun → J → J → Transacted T E → Type 0
  Retried zero old new before after last = IsMadeOnce old new before after last
  Retried (suc more) old new before after last =
      ∥ IsMadeOnce old new before after last × (again last ≡ false)
      ⊎ ((mid : OwnRun) × (between : J) × IsRepeated old mid before between
      × Retried more mid new between after last) ∥₁
