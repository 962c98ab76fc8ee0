-- The steps by which a top action commits, as an activity tries them.
use Rattle.std.specs.Prelude.{◌≡◌, Bool, [], ◌∷◌, Result, IfErr, IfOk, OnOk}
use Rattle.action_names.specs.Names.{Name}
use Rattle.layer_contracts.specs.declared.guardian.Fault.{Fault}
use Rattle.run_model.specs.declared.answer.Answer.{Answer}
use Rattle.run_model.specs.declared.step.Step.{Step}
use Rattle.run_model.specs.declared.step.Step.TheVariants.{Decide, Prepare}
use Rattle.run_model.specs.Runs.{World}
use Rattle.run_model.specs.Votes.{is_yes}
use Rattle.activities.specs.Failing.{EndOrFail, IsCause}
use Rattle.activities.specs.Making.{Makes, Tells, commits_of}
use Rattle.activities.specs.OwnSteps.{about}
use Rattle.activities.specs.Reaching.{is_made}
use Rattle.activities.specs.Serial.{Tried, after, asked}

-- a vote is done if it is yes, and each other step if it was made
abbrev pub is_done_by : Step → Answer → Bool
is_done_by (Prepare g t) answer = is_yes answer
is_done_by _ answer = is_made answer

-- An activity tried the step with this result.
pub record IsTried (alone : Type 0) (fails : Fault → Type 0) (step : Step)
    (result : Result Bool Fault) (old new : World) : Type 0 where
  pub makes : Makes (about step) (commits_of step) old new
  pub told : IfOk result (λ done. (a : Name) → step ≡ Decide a → Tells done a old new)
  pub left : OnOk result (alone → new ≡ after step old)
  pub done : IfOk result (λ done. alone → done ≡ is_done_by step (asked step old))
  pub failed : IfErr result (IsCause fails)
  pub over : EndOrFail alone fails [] old new

-- Steps of a top action, which may commit it, came to this result. If nobody else makes steps, that is what is wanted.
pub record ComesTo (alone : Type 0) (fails : Fault → Type 0) (top : Name) (wanted : World → Tried)
    (result : Result Bool Fault) (old new : World) : Type 0 where
  pub makes : Makes (top ∷ []) (top ∷ []) old new
  pub told : IfOk result (λ done. Tells done top old new)
  pub means : IfOk result (λ done. alone → record { world = new; done = done } ≡ wanted old)
  pub failed : IfErr result (IsCause fails)
  pub over : EndOrFail alone fails [] old new
