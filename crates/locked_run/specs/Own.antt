-- What a guardian answers by itself, in the state in which it stands.
use Rattle.std.specs.Prelude.{◌==◌, Bool, false, not, [], ◌∷◌}
use Rattle.run_model.specs.declared.answer.Answer.{Answer}
use Rattle.run_model.specs.declared.answer.Answer.TheVariants.{Done}
use Rattle.run_model.specs.declared.answer.Refusal.{Refusal}
use Rattle.run_model.specs.declared.answer.Refusal.TheVariants as why
use Rattle.run_model.specs.declared.step.Step.{Step}
use Rattle.run_model.specs.declared.step.Step.TheVariants.{Crash, Op, Recover}
use Rattle.run_model.specs.Actions.{is_down}
use Rattle.run_model.specs.Answers.{refused_or}
use Rattle.run_model.specs.LocalReadings.{events_here, is_at_home, operation_here}
use Rattle.run_model.specs.Refusals.{first_refusal, no_guardian}
use Rattle.layer_contracts.specs.Guardians.{GuardianState}

-- the guardian makes the step without the registry
abbrev pub is_own_here : GuardianState → Step → Bool
is_own_here s (Op a x wanted) = is_at_home s.number a s.past
is_own_here s (Crash h) = h == s.number
is_own_here s (Recover h) = h == s.number
is_own_here s _ = false

-- done, if there is such a guardian, and this does not forbid it
abbrev pub turned : GuardianState → Bool → Refusal → Answer
turned s forbidden reason =
    refused_or (first_refusal (no_guardian s.opening s.number ∷ (reason, forbidden) ∷ [])) (Done 0)

-- and what it answers
abbrev pub own_answer : GuardianState → Step → Answer
own_answer s (Op a x wanted) = operation_here s.opening s.number a x wanted s.past
own_answer s (Crash h) = turned s (is_down s.number (events_here s.past)) why.Down
own_answer s (Recover h) = turned s (not (is_down s.number (events_here s.past))) why.IsUp
own_answer s _ = Done 0
