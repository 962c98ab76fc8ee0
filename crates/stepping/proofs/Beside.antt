-- Steps of one caller that is alone.
use Rattle.std.proofs.Common.{Err, IfOk, List, None, Ok, OnErr, Option, Result, Some, [], ap, inr, refl, subst, ◌∷◌, ◌≡◌}
use Rattle.run_model.specs.declared.answer.Answer.{Answer}
use Rattle.run_model.specs.declared.history.Event.{Event}
use Rattle.run_model.specs.declared.step.Step.{Step}
use Rattle.run_model.specs.Answers.{answer_of}
use Rattle.run_model.specs.Openings.{opening_in}
use Rattle.run_model.specs.Runs.{IsRun, World, world_after}
use Rattle.layer_contracts.specs.declared.guardian.Fault.{Fault}
use Rattle.layer_contracts.specs.declared.guardian.Fault.TheVariants.{Memory, Stable}
use Rattle.stepping.specs.Beside.{AnswersAlone, IsAnsweredTo, IsPartOf, LeavesOrNone, OwnRun, SeesOwn, alone_in, both, none, own_after}
use Rattle.stepping.specs.Stepping.{Leaves}

-- all events are a part of themselves
pub part_of_all : (events : List Event) → IsPartOf events events
part_of_all [] = none
part_of_all (e ∷ events) = both e (part_of_all events)

-- an answer at the events of a run is one to their caller
pub answered_at : (own : OwnRun) (step : Step) (answer : Answer) → IsRun (opening_in own.lists) own.past
    → answer ≡ answer_of (opening_in own.lists) step own.past → IsAnsweredTo SeesOwn own step answer
answered_at own step answer run is = record {
  seen = own.past;
  may = refl;
  run = run;
  part = ∣ part_of_all own.past ∣₁;
  answered = is;
}

pub all_answered : {E : Type 0} (own : OwnRun) (step : Step) (result : Result Answer E) → IsRun (opening_in own.lists) own.past
    → IfOk result (λ answer. answer ≡ answer_of (opening_in own.lists) step own.past) → IfOk result (IsAnsweredTo SeesOwn own step)
all_answered own step (Ok answer) run is = answered_at own step answer run is
all_answered own step (Err fault) run is = tt

-- a world's run is the own run of its caller
pub all_after : {E : Type 0} (old new : World) (step : Step) (result : Result Answer E) → IfOk result (λ answer. new ≡ world_after old step answer)
    → IfOk result (λ answer. alone_in new ≡ own_after (alone_in old) step answer)
all_after old new step (Ok answer) is = ap alone_in is
all_after old new step (Err fault) is = tt

pub all_same : {E : Type 0} (old new : World) (result : Result Answer E) → OnErr result (new ≡ old) → OnErr result (alone_in new ≡ alone_in old)
all_same old new (Ok answer) is = tt
all_same old new (Err fault) is = ap alone_in is

pub alone : AnswersAlone
alone own step answer given = (
  subst (λ past. answer ≡ answer_of (opening_in own.lists) step past) given.may given.answered,
  subst (λ past. IsRun (opening_in own.lists) past) given.may given.run,
)

-- what a step leaves
pub leaves_step : {M : Type 0} (leaves : Leaves M) (step : Step) (fault : Option Fault) (old new : M) → leaves step fault old new
    → LeavesOrNone leaves step fault old new
leaves_step leaves step None old new left = left
leaves_step leaves step (Some Memory) old new left = inr left
leaves_step leaves step (Some Stable) old new left = left
