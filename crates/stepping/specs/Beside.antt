-- The steps of one caller, perhaps beside the steps of others.
use Rattle.std.specs.Prelude.{◌≡◌, ◌⊎◌, Bool, false, true, List, [], ◌∷◌, Option, Some, None}
use Rattle.run_model.specs.declared.answer.Answer.{Answer}
use Rattle.run_model.specs.declared.answer.Answer.TheVariants.{Waits}
use Rattle.run_model.specs.declared.history.Event.{Event}
use Rattle.run_model.specs.declared.step.Step.{Step}
use Rattle.run_model.specs.Answers.{answer_of}
use Rattle.run_model.specs.Openings.{OpeningLists, opening_in}
use Rattle.run_model.specs.Runs.{IsRun, World, history_after}
use Rattle.layer_contracts.specs.declared.guardian.Fault.{Fault}
use Rattle.layer_contracts.specs.declared.guardian.Fault.TheVariants.{Memory}
use Rattle.stepping.specs.Stepping.{Leaves}

-- ---- a caller's own run

-- The opening, in lists, and the caller's events since then. A caller that began in the middle of a run, as an arm does,
-- began with events of whoever started it: the run of all callers as it was after each of them.
pub record OwnRun : Type 0 where
  pub lists : OpeningLists
  pub past : List Event
  pub since : List (List Event)

-- that of a caller that is alone
abbrev pub alone_in : World → OwnRun
alone_in world = record { lists = world.lists; past = world.past; since = [] }

-- that of a caller whom this one started: it knows where the events of its starter stand
abbrev pub started : OwnRun → List (List Event) → OwnRun
started own since = record own { since = since }

-- the own run after a step with this answer
abbrev pub own_after : OwnRun → Step → Answer → OwnRun
own_after own step answer = record own { past = history_after step answer own.past }

-- ---- what is seen

-- that a caller with these events of its own may see this history
abbrev pub Sees : Type 1
Sees = OwnRun → List Event → Type 0

-- a caller that is alone sees its own events
abbrev pub SeesOwn : OwnRun → List Event → Type 0
SeesOwn own seen = seen ≡ own.past

-- the events of the first list stand in the second too, in the same order
pub data IsPartOf : List Event → List Event → Type 0 where
  none : IsPartOf [] []
  both : (e : Event) {own seen : List Event} → IsPartOf own seen → IsPartOf (e ∷ own) (e ∷ seen)
  beside : (e : Event) {own seen : List Event} → IsPartOf own seen → IsPartOf own (e ∷ seen)

-- ---- what is answered

-- The answer is that of the step at a run that the caller may see. Its own events are a part of that run.
pub record IsAnsweredTo (sees : Sees) (own : OwnRun) (step : Step) (answer : Answer) : Type 0 where
  pub seen : List Event
  pub may : sees own seen
  pub run : IsRun (opening_in own.lists) seen
  pub part : ∥ IsPartOf own.past seen ∥₁
  pub answered : answer ≡ answer_of (opening_in own.lists) step seen

-- the answer is that the operation waits
abbrev pub is_waits : Answer → Bool
is_waits (Waits names) = true
is_waits _ = false

-- the step was answered so, and left the caller's events and each store as it says
pub record IsMadeWith {M : Type 0} (run : M → OwnRun) (sees : Sees) (leaves : Leaves M)
    (step : Step) (answer : Answer) (old new : M) : Type 0 where
  pub answered : IsAnsweredTo sees (run old) step answer
  pub after : run new ≡ own_after (run old) step answer
  pub stores : leaves step None old new

-- the stores are left by the step, which may have failed so; memory may also run out before the step is made
abbrev pub LeavesOrNone : {M : Type 0} → Leaves M → Step → Option Fault → M → M → Type 0
LeavesOrNone leaves step (Some Memory) old new = (new ≡ old) ⊎ leaves step (Some Memory) old new
LeavesOrNone leaves step fault old new = leaves step fault old new

-- a caller that is alone is answered at its own events, which are a run
abbrev pub AnswersAlone : Type 0
AnswersAlone = (own : OwnRun) (step : Step) (answer : Answer)
    → IsAnsweredTo SeesOwn own step answer
    → (answer ≡ answer_of (opening_in own.lists) step own.past)
    × IsRun (opening_in own.lists) own.past
