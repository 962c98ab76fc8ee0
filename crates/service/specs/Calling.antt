-- What a call of a service does and gives, by the step that it makes.
use Rattle.std.specs.Prelude.{◌≡◌, ◌⊎◌, ℕ, Bool, true, false, List, [], ◌∷◌, Some, None, Result, Ok, Err, IfErr, IfOk, IsTrue, OnErr}
use Rattle.action_names.specs.Names.{Name}
use Rattle.atomic_types.specs.declared.op.Reply.{Reply}
use Rattle.run_model.specs.declared.answer.Answer.{Answer}
use Rattle.run_model.specs.declared.answer.Answer.TheVariants as answers
use Rattle.run_model.specs.declared.step.Step.{Step}
use Rattle.run_model.specs.declared.step.Step.TheVariants as steps
use Rattle.run_model.specs.Runs.{is_accepted}
use Rattle.layer_contracts.specs.declared.guardian.Fault.{Fault}
use Rattle.layer_contracts.specs.declared.guardian.Fault.TheVariants.{Memory, Stable}
use Rattle.stepping.specs.Beside.{IsAnsweredTo, IsMadeWith, OwnRun, Sees}
use Rattle.stepping.specs.Stepping.{Leaves}
use Rattle.service.specs.declared.fault.CallFault.{CallFault}
use Rattle.service.specs.declared.fault.CallFault.TheVariants.{Refused, Waits, Failed}

-- ---- what is given of an answer

-- the answer itself, of a step that happened
abbrev pub IsAccepted : Answer → Answer → Type 0
IsAccepted given answer = (answer ≡ given) × IsTrue (is_accepted given)

-- the one action that began
abbrev pub BeganOne : Name → Answer → Type 0
BeganOne name answer = answer ≡ answers.Began (name ∷ [])

-- the actions that began
abbrev pub BeganThese : List Name → Answer → Type 0
BeganThese names answer = answer ≡ answers.Began names

-- the reply of an operation that is granted
abbrev pub IsReply : Reply → Answer → Type 0
IsReply reply answer = answer ≡ answers.Granted reply

-- nothing but that the step happened
abbrev pub IsDone : Unit {0} → Answer → Type 0
IsDone _ answer = answer ≡ answers.Done 0

-- whether a guardian votes yes
abbrev pub IsVote : Bool → Answer → Type 0
IsVote true answer = answer ≡ answers.VoteYes
IsVote false answer = answer ≡ answers.VoteNo

-- how many objects a telling changed
abbrev pub Told : ℕ → Answer → Type 0
Told count answer = answer ≡ answers.Done count

-- an answer comes of a step that happened, and else an error tells why it did not
abbrev pub IsTaken : Result Answer Fault → Result Answer CallFault → Type 0
IsTaken (Ok answer) (Ok given) = IsAccepted given answer
IsTaken (Ok answer) (Err (Refused why)) = answer ≡ answers.Refused why
IsTaken (Ok answer) (Err (Waits names)) = answer ≡ answers.Waits names
IsTaken (Err fault) (Err (Failed same)) = same ≡ fault
IsTaken _ _ = ⊥

-- ---- calls

-- The step came to nothing for this reason, which is its answer; a fault is no answer.
abbrev pub ComesToNothing : Sees → OwnRun → Step → CallFault → Type 0
ComesToNothing sees own step (Refused why) = IsAnsweredTo sees own step (answers.Refused why)
ComesToNothing sees own step (Waits names) = IsAnsweredTo sees own step (answers.Waits names)
ComesToNothing sees own step (Failed fault) = Unit {0}

-- an operation that waits is told so only if this is so
abbrev pub WaitsIf : Type 0 → CallFault → Type 0
WaitsIf Over (Waits names) = Over
WaitsIf Over _ = Unit {0}

-- so the stores are left by a step that did not happen; memory may run out before it is made, and no store fails then
abbrev pub LeavesStores : {M : Type 0} → Leaves M → Step → M → M → CallFault → Type 0
LeavesStores leaves step old new (Refused why) = leaves step None old new
LeavesStores leaves step old new (Waits names) = leaves step None old new
LeavesStores leaves step old new (Failed Memory) = (new ≡ old) ⊎ leaves step (Some Memory) old new
LeavesStores leaves step old new (Failed Stable) = leaves step (Some Stable) old new

module _ {T M : Type 0} (run : M → OwnRun) (sees : Sees) (leaves : Leaves M) (step : Step)
    (Shows : T → Answer → Type 0) (old new : M) where
  -- the step was made, and its answer gives this
  pub record Gives (x : T) : Type 0 where
    pub answer : Answer
    pub made : IsMadeWith run sees leaves step answer old new
    pub shows : Shows x answer

  -- The call made this step, or it says why the step did not happen, and then nothing has.
  pub record IsCall (result : Result T CallFault) : Type 0 where
    pub gives : IfOk result Gives
    pub why : IfErr result (ComesToNothing sees (run old) step)
    pub same : OnErr result (run new ≡ run old)
    pub stores : IfErr result (LeavesStores leaves step old new)

-- ---- steps that are answered 0 if they happen

abbrev pub IsFinishing : Step → Type 0
IsFinishing (steps.Commit a) = Unit {0}
IsFinishing (steps.Close t) = Unit {0}
IsFinishing (steps.Decide t) = Unit {0}
IsFinishing (steps.Abort a) = Unit {0}
IsFinishing (steps.Crash g) = Unit {0}
IsFinishing (steps.Recover g) = Unit {0}
IsFinishing _ = ⊥
