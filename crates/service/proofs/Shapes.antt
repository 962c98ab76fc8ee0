-- What a step that happened was answered, by the kind of step.
use Rattle.std.proofs.Common.{Bool, Err, IfErr, IfOk, List, None, Ok, OnErr, Option, Result, Some, [], ap, cond, false, refl, subst, sym, true, ℕ, ◌∷◌, ◌≡◌, ◌∙◌}
use Rattle.std.proofs.lemmas.Bool.{false≢true}
use Rattle.std.specs.Prelude.{IsTrue}
use Rattle.std.specs.Result.{IsErrAnd}
use Rattle.action_names.specs.Names.{Name}
use Rattle.atomic_types.specs.Operations.{Op}
use Rattle.atomic_types.specs.declared.op.Reply.{Reply}
use Rattle.run_model.specs.declared.answer.Answer.{Answer}
use Rattle.run_model.specs.declared.answer.Answer.TheVariants as answers
use Rattle.run_model.specs.declared.answer.Refusal.{Refusal}
use Rattle.run_model.specs.declared.history.Event.{Event}
use Rattle.run_model.specs.declared.step.Step.{Step}
use Rattle.run_model.specs.declared.step.Step.TheVariants as steps
use Rattle.run_model.specs.Answers.{answer_of, granted_by, outcome, refused_or}
use Rattle.run_model.specs.Keeping.{Performed, blockers_by, standing_of}
use Rattle.run_model.specs.Openings.{Opening, first_content, opening_in}
use Rattle.run_model.specs.Refusals.{checks, first_refusal}
use Rattle.run_model.specs.Runs.{is_accepted}
use Rattle.run_model.specs.Versions.{under}
use Rattle.run_model.specs.Votes.{may_prepare}
use Rattle.layer_contracts.specs.Stores.{fault_in}
use Rattle.layer_contracts.specs.declared.guardian.Fault.{Fault}
use Rattle.layer_contracts.specs.declared.guardian.Fault.TheVariants.{Memory, Stable}
use Rattle.stepping.specs.Beside.{IsAnsweredTo, IsMadeWith, LeavesOrNone, OwnRun, Sees, is_waits, own_after}
use Rattle.stepping.specs.Stepping.{Leaves}
use Rattle.stepping.proofs.Beside.{leaves_step}
use Rattle.service.specs.Calling.{IsAccepted, IsCall, IsFinishing, IsTaken, IsVote, LeavesStores, WaitsIf}
use Rattle.service.specs.declared.fault.CallFault.{CallFault}
use Rattle.service.specs.declared.fault.CallFault.TheVariants.{Failed, Refused, Waits}
use Rattle.values.specs.declared.content.Content.{Content}

-- it is an answer to this step, if the step happened
abbrev pub Fits : Step → Answer → Type 0
Fits (steps.Top g) x = (name : Name) × (x ≡ answers.Began (name ∷ []))
Fits (steps.NestedTop a) x = (name : Name) × (x ≡ answers.Began (name ∷ []))
Fits (steps.Call a g) x = (name : Name) × (x ≡ answers.Began (name ∷ []))
Fits (steps.Arms a kinds) x = (names : List Name) × (x ≡ answers.Began names)
Fits (steps.Op a o wanted) x = (reply : Reply) × (x ≡ answers.Granted reply)
Fits (steps.Prepare g t) x = (yes : Bool) × IsVote yes x
Fits (steps.Tell g a) x = (count : ℕ) × (x ≡ answers.Done count)
Fits _ x = x ≡ answers.Done 0

-- an answer that is accepted is the outcome
outcome_if_accepted : (o : Option Refusal) (x : Answer) → is_accepted (refused_or o x) ≡ true → refused_or o x ≡ x
outcome_if_accepted None x h = refl
outcome_if_accepted (Some why) x h = absurd (false≢true h)

granted_fits : (c : Content) (kept : List Performed) (wanted : Op) (blockers : List Name) → is_accepted (granted_by c kept wanted blockers) ≡ true
    → (reply : Reply) × (granted_by c kept wanted blockers ≡ answers.Granted reply)
granted_fits c kept wanted [] h = (_, refl)
granted_fits c kept wanted (b ∷ bs) h = absurd (false≢true h)

voted : (yes : Bool) → (said : Bool) × IsVote said (cond yes answers.VoteYes answers.VoteNo)
voted true = (true, refl)
voted false = (false, refl)

outcome_fits : (opening : Opening) (step : Step) (past : List Event) → is_accepted (outcome opening step past) ≡ true
    → Fits step (outcome opening step past)
outcome_fits opening (steps.Top g) past h = (_, refl)
outcome_fits opening (steps.NestedTop a) past h = (_, refl)
outcome_fits opening (steps.Call a g) past h = (_, refl)
outcome_fits opening (steps.Arms a kinds) past h = (_, refl)
outcome_fits opening (steps.Op a o wanted) past h =
    let s = standing_of o past in
    granted_fits (under (first_content opening o) (λ b. true) s.restored) s.kept wanted (blockers_by s a wanted) h
outcome_fits opening (steps.Commit a) past h = refl
outcome_fits opening (steps.Close t) past h = refl
outcome_fits opening (steps.Prepare g t) past h = voted (may_prepare g t past)
outcome_fits opening (steps.Decide t) past h = refl
outcome_fits opening (steps.Abort a) past h = refl
outcome_fits opening (steps.Tell g a) past h = (_, refl)
outcome_fits opening (steps.Crash g) past h = refl
outcome_fits opening (steps.Recover g) past h = refl

-- a step that happened was answered so
pub answer_fits : (opening : Opening) (step : Step) (past : List Event) (given : Answer) → answer_of opening step past ≡ given
    → IsTrue (is_accepted given) → Fits step given
unfolding answer_of
answer_fits opening step past given same accepted =
    let h : is_accepted (answer_of opening step past) ≡ true = ap is_accepted same ∙ accepted in
    let is = outcome_if_accepted (first_refusal (checks opening step past)) (outcome opening step past) h in
    subst (Fits step) (sym is ∙ same) (outcome_fits opening step past (ap is_accepted (sym is) ∙ h))

-- a step that happened and tells nothing was answered 0
pub finishing : (step : Step) → IsFinishing step → (x : Answer) → Fits step x → x ≡ answers.Done 0
finishing (steps.Commit a) f x h = h
finishing (steps.Close t) f x h = h
finishing (steps.Decide t) f x h = h
finishing (steps.Abort a) f x h = h
finishing (steps.Crash g) f x h = h
finishing (steps.Recover g) f x h = h
finishing _ f x h = absurd f

-- ---- calls

-- so was the step of a call that happened
pub fits : {M : Type 0} (run : M → OwnRun) (sees : Sees) (leaves : Leaves M) (step : Step) (old new : M) (given : Answer)
    → IsCall run sees leaves step IsAccepted old new (Ok given) → Fits step given
fits run sees leaves step old new given call =
    let at = call.gives.made.answered in
    let (same, accepted) = call.gives.shows in
    answer_fits (opening_in (run old).lists) step at.seen given (sym at.answered ∙ same) accepted

-- a call gives what the answer of its step gives
pub shown : {T M : Type 0} (run : M → OwnRun) (sees : Sees) (leaves : Leaves M) (step asked : Step) (Shows : T → Answer → Type 0) (old new : M)
    (given : Answer) (x : T) → step ≡ asked → IsCall run sees leaves step IsAccepted old new (Ok given) → Shows x given
    → IsCall run sees leaves asked Shows old new (Ok x)
shown run sees leaves step asked Shows old new given x same call s = record {
  gives = record {
    answer = given;
    made =
        subst (λ e. IsMadeWith run sees leaves e given old new) same
        (subst (λ a. IsMadeWith run sees leaves step a old new) call.gives.shows.0 call.gives.made);
    shows = s;
  };
  why = tt;
  same = tt;
  stores = tt;
}

-- a fault comes of a step that was made, or of none
fails : {M : Type 0} (leaves : Leaves M) (step : Step) (old new : M) (fault : Fault) → LeavesOrNone leaves step (Some fault) old new
    → LeavesStores leaves step old new (Failed fault)
fails leaves step old new Memory left = left
fails leaves step old new Stable left = left

-- a step that was made is a call
pub taken_call : {M : Type 0} (run : M → OwnRun) (sees : Sees) (leaves : Leaves M) (step : Step) (old new : M) (made : Result Answer Fault)
    (result : Result Answer CallFault) → IsTaken made result → IfOk made (IsAnsweredTo sees (run old) step)
    → IfOk made (λ answer. run new ≡ own_after (run old) step answer) → OnErr made (run new ≡ run old)
    → LeavesOrNone leaves step (fault_in made) old new → IsCall run sees leaves step IsAccepted old new result
taken_call run sees leaves step old new (Ok answer) (Ok given) is answered after err left = record {
  gives = record { answer = answer; made = record { answered = answered; after = after; stores = left }; shows = is };
  why = tt;
  same = tt;
  stores = tt;
}
taken_call run sees leaves step old new (Ok answer) (Err (Refused why)) is answered after err left = record {
  gives = tt;
  why = subst (IsAnsweredTo sees (run old) step) is answered;
  same = after ∙ ap (λ a. own_after (run old) step a) is;
  stores = left;
}
taken_call run sees leaves step old new (Ok answer) (Err (Waits names)) is answered after err left = record {
  gives = tt;
  why = subst (IsAnsweredTo sees (run old) step) is answered;
  same = after ∙ ap (λ a. own_after (run old) step a) is;
  stores = left;
}
taken_call run sees leaves step old new (Ok answer) (Err (Failed fault)) is answered after err left = absurd is
taken_call run sees leaves step old new (Err fault) (Ok given) is answered after err left = absurd is
taken_call run sees leaves step old new (Err fault) (Err (Refused why)) is answered after err left = absurd is
taken_call run sees leaves step old new (Err fault) (Err (Waits names)) is answered after err left = absurd is
taken_call run sees leaves step old new (Err fault) (Err (Failed same)) is answered after err left = record {
  gives = tt;
  why = tt;
  same = err;
  stores = subst (λ f. LeavesStores leaves step old new (Failed f)) (sym is) (fails leaves step old new fault left);
}

-- so is one of which it is known how it leaves the stores
pub made_call : {M : Type 0} (run : M → OwnRun) (sees : Sees) (leaves : Leaves M) (step : Step) (old new : M) (made : Result Answer Fault)
    (result : Result Answer CallFault) → IsTaken made result → IfOk made (IsAnsweredTo sees (run old) step)
    → IfOk made (λ answer. run new ≡ own_after (run old) step answer) → OnErr made (run new ≡ run old) → leaves step (fault_in made) old new
    → IsCall run sees leaves step IsAccepted old new result
made_call run sees leaves step old new made result is answered after err left =
    taken_call run sees leaves step old new made result is answered after err (leaves_step leaves step (fault_in made) old new left)

-- and what came to nothing gives nothing
pub call_fails : {T M : Type 0} (run : M → OwnRun) (sees : Sees) (leaves : Leaves M) (step : Step) (Shows : T → Answer → Type 0) (old new : M)
    (result : Result T CallFault) (fault : CallFault) → IsErrAnd result (λ x. x ≡ fault) → IsCall run sees leaves step IsAccepted old new (Err fault)
    → IsCall run sees leaves step Shows old new result
call_fails run sees leaves step Shows old new (Ok x) fault h call = absurd h
call_fails run sees leaves step Shows old new (Err e) fault h call =
    subst (λ f. IsCall run sees leaves step Shows old new (Err f)) (sym h)
    (record { gives = tt; why = call.why; same = call.same; stores = call.stores })

-- ---- operations that wait

taken_waits : (Over : Type 0) (made : Result Answer Fault) (fault : CallFault) → IsTaken made (Err fault)
    → IfOk made (λ answer. is_waits answer ≡ true → Over) → WaitsIf Over fault
taken_waits Over (Ok answer) (Waits names) is given = given (ap is_waits is)
taken_waits Over (Err fault) (Waits names) is given = absurd is
taken_waits Over made (Refused why) is given = tt
taken_waits Over made (Failed fault) is given = tt

pub call_waits : (Over : Type 0) {T : Type 0} (result : Result T CallFault) (fault : CallFault) → IsErrAnd result (λ x. x ≡ fault)
    → (made : Result Answer Fault) → IsTaken made (Err fault) → IfOk made (λ answer. is_waits answer ≡ true → Over) → IfErr result (WaitsIf Over)
call_waits Over (Ok x) fault h made is given = absurd h
call_waits Over (Err e) fault h made is given = subst (WaitsIf Over) (sym h) (taken_waits Over made fault is given)
