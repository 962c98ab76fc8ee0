-- What follows for an event from its agreeing with the history, whatever its stamp is.
use Rattle.std.proofs.Common.{Bool, List, [], ap, eqb-true, false, refl, subst, sym, true, ℕ, ◌∷◌, ◌≡◌}
use Rattle.std.proofs.lemmas.Bool.{false≢true, true≢false}
use Rattle.std.specs.List.{AllByRecursion}
use Rattle.action_names.specs.Names.{Name}
use Rattle.run_model.specs.declared.answer.Answer.{Answer}
use Rattle.run_model.specs.declared.step.ObjectId.{ObjectId}
use Rattle.run_model.specs.declared.step.Step.{Step}
use Rattle.run_model.specs.declared.step.Step.TheVariants.{Crash, Op, Prepare}
use Rattle.run_model.specs.Actions.{step_crashes}
use Rattle.run_model.specs.LocalReadings.{LocalEvent, told_committed_here}
use Rattle.run_model.specs.Openings.{Opening}
use Rattle.run_model.specs.Visibility.{votes_yes}
use Rattle.run_laws.proofs.Names.{clash}
use Rattle.guardian_laws.specs.Actions.{AgreesOnActions, is_own}
use Rattle.guardian_laws.specs.Crashes.{LeavesSafe}
use Rattle.guardian_laws.specs.Laws.{Agrees}
use Rattle.guardian_laws.specs.Outcomes.{AgreesOnOutcomes, are_brought, are_none}
use Rattle.layer_contracts.specs.Guardians.{News, stamped}
use Rattle.layer_contracts.specs.Messages.{is_operation}
use Rattle.object_laws.specs.EventLaws.{is_crash}
use Rattle.guardian_objects.specs.Objects.{AreObjects, Indexed}
use Rattle.guardian_objects.specs.Outcomes.{ArePlanned, AreSound, IsHearing, OnlyTells, is_granted, outcomes_of}
use Rattle.guardian_objects.specs.declared.outcomes.Telling.{Telling}
use Rattle.guardian_objects.proofs.Turning.{sound_pairs}

-- ---- a stamp changes nothing

pub actions_at : (g n : ℕ) (e : News) (here : List LocalEvent) → AgreesOnActions g (stamped 0 e) here → AgreesOnActions g (stamped n e) here
actions_at g n e here a = record { new = a.new; made = a.made; known = a.known; own = a.own; rising = a.rising; reaches = a.reaches }

pub outcomes_at : (n : ℕ) (e : News) (here : List LocalEvent) → AgreesOnOutcomes (stamped 0 e) here → AgreesOnOutcomes (stamped n e) here
outcomes_at n e here a = record { brought = a.brought; once = a.once; aborts = a.aborts; operation = a.operation }

pub safe_at : (opening : Opening) (n : ℕ) (e : News) (here : List LocalEvent) (x : ObjectId)
    → LeavesSafe opening (stamped 0 e ∷ here) x → LeavesSafe opening (stamped n e ∷ here) x
safe_at opening n e here x s = record { kept = s.kept; restored = s.restored }

-- ---- what kind of event it is

pub crash_is : (g : ℕ) (step : Step) → step_crashes step g ≡ true → step ≡ Crash g
crash_is g (Crash h) e = ap (λ k. Crash k) (eqb-true h g e)
crash_is g _ e = absurd (false≢true e)

no_crash : (g : ℕ) (step : Step) → is_own g step ≡ true → step_crashes step g ≡ false → is_crash step ≡ false
no_crash g (Crash h) own up = absurd (clash own up)
no_crash g _ own up = refl

no_grant : (step : Step) (answer : Answer) → is_operation step ≡ false → is_granted step answer ≡ false
no_grant (Op a x wanted) answer other = absurd (true≢false other)
no_grant _ answer other = refl

vote_no_crash : (g : ℕ) (top : Name) (step : Step) (answer : Answer) → votes_yes step answer g top ≡ true → is_crash step ≡ false
vote_no_crash g top (Prepare h t) answer vote = refl
vote_no_crash g top _ answer vote = absurd (false≢true vote)

vote_no_operation : (g : ℕ) (top : Name) (step : Step) (answer : Answer) → votes_yes step answer g top ≡ true → is_operation step ≡ false
vote_no_operation g top (Prepare h t) answer vote = refl
vote_no_operation g top _ answer vote = absurd (false≢true vote)

-- ---- what it makes of objects

-- neither a crash nor an operation
pub only_tells : (opening : Opening) (g n : ℕ) (e : News) (here : List LocalEvent) → Agrees opening g (stamped 0 e) here
    → is_operation e.event.step ≡ false → step_crashes e.event.step g ≡ false → OnlyTells (stamped n e) here
only_tells opening g n e here a other up = record {
  agrees = outcomes_at n e here a.outcomes;
  crash = no_crash g e.event.step a.actions.own up;
  granted = no_grant e.event.step e.event.answer other;
  restored = a.given;
}

-- a yes vote
pub vote_only_tells : (opening : Opening) (g n : ℕ) (top : Name) (e : News) (here : List LocalEvent) → Agrees opening g (stamped 0 e) here
    → votes_yes e.event.step e.event.answer g top ≡ true → OnlyTells (stamped n e) here
vote_only_tells opening g n top e here a vote = record {
  agrees = outcomes_at n e here a.outcomes;
  crash = vote_no_crash g top e.event.step e.event.answer vote;
  granted = no_grant e.event.step e.event.answer (vote_no_operation g top e.event.step e.event.answer vote);
  restored = a.given;
}

none_is : (outcomes : List (Name × Bool)) → are_none outcomes ≡ true → outcomes ≡ []
none_is [] h = refl
none_is (x ∷ outcomes) h = absurd (false≢true h)

-- an operation and a crash bring no outcomes
pub operation_brings : (step : Step) (outcomes : List (Name × Bool)) → is_operation step ≡ true → are_brought step outcomes ≡ true → outcomes ≡ []
operation_brings (Op a x wanted) outcomes is h = none_is outcomes h
operation_brings _ outcomes is h = absurd (false≢true is)

pub crash_brings : (g : ℕ) (step : Step) (outcomes : List (Name × Bool)) → step_crashes step g ≡ true → are_brought step outcomes ≡ true → outcomes ≡ []
crash_brings g (Crash h) outcomes down brought = none_is outcomes brought
crash_brings g _ outcomes down brought = absurd (false≢true down)

sound_tellings : (here : List LocalEvent) (ts : List Telling) → AllByRecursion (λ x. x.1 ≡ false → told_committed_here x.0 here ≡ false) (outcomes_of ts)
    → AreSound here ts
sound_tellings here [] all = tt
sound_tellings here (t ∷ ts) all = (all.0, sound_tellings here ts all.1)

-- what is planned of its outcomes may be told
pub may_tell : (opening : Opening) (here : List LocalEvent) (c : LocalEvent) (o : Indexed) (ts : List Telling) → AreObjects opening here o → ArePlanned here ts
    → outcomes_of ts ≡ c.carried.outcomes → AgreesOnOutcomes c here → IsHearing o ts
may_tell opening here c o ts are planned same a = (
  opening,
  here,
  are,
  planned,
  sound_tellings here ts (subst (λ l. AllByRecursion (λ x. x.1 ≡ false → told_committed_here x.0 here ≡ false) l) (sym same)
      (sound_pairs here c.carried.outcomes a.once a.aborts)),
)

-- an operation is no crash
pub operation_stays : (g : ℕ) (step : Step) → is_operation step ≡ true → step_crashes step g ≡ false
operation_stays g (Op a x wanted) is = refl
operation_stays g _ is = absurd (false≢true is)
