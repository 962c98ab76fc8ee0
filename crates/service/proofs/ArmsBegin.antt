-- Arms that begin, as calls.
use Rattle.std.proofs.Common.{Err, List, None, Ok, Option, Result, Some, [], ap, subst, suc, sym, true, ℕ, ◌∙◌, ◌∷◌, ◌≡◌}
use Rattle.std.proofs.lemmas.Bool.{or_left, or_right}
use Rattle.std.specs.Result.{IsErrAnd}
use Rattle.action_names.specs.Names.{Name, child_of, has_name, same_name}
use Rattle.run_model.specs.declared.answer.Answer.TheVariants as answers
use Rattle.run_model.specs.declared.answer.Refusal.{Refusal}
use Rattle.run_model.specs.declared.history.Event.{Event}
use Rattle.run_model.specs.declared.step.ArmKind.{ArmKind}
use Rattle.run_model.specs.declared.step.ArmKind.TheVariants as kinds
use Rattle.run_model.specs.declared.step.Step.TheVariants as steps
use Rattle.run_model.specs.Actions.{next_number}
use Rattle.run_model.specs.Answers.{answer_of, outcome, refused_or}
use Rattle.run_model.specs.Openings.{Opening, opening_in}
use Rattle.run_model.specs.Refusals.{checks, first_refusal}
use Rattle.run_laws.proofs.Names.{same_name_self}
use Rattle.stepping.specs.Beside.{IsAnsweredTo, OwnRun, Sees, own_after}
use Rattle.stepping.specs.Stepping.{Leaves}
use Rattle.service.specs.Calling.{BeganThese, IsCall}
use Rattle.service.specs.Opening.{BeganBoth}
use Rattle.service.specs.Together.{BeginArms, arms_of}
use Rattle.service.specs.Transacting.{began_at}
use Rattle.service.specs.declared.fault.CallFault.{CallFault}
use Rattle.service.specs.declared.place.Place.{Place}
use Rattle.service.proofs.BothArms.{arm_began}

-- two arms have two names
names_of_two : (opening : Opening) (a : Name) (past : List Event) (names : List Name) → answer_of opening (arms_of a) past ≡ answers.Began names
    → names ≡ child_of a (next_number opening a past) ∷ child_of a (suc (next_number opening a past)) ∷ []
unfolding answer_of
names_of_two opening a past names h = by (first_refusal (checks opening (arms_of a) past)) h
  where
    n : ℕ
    n = next_number opening a past

    two : answers.Began (child_of a n ∷ child_of a (suc n) ∷ []) ≡ answers.Began names → names ≡ child_of a n ∷ child_of a (suc n) ∷ []
    two e = cc

    by : (o : Option Refusal) → refused_or o (outcome opening (arms_of a) past) ≡ answers.Began names
        → names ≡ child_of a n ∷ child_of a (suc n) ∷ []
    by None h = two h
    by (Some why) h = cc

module _ {M : Type 0} (run : M → OwnRun) (sees : Sees) (leaves : Leaves M) (a : Name) (old new : M) where
  -- the call of the two kinds
  pub of_two : (given : List ArmKind) (names : List Name) → given ≡ kinds.Sub ∷ kinds.Sub ∷ []
      → IsCall run sees leaves (steps.Arms a given) BeganThese old new (Ok names) → IsCall run sees leaves (arms_of a) BeganThese old new (Ok names)
  of_two given names e call = subst (λ ks. IsCall run sees leaves (steps.Arms a ks) BeganThese old new (Ok names)) e call

  pub two_named : (names : List Name) → IsCall run sees leaves (arms_of a) BeganThese old new (Ok names)
      → (one : Name) × (other : Name) × (names ≡ one ∷ other ∷ [])
  two_named names call =
      let at = call.gives.made.answered in (
        child_of a (next_number (opening_in (run old).lists) a at.seen),
        child_of a (suc (next_number (opening_in (run old).lists) a at.seen)),
        names_of_two (opening_in (run old).lists) a at.seen names (sym at.answered ∙ call.gives.shows),
      )

  -- the places of both
  pub begun_both : (names : List Name) (one other : Place) → names ≡ one.action ∷ other.action ∷ []
      → IsCall run sees leaves (arms_of a) BeganThese old new (Ok names) → IsCall run sees leaves (arms_of a) BeganBoth old new (Ok (one, other))
  begun_both names one other e call = record {
    gives = record {
      answer = call.gives.answer;
      made = call.gives.made;
      shows = subst (λ ns. BeganThese ns call.gives.answer) e call.gives.shows;
    };
    why = tt;
    same = tt;
    stores = tt;
  }

  -- a call of the two kinds that came to nothing
  pub none_of_two : (given : List ArmKind) (result : Result (Place × Place) CallFault) (fault : CallFault) → given ≡ kinds.Sub ∷ kinds.Sub ∷ []
      → IsErrAnd result (λ x. x ≡ fault) → IsCall run sees leaves (steps.Arms a given) BeganThese old new (Err fault)
      → IsCall run sees leaves (arms_of a) BeganBoth old new result
  none_of_two given (Ok arms) fault e h call = absurd h
  none_of_two given (Err x) fault e h call =
      let of : IsCall run sees leaves (arms_of a) BeganThese old new (Err fault) =
      subst (λ ks. IsCall run sees leaves (steps.Arms a ks) BeganThese old new (Err fault)) e call in
      subst (λ f. IsCall run sees leaves (arms_of a) BeganBoth old new (Err f)) (sym h)
      (record { gives = tt; why = of.why; same = of.same; stores = of.stores })

  module _ (arms : Place × Place) (call : IsCall run sees leaves (arms_of a) BeganBoth old new (Ok arms)) where
    pub begins_by_both : BeginArms sees a arms.0.action arms.1.action (run old) (run new)
    begins_by_both = record {
      answer = subst (IsAnsweredTo sees (run old) (arms_of a)) call.gives.shows call.gives.made.answered;
      after = call.gives.made.after ∙ ap (λ answer. own_after (run old) (arms_of a) answer) call.gives.shows;
    }

    -- each at the action's home
    module _ (home : ℕ) (there : began_at home a (run old).past ≡ true) where
      began_home : (place : Place) → has_name (arms.0.action ∷ arms.1.action ∷ []) place.action ≡ true → place.home ≡ home
          → began_at place.home place.action (run new).past ≡ true
      began_home place is same =
          subst (λ h. began_at h place.action (run new).past ≡ true) (sym same)
          (arm_began {sees = sees} a arms.0.action arms.1.action (run old) (run new) begins_by_both home there place.action is)

      pub one_there : arms.0.home ≡ home → began_at arms.0.home arms.0.action (run new).past ≡ true
      one_there h = began_home arms.0 (or_left _ _ (same_name_self arms.0.action)) h

      pub other_there : arms.1.home ≡ home → began_at arms.1.home arms.1.action (run new).past ≡ true
      other_there h =
          began_home arms.1 (or_right (same_name arms.0.action arms.1.action) _ (or_left _ _ (same_name_self arms.1.action))) h
