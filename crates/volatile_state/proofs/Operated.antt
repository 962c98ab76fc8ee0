-- An operation that was granted: what it says of its object, and what it makes of the objects.
use Rattle.std.proofs.Common.{List, None, Option, Some, [], ap, eqb-true, false, length, refl, subst, suc, sym, true, zero, ℕ, ◌==◌, ◌∙◌, ◌∷◌, ◌≡◌, ◌≤◌, arith}
use Rattle.std.specs.Prelude.{nat_lt}
use Rattle.std.proofs.lemmas.Bool.{and_parts, false≢true, ltb-false, not-false, or_parts, true≢false}
use Rattle.action_names.specs.Names.{Name}
use Rattle.values.specs.declared.content.Content.{Content}
use Rattle.atomic_types.specs.Objects.{knows}
use Rattle.atomic_types.specs.Operations as op
use Rattle.atomic_types.specs.declared.op.Reply.{Reply}
use Rattle.run_model.specs.declared.answer.Answer.{Answer}
use Rattle.run_model.specs.declared.answer.Answer.TheVariants.{Granted}
use Rattle.run_model.specs.declared.answer.Refusal.{Refusal}
use Rattle.run_model.specs.declared.answer.Refusal.TheVariants as why
use Rattle.run_model.specs.declared.step.ObjectId.{ObjectId}
use Rattle.run_model.specs.declared.step.Step.{Step}
use Rattle.run_model.specs.declared.step.Step.TheVariants.{Op}
use Rattle.run_model.specs.Actions.{home_of, is_begun}
use Rattle.run_model.specs.Answers.{granted_by, operated_by, refused_or}
use Rattle.run_model.specs.Keeping.{Performed, Standing, blockers_by}
use Rattle.run_model.specs.LocalReadings.{LocalEvent, events_here, facts_here, is_at_home, operation_here, standing_here}
use Rattle.run_model.specs.Openings.{Opening, first_content, objects_at}
use Rattle.run_model.specs.Refusals.{Check, checks_by, first_refusal}
use Rattle.run_model.specs.Runs.{is_accepted}
use Rattle.run_model.specs.Versions.{under}
use Rattle.run_laws.proofs.Accepted.{NoneApplies, none_applies}
use Rattle.local_laws.specs.Owed.{IsOwed}
use Rattle.layer_contracts.specs.Messages.{is_operation}
use Rattle.guardian_laws.specs.Outcomes.{is_by_told}
use Rattle.guardian_objects.specs.Objects.{AreObjects, Indexed, IsAsked, Operates, object_of}
use Rattle.guardian_objects.specs.Objects as indexed

-- where the step is no operation, it is not one of an action
pub no_operation : (step : Step) → is_operation step ≡ true → ((a : Name) (x : ObjectId) (wanted : op.Op) → step ≡ Op a x wanted → ⊥) → ⊥
no_operation (Op a x wanted) is other = other a x wanted refl
no_operation _ is other = false≢true is

-- ---- what was refused was not accepted

none_refused : (o : Option Refusal) (x : Answer) → is_accepted (refused_or o x) ≡ true → o ≡ None
none_refused None x h = refl
none_refused (Some n) x h = absurd (false≢true h)

positive : (n : ℕ) → (n == 0) ≡ false → 1 ≤ n
positive zero h = absurd (true≢false h)
positive (suc n) h = omega arith

-- the operation of the event was granted on an object of this guardian, to which it belongs
pub record IsGranted (opening : Opening) (g : ℕ) (c : LocalEvent) (here : List LocalEvent) (a : Name) (x : ObjectId) (wanted : op.Op) : Type 0 where
  pub own : x.guardian ≡ g
  pub low : 1 ≤ x.number
  pub high : x.number ≤ length (objects_at opening.setup x.guardian)
  pub known : knows (first_content opening x) wanted ≡ true
  pub answered : c.event.answer ≡ operated_by (first_content opening x) (standing_here here x) a wanted

module _ (opening : Opening) (g : ℕ) (c : LocalEvent) (here : List LocalEvent) (a : Name) (x : ObjectId) (wanted : op.Op) where
  abbrev asked : List Check
  asked = checks_by opening (facts_here opening g here) (Op a x wanted)

  abbrev outcome : Answer
  outcome = operated_by (first_content opening x) (standing_here here x) a wanted

  pub granted_facts : c.event.step ≡ Op a x wanted → IsOwed opening g c here c.event.step → is_accepted c.event.answer ≡ true → IsGranted opening g c here a x wanted
  granted_facts step owed accepted = record {
    own = eqb-true x.guardian (home_of a (events_here here)) (not-false _ (none why.Elsewhere)) ∙ home;
    low = positive x.number there.0;
    high = ltb-false (length (objects_at opening.setup x.guardian)) x.number there.1;
    known = not-false _ (none why.BadOp);
    answered = own.1 ∙ ap (λ o. refused_or o outcome) nothing;
  }
    where
      own : (is_at_home g a here ≡ true) × (c.event.answer ≡ operation_here opening g a x wanted here)
      own = subst (λ s. IsOwed opening g c here s) step owed

      home : home_of a (events_here here) ≡ g
      home = eqb-true (home_of a (events_here here)) g (and_parts (is_begun a (events_here here)) (home_of a (events_here here) == g) own.0).1

      nothing : first_refusal asked ≡ None
      nothing = none_refused (first_refusal asked) outcome (sym (ap is_accepted own.1) ∙ accepted)

      none : NoneApplies asked
      none = none_applies asked nothing

      there : ((x.number == 0) ≡ false) × (nat_lt (length (objects_at opening.setup x.guardian)) x.number ≡ false)
      there = or_parts (x.number == 0) (nat_lt (length (objects_at opening.setup x.guardian)) x.number) (none why.NoObject)

-- an answer to an operation that is accepted grants it
granted_is : (c : Content) (kept : List Performed) (wanted : op.Op) (names : List Name) (answer : Answer) → answer ≡ granted_by c kept wanted names
    → is_accepted answer ≡ true → (r : Reply) × (answer ≡ Granted r)
granted_is c kept wanted [] answer is accepted = (_, is)
granted_is c kept wanted (b ∷ names) answer is accepted = absurd (false≢true (sym (ap is_accepted is) ∙ accepted))

pub answer_is : (c : Content) (s : Standing) (a : Name) (wanted : op.Op) (answer : Answer) → answer ≡ operated_by c s a wanted → is_accepted answer ≡ true
    → (r : Reply) × (answer ≡ Granted r)
answer_is c s a wanted answer is accepted = granted_is (under c (λ b. true) s.restored) s.kept wanted (blockers_by s a wanted) answer is accepted

-- ---- the object under its number

module _ (opening : Opening) (g : ℕ) (here : List LocalEvent) (x : ObjectId) (old : Indexed) (own : x.guardian ≡ g) (owner : old.guardian ≡ g) where
  -- numbered by its guardian it is the object
  pub own_is : object_of old x.number ≡ x
  own_is =
      let make : ℕ → ObjectId = λ k. record { guardian = k; number = x.number } in
      ap make (owner ∙ sym own)

  pub may_ask : (wanted : op.Op) → AreObjects opening here old → 1 ≤ x.number → x.number ≤ length (objects_at opening.setup x.guardian)
      → knows (first_content opening x) wanted ≡ true → IsAsked old x.number wanted
  may_ask wanted are low high known = (
    opening,
    here,
    are,
    low,
    subst (λ n. x.number ≤ n) (ap (λ k. length (objects_at opening.setup k)) (own ∙ sym owner) ∙ sym are.count) high,
    ap (λ y. knows (first_content opening y) wanted) own_is ∙ known,
  )

  -- what is answered of it
  pub answered_of : (a : Name) (wanted : op.Op) (answer : Answer)
      → answer ≡ operated_by (first_content opening (object_of old x.number)) (standing_here here (object_of old x.number)) a wanted
      → answer ≡ operated_by (first_content opening x) (standing_here here x) a wanted
  answered_of a wanted answer is = is ∙ ap (λ y. operated_by (first_content opening y) (standing_here here y) a wanted) own_is

  -- what the history grants, the objects may keep
  pub may_grant : (a : Name) (wanted : op.Op) (r : Reply) → AreObjects opening here old → 1 ≤ x.number → x.number ≤ length (objects_at opening.setup x.guardian)
      → knows (first_content opening x) wanted ≡ true → Granted r ≡ operated_by (first_content opening x) (standing_here here x) a wanted
      → indexed.IsGranted old x.number a wanted
  unfolding may_ask
  may_grant a wanted r are low high known granted =
      let asked = may_ask wanted are low high known in (
        opening,
        here,
        r,
        are,
        asked.3,
        asked.4,
        asked.5,
        granted ∙ ap (λ y. operated_by (first_content opening y) (standing_here here y) a wanted) (sym own_is),
      )

  -- once the operation is kept, as the event says, the objects are those of the history with the event
  pub operated_next : (c : LocalEvent) (a : Name) (wanted : op.Op) (new : Indexed) (r : Reply) → c.event.step ≡ Op a x wanted → c.event.answer ≡ Granted r
      → Operates a x.number wanted r old new → AreObjects opening here old → c.carried.outcomes ≡ [] → c.carried.restored ≡ []
      → is_by_told c.event.step here ≡ false → AreObjects opening (c ∷ here) new
  operated_next c a wanted new r step answer operates are outcomes restored untold =
      operates opening here c are (step ∙ ap (λ y. Op a y wanted) (sym own_is)) answer outcomes restored (sym (ap (λ t. is_by_told t here) step) ∙ untold)
