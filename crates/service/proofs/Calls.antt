-- Actions that a transaction begins, and what comes of them, as calls.
use Rattle.std.proofs.Common.{Bool, Err, IfErr, List, None, Ok, Option, Result, [], ap, false, inl, inr, refl, subst, sym, true, ℕ, ◌∙◌, ◌∷◌, ◌≡◌}
use mathlib.Core.Bool.{Bool-set}
use Rattle.std.proofs.Math.Logic.{∥∥₁_elim, ∥∥₁_map, ∥∥₁_prop}
use Rattle.std.proofs.lemmas.Bool.{or_left}
use Rattle.std.specs.Result.{is_ok}
use Rattle.action_names.specs.Names.{Name}
use Rattle.run_model.specs.declared.answer.Answer.{Answer}
use Rattle.run_model.specs.declared.step.Step.TheVariants as steps
use Rattle.run_model.specs.declared.step.Step.{Step}
use Rattle.run_model.specs.Actions.{next_number}
use Rattle.run_model.specs.Openings.{opening_in}
use Rattle.run_laws.proofs.Names.{eqb_self}
use Rattle.stepping.specs.Beside.{IsAnsweredTo, OwnRun, Sees, own_after}
use Rattle.stepping.specs.Stepping.{Leaves}
use Rattle.service.specs.Calling.{BeganOne, IsCall}
use Rattle.service.specs.Opening.{BeganAt}
use Rattle.service.specs.Transacting.{Begins, CameToNothing, EndedAndTold, EndsTop, Includes, IsTransacted, RunsTop, Settles, Transacts, TransactsAt, Works, began_at, begins_at, ends_top, finishes, has_number, is_concluding, is_voted_down, settles, works_in, works_with}
use Rattle.service.specs.Outcomes.{has_committed}
use Rattle.service.specs.declared.fault.CallFault.{CallFault}
use Rattle.service.specs.declared.outcome.Cause.TheVariants.{Vote, Step as ByStep}
use Rattle.service.specs.declared.outcome.Outcome.TheVariants.{Aborted}
use Rattle.service.specs.declared.outcome.Outcome.{Outcome}
use Rattle.service.specs.declared.outcome.Transacted.{Transacted}
use Rattle.service.specs.declared.place.Place.{Place}
use Rattle.service.proofs.Going.{began_stays, begun_at, goes_grows, goes_same, none_same, prefix_self, settles_finishes, settles_wider, top_named, works_called, works_quiet, works_then}
use Rattle.service.proofs.Whole.{is_transacted, nested_begins_only, nested_works, top_begins_only}

module _ {sees : Sees} where
  -- work after work
  pub works_more : (a : Name) (x y z : OwnRun) (p q r : Option CallFault) → ∥ Works sees a x y p q ∥₁ → Works sees a y z q r → ∥ Works sees a x z p r ∥₁
  works_more a x y z p q r u v = ∥∥₁_map u (λ w. works_then a x y z p q r w v)

  pub works_on : (a : Name) (x y z : OwnRun) (p q r : Option CallFault) → ∥ Works sees a x y p q ∥₁ → ∥ Works sees a y z q r ∥₁ → ∥ Works sees a x z p r ∥₁
  works_on a x y z p q r u v = ∥∥₁_elim v ∥∥₁_prop (λ w. works_more a x y z p q r u w)

  -- work that begins now
  pub works_start : (a : Name) (start now : OwnRun) (was left : Option CallFault) → start ≡ now → was ≡ left → ∥ Works sees a start now was left ∥₁
  works_start a start now was left e l =
      ∣ subst (λ b. Works sees a start now was b) l
      (works_quiet a start now was (goes_same (works_in a) start now (sym e)) (none_same start now (sym e))) ∣₁

module _ {M : Type 0} (run : M → OwnRun) (sees : Sees) (leaves : Leaves M) where
  -- an action that began, as one in which work begins
  pub begun_place : (step : Step) (old new : M) (name : Name) (at : Place) → IsCall run sees leaves step BeganOne old new (Ok name) → at.action ≡ name
      → IsCall run sees leaves step BeganAt old new (Ok at)
  begun_place step old new name at call same = record {
    gives = record {
      answer = call.gives.answer;
      made = call.gives.made;
      shows = subst (λ n. BeganOne n call.gives.answer) (sym same) call.gives.shows;
    };
    why = tt;
    same = tt;
    stores = tt;
  }

  pub begins_by : (first : Step) (old begun : M) (at : Place) → IsCall run sees leaves first BeganAt old begun (Ok at)
      → Begins sees first at.action (run old) (run begun)
  begins_by first old begun at call = record {
    answer = subst (IsAnsweredTo sees (run old) first) call.gives.shows call.gives.made.answered;
    after = call.gives.made.after ∙ ap (λ answer. own_after (run old) first answer) call.gives.shows;
  }

  pub sub_worked : (a s : Name) (g : ℕ) (x y : M) (z w : OwnRun) (sub : Place) (was mid is : Option CallFault)
      → IsCall run sees leaves (steps.Call a g) BeganAt x y (Ok sub) → sub.left ≡ was → s ≡ sub.action
      → ∥ Works sees sub.action (run y) z sub.left mid ∥₁ → Settles sees (finishes s) z w mid is (EndedAndTold s g w) → ∥ Works sees a (run x) w was is ∥₁
  sub_worked a s g x y z w sub was mid is call kept same works ends =
      ∥∥₁_map works (λ work.
      let inside = subst (λ left. Works sees sub.action (run y) z left mid) kept work in
      let begins = begins_by (steps.Call a g) x y sub call in
      works_called a sub.action g (run x) (run y) z w was mid is begins.answer begins.after inside
      (subst (λ c. Settles sees (finishes c) z w mid is (EndedAndTold c g w)) same ends))

  -- and one that is aborted
  pub sub_aborted : (a s : Name) (g : ℕ) (x y : M) (z w : OwnRun) (sub : Place) (was mid is : Option CallFault)
      → IsCall run sees leaves (steps.Call a g) BeganAt x y (Ok sub) → sub.left ≡ was → s ≡ sub.action
      → ∥ Works sees sub.action (run y) z sub.left mid ∥₁ → Settles sees (settles s) z w mid is (EndedAndTold s g w) → ∥ Works sees a (run x) w was is ∥₁
  sub_aborted a s g x y z w sub was mid is call kept same works ends =
      sub_worked a s g x y z w sub was mid is call kept same works
      (settles_wider (settles s) (finishes s) z w mid is (EndedAndTold s g w) (settles_finishes s) ends)

  -- ---- top actions

  -- an action that began at this guardian
  pub began_there : (first : Step) (home : ℕ) (old begun : M) (at : Place) → IsCall run sees leaves first BeganAt old begun (Ok at)
      → begins_at first home (λ c. began_at home c (run old).past) ≡ true → began_at home at.action (run begun).past ≡ true
  began_there first home old begun at call there =
      begun_at first at.action (run old) (run begun) (begins_by first old begun at call).after home there

  -- the number of a top action that began
  abbrev top_number : {own : OwnRun} {step : Step} {answer : Answer} → IsAnsweredTo sees own step answer → ℕ
  top_number {own = own} given = next_number (opening_in own.lists) [] given.seen

  module _ {T E : Type 0} (home : ℕ) (old begun : M) (z : OwnRun) (at : Place) (ended : Transacted T E) (first : at.reached.items ≡ home ∷ [])
      (runs : ∥ RunsTop sees at (run begun) z ended ∥₁) where
    reached : has_number at.reached.items home ≡ true
    reached = subst (λ xs. has_number xs home ≡ true) (sym first) (or_left _ _ (eqb_self home))

    pub top_transacted : IsCall run sees leaves (steps.Top home) BeganAt old begun (Ok at) → at.left ≡ None → TransactsAt sees home (run old) z ended
    top_transacted call none =
        let begins = begins_by (steps.Top home) old begun at call in
        ∥∥₁_map runs (λ r.
        inr
        (subst (λ was. IsTransacted sees (steps.Top home) (run old) z ended.outcome was ended.left) none
        (is_transacted (steps.Top home) (top_begins_only home) home (top_number begins.answer) at (run old) (run begun) z ended begins
        (top_named (opening_in (run old).lists) (steps.Top home) begins.answer.seen (top_number begins.answer) at.action refl
        (sym begins.answer.answered))
        (began_there (steps.Top home) home old begun at call (eqb_self home)) reached r)))

    module _ (a : Name) (was : Option CallFault) (call : IsCall run sees leaves (steps.NestedTop a) BeganAt old begun (Ok at)) (before : at.left ≡ was)
        (there : began_at home a (run old).past ≡ true) where
      begins : Begins sees (steps.NestedTop a) at.action (run old) (run begun)
      begins = begins_by (steps.NestedTop a) old begun at call

      abbrev number : ℕ
      number = top_number begins.answer

      named : at.action ≡ number ∷ []
      named =
          top_named (opening_in (run old).lists) (steps.NestedTop a) begins.answer.seen number at.action refl
          (sym begins.answer.answered)

      pub nested_transacted : Transacts sees (steps.NestedTop a) (run old) z ended.outcome was ended.left
      nested_transacted =
          ∥∥₁_map runs (λ r.
          inr
          (subst (λ from. IsTransacted sees (steps.NestedTop a) (run old) z ended.outcome from ended.left) before
          (is_transacted (steps.NestedTop a) (nested_begins_only a) home number at (run old) (run begun) z ended begins named (began_there (steps.NestedTop a) home old begun at call there) reached r)))

      pub nested_worked : ∥ Works sees a (run old) z was ended.left ∥₁
      nested_worked =
          ∥∥₁_map runs (λ r.
          subst (λ from. Works sees a (run old) z from ended.left) before
          (nested_works (steps.NestedTop a) (nested_begins_only a) home number at (run old) (run begun) z ended begins named (began_there (steps.NestedTop a) home old begun at call there) reached r a
          (prefix_self a)))

  pub unbegun : (first : Step) (old new : M) (fault : CallFault) {T E : Type 0} (was is : Option CallFault)
      → IsCall run sees leaves first BeganAt old new (Err fault) → is ≡ was
      → Transacts sees {T = T} {E = E} first (run old) (run new) (Aborted (ByStep fault)) was is
  unbegun first old new fault was is call kept =
      ∣ inl (record {
        fault = fault;
        aborted = refl;
        why = call.why;
        same = call.same;
        none = kept;
      }) ∣₁

module _ {sees : Sees} where
  -- work in a top action that has begun, and its end
  pub top_run : {T E : Type 0} (at : Place) (x y z : OwnRun) (top : Name) (guardians : List ℕ) (mid left : Option CallFault) (decided : Bool)
      (outcome : Outcome T E) → top ≡ at.action → Includes at.reached.items guardians → has_committed outcome ≡ decided
      → (outcome ≡ Aborted Vote → is_voted_down top z.past ≡ true)
      → ((fault : CallFault) → outcome ≡ Aborted (ByStep fault) → CameToNothing sees (ends_top top) is_concluding y z fault)
      → ∥ Works sees at.action x y at.left mid ∥₁ → EndsTop sees top guardians y z mid left decided
      → ∥ RunsTop sees at x z (record { outcome = outcome; left = left }) ∥₁
  top_run at x y z top guardians mid left decided outcome same reached said down stopped works ends =
      ∥∥₁_map works (λ work.
      record {
        worked = y;
        guardians = guardians;
        mid = mid;
        works = work;
        reached = reached;
        ends = subst (λ c. EndsTop sees at.action guardians y z mid left c) (sym said) (subst (λ c. EndsTop sees c guardians y z mid left decided) same ends);
        vote = subst (λ c. outcome ≡ Aborted Vote → is_voted_down c z.past ≡ true) same down;
        step = subst (λ c. (fault : CallFault) → outcome ≡ Aborted (ByStep fault) → CameToNothing sees (ends_top c) is_concluding y z fault) same stopped;
      })

  -- where an action began, it began also later
  pub still_there : (home : ℕ) (a b : Name) (x y : OwnRun) (was is : Option CallFault) → began_at home a x.past ≡ true → ∥ Works sees b x y was is ∥₁
      → began_at home a y.past ≡ true
  still_there home a b x y was is there works =
      ∥∥₁_elim works (Bool-set (began_at home a y.past) true) (λ work.
      began_stays home a (goes_grows (works_with work.tops b) x y work.goes) there)

-- whether the top action was to commit
pub undecided_if : {T E : Type 0} (done : Result T E) (commits : Bool) (So : Type 0) → commits ≡ is_ok done → (commits ≡ false → So)
    → IfErr done (λ _. So)
undecided_if (Ok x) commits So e f = tt
undecided_if (Err x) commits So e f = f e

-- what is so of an error is so of the one that came
pub if_stopped : {r : Result Bool CallFault} {fault : CallFault} (So : CallFault → Type 0) → r ≡ Err fault → IfErr r So → So fault
if_stopped {r} {fault} So e h = subst (λ x. IfErr x So) e h
