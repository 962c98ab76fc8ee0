-- What a step of what is locked leaves.
use Rattle.std.proofs.Common.{Err, IfOk, List, MatchOption, Ok, OnErr, Result, None, Option, Some, [], ap, ap₂, arith, cond, false, length, subst, sym, true, ℕ, ◌<◌, ◌≤◌, ◌==◌, ◌∙◌, ◌∷◌, ◌≡◌, ◌&&◌, is_some}
use Rattle.std.proofs.lemmas.Bool.{or_left, or_right}
use Rattle.one_run.specs.declared.piece.Piece.{Piece}
use Rattle.one_run.specs.Pieces.{AllFit, count, owner, seen_of, with_less, with_seen}
use Rattle.one_run.specs.Rules.{Adds, first_of, others_of}
use Rattle.stable_store.specs.Calls.{View}
use Rattle.run_model.specs.declared.answer.Answer.{Answer}
use Rattle.run_model.specs.declared.history.Event.{Event}
use Rattle.run_model.specs.declared.step.Step.{Step}
use Rattle.run_model.specs.Answers.{answer_of}
use Rattle.run_model.specs.LocalHistories.{names_guardian}
use Rattle.guardian_laws.specs.Stored.{asks_store}
use Rattle.run_model.specs.Openings.{Opening}
use Rattle.run_model.specs.Runs.{IsRun, is_accepted}
use Rattle.run_laws.proofs.Names.{eqb_self}
use Rattle.layer_contracts.specs.Forests.{ForestState}
use Rattle.layer_contracts.specs.Guardians.{GuardianState, event_of}
use Rattle.layer_contracts.specs.declared.guardian.Fault.{Fault}
use Rattle.layer_contracts.specs.Stores.{IsStoreOf, Leaves}
use Rattle.layer_contracts.specs.declared.guardian.Fault.TheVariants.{Memory}
use Rattle.layer_contracts.proofs.Stores.{left_alone, refused_before, stays_same}
use Rattle.world_steps.specs.Keeping.{StoreLeft}
use Rattle.world_steps.specs.Standings.{Names, asks_of, brought, content_then, event_next, forest_of, standing}
use Rattle.world_steps.proofs.WorldStores.{left_at}
use Rattle.shared_run.specs.Places.{touches}
use Rattle.locked_run.specs.Acting.{HasMoved, IsAnswered, Outcome, StoreAfter, has_added, run_before}
use Rattle.locked_run.specs.Acting.Outcome.{failed, taken}
use Rattle.locked_run.specs.Parts.{AreLocked}
use Rattle.locked_run.proofs.Together.{all_fit_seen, less_count, moved_on, names_before, seen_of_with}

-- ---- a step that was not added

pub answered_only : {opening : Opening} {step : Step} {answer : Answer} {seen : List Event} → IsRun opening seen → answer ≡ answer_of opening step seen
    → is_accepted answer ≡ false → IsAnswered opening step answer None seen
answered_only {opening} {step} {answer} {seen} r is refused = record {
  past = seen;
  run = r;
  answered = is;
  seen_after = sym (ap (λ b. cond b (record { step = step; answer = answer } ∷ seen) seen) refused);
  accepted = sym refused;
  receipt_is = tt;
}

pub fits_seen : {v : List (Piece Event)} → v ≡ with_seen (seen_of v) v → AllFit touches (seen_of v) v
fits_seen {v} is = subst (λ u. AllFit touches (seen_of v) u) (sym is) (all_fit_seen (seen_of v) v)

pub moved_only : {v : List (Piece Event)} (o : Outcome) → has_added o ≡ false → v ≡ with_seen (seen_of v) v → HasMoved o v v
moved_only {v} o not is = record {
  since = subst (λ b. AllFit touches (run_before b (seen_of v)) v) (sym not) (fits_seen is);
  moved = record { past = seen_of v; is = is ∙ ap (λ b. with_seen (seen_of v) (cond b (with_less v) v)) (sym not) };
}

-- ---- an event that was added

module _ (opening : Opening) (step : Step) (answer : Answer) {v w : List (Piece Event)} {number : ℕ} (p : ℕ) (place : 0 < count p v)
    (adds : Adds (IsRun opening) touches (event_of step answer) v number w) where
  pub seen_now : seen_of w ≡ event_of step answer ∷ adds.past
  seen_now = ap seen_of adds.seen

  pub seen_rest : seen_of (others_of w) ≡ event_of step answer ∷ adds.past
  seen_rest =
      let same = less_count p v in
      ap (λ u. seen_of (others_of u)) adds.seen ∙ seen_of_with (event_of step answer ∷ adds.past) (with_less v) p (omega (arith, same, place))

  pub answered_added : (receipt : Option (List Event)) → receipt ≡ Some (seen_of w) → IsAnswered opening step answer receipt (seen_of (others_of w))
  answered_added receipt is = record {
    past = adds.past;
    run = adds.run.2;
    answered = adds.run.0;
    seen_after = seen_rest ∙ sym (ap (λ b. cond b (event_of step answer ∷ adds.past) adds.past) adds.run.1);
    accepted = ap is_some is ∙ sym adds.run.1;
    receipt_is = subst (λ o. MatchOption o (Unit {0}) (λ run. run ≡ seen_of (others_of w))) (sym is) (seen_now ∙ sym seen_rest);
  }

  pub moved_added : HasMoved (taken true) v (others_of w)
  moved_added = record {
    since = subst (λ l. AllFit touches (run_before true l) v) (sym seen_rest) adds.fits;
    moved = record { past = event_of step answer ∷ adds.past; is = ap others_of adds.seen };
  }

  pub first_owns : first_of w ≡ owner number (seen_of w) ∷ []
  first_owns =
      let same : length (event_of step answer ∷ adds.past) ≡ number = sym adds.number in
      ap first_of adds.seen ∙ ap₂ (λ (n : ℕ) (l : List Event). owner n l ∷ []) same (sym seen_now)

  pub first_number : 1 ≤ number
  first_number = let is = adds.number in omega arith

  pub run_now : IsRun opening (seen_of w)
  run_now = subst (λ l. IsRun opening l) (sym seen_now) adds.run

  pub counted_now : number ≡ length (seen_of w)
  counted_now = adds.number ∙ ap length (sym seen_now)

  pub same_seen : seen_of w ≡ seen_of (others_of w)
  same_seen = seen_now ∙ sym seen_rest

-- ---- stores

-- out of memory before a store was called
pub store_refused : (opening : Opening) (step : Step) (seen : List Event) (g : ℕ) (old : View) {s : GuardianState} → IsStoreOf s old
    → StoreAfter opening step (failed Memory) seen g old old
store_refused opening step seen g old whole =
    refused_before (asks_of opening step seen g old.content) (content_then opening step seen g old.content) old old (stays_same old) whole.found whole.rests

-- what is not accepted asks nothing of a store
pub store_idle : (opening : Opening) (step : Step) (seen : List Event) (g : ℕ) (old : View) → is_accepted (answer_of opening step seen) ≡ false
    → StoreAfter opening step (taken false) seen g old old
store_idle opening step seen g old idle =
    left_alone (asks_of opening step seen g old.content) (content_then opening step seen g old.content) old old None
    (ap (λ t. t && (names_guardian step seen g && asks_store g (brought opening (event_next opening step seen) seen g) old.content)) idle)
    (stays_same old)

module _ {opening : Opening} {forest : ForestState → Type 0} {one other : GuardianState → Type 0} {g h : ℕ} {v : List (Piece Event)}
    (a : AreLocked opening forest one other g h v) (step : Step) (answer : Answer) (r : IsRun opening (event_of step answer ∷ seen_of v))
    (n : Names (forest_of opening (seen_of v)) step g h) where
  abbrev it : Event
  it = event_of step answer

  -- a store that failed, by the run that was seen
  pub first_failed : (old new : View) (fault : Fault)
      → StoreLeft (forest_of opening (seen_of v)) (standing opening (seen_of v) g) (standing opening (seen_of v) h) it (standing opening (seen_of v) g) old new (Some fault)
      → StoreAfter opening step (failed fault) (seen_of v) g old new
  first_failed old new fault left = left_at (seen_of v) opening it g h g old new (Some fault) r n (or_left (g == g) (h == g) (eqb_self g)) left

  pub second_failed : (old new : View) (fault : Fault)
      → StoreLeft (forest_of opening (seen_of v)) (standing opening (seen_of v) g) (standing opening (seen_of v) h) it (standing opening (seen_of v) h) old new (Some fault)
      → StoreAfter opening step (failed fault) (seen_of v) h old new
  second_failed old new fault left = left_at (seen_of v) opening it g h h old new (Some fault) r n (or_right (g == h) (h == h) (eqb_self h)) left

  module _ {number : ℕ} {w : List (Piece Event)} (adds : Adds (IsRun opening) touches it v number w) where
    -- a store that did what was asked, by the run before the event
    pub first_stored : (old new : View)
        → StoreLeft (forest_of opening (seen_of v)) (standing opening (seen_of v) g) (standing opening (seen_of v) h) it (standing opening (seen_of v) g) old new None
        → StoreAfter opening step (taken true) (seen_of w) g old new
    first_stored old new left =
        let now = adds.past in
        let there : StoreLeft (forest_of opening now) (standing opening now g) (standing opening now h) it (standing opening now g) old new None =
        moved_on a it r n adds (λ R x y. StoreLeft (record { opening = opening; registry = R }) (record { opening = opening; number = g; past = x }) (record { opening = opening; number = h; past = y }) it
        (record { opening = opening; number = g; past = x }) old new None) left in
        subst (λ l. Leaves (asks_of opening step (run_before true l) g old.content) (content_then opening step (run_before true l) g old.content) old new None)
        (sym (seen_now opening step answer 0 a.registry.place adds))
        (left_at now opening it g h g old new None adds.run (names_before a it r n adds) (or_left (g == g) (h == g) (eqb_self g)) there)

    pub second_stored : (old new : View)
        → StoreLeft (forest_of opening (seen_of v)) (standing opening (seen_of v) g) (standing opening (seen_of v) h) it (standing opening (seen_of v) h) old new None
        → StoreAfter opening step (taken true) (seen_of w) h old new
    second_stored old new left =
        let now = adds.past in
        let there : StoreLeft (forest_of opening now) (standing opening now g) (standing opening now h) it (standing opening now h) old new None =
        moved_on a it r n adds (λ R x y. StoreLeft (record { opening = opening; registry = R }) (record { opening = opening; number = g; past = x }) (record { opening = opening; number = h; past = y }) it
        (record { opening = opening; number = h; past = y }) old new None) left in
        subst (λ l. Leaves (asks_of opening step (run_before true l) h old.content) (content_then opening step (run_before true l) h old.content) old new None)
        (sym (seen_now opening step answer 0 a.registry.place adds))
        (left_at now opening it g h h old new None adds.run (names_before a it r n adds) (or_right (g == h) (h == h) (eqb_self h)) there)

-- ---- what a call has told

pub ok_is : {T E : Type 0} {r : Result T E} {x : T} (P : T → Type 0) → r ≡ Ok x → IfOk r P → P x
ok_is P q h = subst (λ s. IfOk s P) q h

pub err_is : {T E : Type 0} {r : Result T E} {x : E} (P : Type 0) → r ≡ Err x → OnErr r P → P
err_is P q h = subst (λ s. OnErr s P) q h

-- once the receipt was cut off
module _ (opening : Opening) (step : Step) (answer : Answer) {v w rest : List (Piece Event)} {number : ℕ} {receipt : Option (List Event)} (p : ℕ) (place : 0 < count p v)
    (adds : Adds (IsRun opening) touches (event_of step answer) v number w) (cut : rest ≡ others_of w) (is : receipt ≡ Some (seen_of w)) where
  pub moved_then : HasMoved (taken (is_some receipt)) v rest
  moved_then =
      subst (λ b. HasMoved (taken b) v rest) (sym (ap is_some is))
      (subst (λ u. HasMoved (taken true) v u) (sym cut) (moved_added opening step answer p place adds))

  pub answered_then : IsAnswered opening step answer receipt (seen_of rest)
  answered_then = subst (λ u. IsAnswered opening step answer receipt (seen_of u)) (sym cut) (answered_added opening step answer p place adds receipt is)

  pub store_then : (g : ℕ) (old new : View) → StoreAfter opening step (taken true) (seen_of w) g old new → StoreAfter opening step (taken (is_some receipt)) (seen_of rest) g old new
  store_then g old new stored =
      subst (λ b. StoreAfter opening step (taken b) (seen_of rest) g old new) (sym (ap is_some is))
      (subst (λ l. StoreAfter opening step (taken true) l g old new) (same_seen opening step answer p place adds ∙ ap seen_of (sym cut)) stored)
