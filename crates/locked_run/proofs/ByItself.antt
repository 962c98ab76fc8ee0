-- What a guardian does by itself, by the run.
use Rattle.std.proofs.Common.{Bool, MatchOption, List, [], ap, ap₂, ◌-◌, cond, eqb-true, false, length, refl, subst, sym, true, zero, suc, ℕ, ◌<◌, ◌==◌, ◌∙◌, ◌∷◌, ◌≡◌, ◌&&◌, ◌||◌, arith, None, Option, Some}
use Rattle.std.proofs.lemmas.Bool.{and_parts, false≢true, or_left}
use Rattle.action_names.specs.Names.{Name}
use Rattle.one_run.specs.declared.piece.Piece.{Piece}
use Rattle.one_run.specs.Pieces.{AllFit, GoesOn, count, seen_of, with_less, with_seen}
use Rattle.one_run.specs.Rules.{Adds, MayAdd, others_of}
use Rattle.run_model.specs.declared.answer.Answer.{Answer}
use Rattle.run_model.specs.declared.answer.Answer.TheVariants.{Done}
use Rattle.run_model.specs.declared.history.Event.{Event}
use Rattle.run_model.specs.declared.step.Step.{Step}
use Rattle.run_model.specs.declared.step.Step.TheVariants.{Abort, Arms, Call, Close, Commit, Crash, Decide, NestedTop, Op, Prepare, Recover, Tell, Top}
use Rattle.run_model.specs.Actions.{home_of, is_begun, names_begun}
use Rattle.run_model.specs.Answers as answers
use Rattle.run_model.specs.Answers.{answer_of}
use Rattle.run_model.specs.Keeping.{blockers}
use Rattle.run_model.specs.LocalHistories.{Stamped, answer_lent, carried_lent, events_of, events_there, local_history, names_guardian, numbered, registry_history, takes_registry}
use Rattle.run_model.specs.LocalReadings.{LocalEvent, events_here, nothing_carried}
use Rattle.run_model.specs.Openings.{Opening}
use Rattle.run_model.specs.Runs.{IsRun}
use Rattle.run_laws.proofs.Accepted as accepting
use Rattle.run_laws.proofs.Names.{eqb_self}
use Rattle.local_laws.proofs.Actions.{action_same}
use Rattle.local_laws.proofs.Lending.{lent_answers}
use Rattle.local_laws.proofs.Operations.{operations_same}
use Rattle.local_laws.proofs.Roster.{begun_same}
use Rattle.stable_store.specs.Calls.{View}
use Rattle.layer_contracts.specs.Guardians.{GuardianState, IsNext, after_step, by_itself, kept, lent_two, stamped}
use Rattle.layer_contracts.specs.Messages.{is_operation, is_turn}
use Rattle.layer_contracts.specs.Stores.{Leaves, LeavesStore}
use Rattle.layer_contracts.specs.declared.guardian.Fault.{Fault}
use Rattle.world_steps.specs.Keeping.{IsAnswered, StoreLeft}
use Rattle.world_steps.proofs.Agreed.{agrees_at}
use Rattle.world_steps.proofs.Left.{first_one, named_is}
use Rattle.world_steps.proofs.Operating.{brings_nothing}
use Rattle.world_steps.proofs.Owing.{answers_outcome, owed_at}
use Rattle.world_steps.specs.Standings.{Names, asks_of, content_then, forest_of, standing}
use Rattle.world_steps.proofs.Kept.{are_answered, led_on}
use Rattle.world_steps.proofs.WorldStores.{left_at}
use Rattle.shared_run.specs.Places.{touches}
use Rattle.shared_run.proofs.Following.{named_there}
use Rattle.shared_run.proofs.Histories.{fits_at, history_stays, numbered_events, runs}
use Rattle.one_run.specs.declared.run.Part.{Part}
use Rattle.one_run.specs.Rules.{Looks}
use Rattle.atomic_table.specs.Seated.{TableId}
use Rattle.layer_contracts.specs.Guardians.{event_of}
use Rattle.locked_run.specs.Acting.{StoreAfter, is_own, run_before}
use Rattle.locked_run.specs.Acting.Outcome.{failed, taken}
use Rattle.locked_run.specs.Parts.{HasGuardian, IsHeld, Moved, guardian_part}
use Rattle.locked_run.specs.Stored.{guardian_events}
use Rattle.locked_run.proofs.Acted.{seen_now}
use Rattle.locked_run.proofs.Recorded.{events_stay, named_event}
use Rattle.locked_run.proofs.Together.{goes_further, has_guardian, less_count}
use Rattle.locked_run.specs.Own.{is_own_here, own_answer}

bools_same : (s t : Bool) → (s ≡ true → t ≡ true) → (t ≡ true → s ≡ true) → s ≡ t
bools_same true true h k = refl
bools_same true false h k = sym (h refl)
bools_same false true h k = k refl
bools_same false false h k = refl

-- what was told of an option, of what it is
pub some_told : {T : Type 0} {o : Option T} {x : T} (N : Type 0) (P : T → Type 0) → o ≡ Some x → MatchOption o N P → P x
some_told N P q h = subst (λ r. MatchOption r N P) q h

pub none_told : {T : Type 0} {o : Option T} (N : Type 0) (P : T → Type 0) → o ≡ None → MatchOption o N P → N
none_told N P q h = subst (λ r. MatchOption r N P) q h

-- ---- whether it is its own, and the answer

module _ (opening : Opening) (g : ℕ) (past : List Event) (r : IsRun opening past) where
  abbrev here : List LocalEvent
  here = local_history opening (numbered past) g

  at_home_same : (a : Name) → (is_begun a (events_here here) && (home_of a (events_here here) == g)) ≡ (is_begun a past && (home_of a past == g))
  at_home_same a = bools_same _ _ there back
    where
      there : (is_begun a (events_here here) && (home_of a (events_here here) == g)) ≡ true → (is_begun a past && (home_of a past == g)) ≡ true
      there h =
          let p = and_parts (is_begun a (events_here here)) (home_of a (events_here here) == g) h in
          let own = begun_same opening (numbered past) g a (runs opening past r) p.0 in
          let begun : is_begun a past ≡ true = ap (λ l. is_begun a l) (sym (numbered_events past)) ∙ own.0 in
          let home : home_of a past ≡ g = ap (λ l. home_of a l) (sym (numbered_events past)) ∙ sym own.1 ∙ eqb-true (home_of a (events_here here)) g p.1 in
          ap₂ (λ s t. s && t) begun (ap (λ m. m == g) home ∙ eqb_self g)

      back : (is_begun a past && (home_of a past == g)) ≡ true → (is_begun a (events_here here) && (home_of a (events_here here) == g)) ≡ true
      back h =
          let p = and_parts (is_begun a past) (home_of a past == g) h in
          let begun : is_begun a (events_of (numbered past)) ≡ true = ap (λ l. is_begun a l) (numbered_events past) ∙ p.0 in
          let home : home_of a (events_of (numbered past)) ≡ g = ap (λ l. home_of a l) (numbered_events past) ∙ eqb-true (home_of a past) g p.1 in
          let same = action_same opening (numbered past) g a (runs opening past r) begun home in
          ap₂ (λ s t. s && t) (same.begun ∙ begun) (ap (λ m. m == g) (same.home ∙ home) ∙ eqb_self g)

  pub own_same : (step : Step) → is_own_here (standing opening past g) step ≡ is_own g step past
  own_same (Op a x wanted) = at_home_same a
  own_same (Crash h) = refl
  own_same (Recover h) = refl
  own_same (Top h) = refl
  own_same (NestedTop a) = refl
  own_same (Call a h) = refl
  own_same (Arms a kinds) = refl
  own_same (Commit a) = refl
  own_same (Close a) = refl
  own_same (Prepare h a) = refl
  own_same (Decide a) = refl
  own_same (Abort a) = refl
  own_same (Tell h a) = refl

  abbrev there_all : ℕ → List LocalEvent
  there_all = λ k. local_history opening (numbered past) k

  lent : (step : Step) → answer_lent opening (registry_history opening (numbered past)) there_all step ≡ answer_of opening step past
  lent step = lent_answers opening (numbered past) there_all step (runs opening past r) (λ k n. refl) ∙ ap (λ l. answer_of opening step l) (numbered_events past)

  pub own_answers : (step : Step) → is_own g step past ≡ true → own_answer (standing opening past g) step ≡ answer_of opening step past
  own_answers (Op a x wanted) h =
      let p = and_parts (is_begun a past) (home_of a past == g) h in
      operations_same opening (numbered past) g a x wanted (runs opening past r)
      (ap (λ l. is_begun a l) (numbered_events past) ∙ p.0)
      (ap (λ l. home_of a l) (numbered_events past) ∙ eqb-true (home_of a past) g p.1)
      ∙ ap (λ l. answer_of opening (Op a x wanted) l) (numbered_events past)
  own_answers (Crash k) h =
      subst (λ m. own_answer (standing opening past g) (Crash k) ≡ answer_of opening (Crash m) past) (sym (eqb-true k g h)) (lent (Crash g))
  own_answers (Recover k) h =
      subst (λ m. own_answer (standing opening past g) (Recover k) ≡ answer_of opening (Recover m) past) (sym (eqb-true k g h)) (lent (Recover g))
  own_answers (Top k) h = absurd (false≢true h)
  own_answers (NestedTop a) h = absurd (false≢true h)
  own_answers (Call a k) h = absurd (false≢true h)
  own_answers (Arms a kinds) h = absurd (false≢true h)
  own_answers (Commit a) h = absurd (false≢true h)
  own_answers (Close a) h = absurd (false≢true h)
  own_answers (Prepare k a) h = absurd (false≢true h)
  own_answers (Decide a) h = absurd (false≢true h)
  own_answers (Abort a) h = absurd (false≢true h)
  own_answers (Tell k a) h = absurd (false≢true h)

-- ---- it names this guardian alone, and takes no registry

pub own_named : (g : ℕ) (step : Step) (past : List Event) → is_own g step past ≡ true → (k : ℕ) → names_guardian step past k ≡ (g == k)
own_named g (Op a x wanted) past h k =
    ap (λ m. m == k) (eqb-true (home_of a past) g (and_parts (is_begun a past) (home_of a past == g) h).1)
own_named g (Crash m) past h k = ap (λ n. n == k) (eqb-true m g h)
own_named g (Recover m) past h k = ap (λ n. n == k) (eqb-true m g h)
own_named g (Top m) past h k = absurd (false≢true h)
own_named g (NestedTop a) past h k = absurd (false≢true h)
own_named g (Call a m) past h k = absurd (false≢true h)
own_named g (Arms a kinds) past h k = absurd (false≢true h)
own_named g (Commit a) past h k = absurd (false≢true h)
own_named g (Close a) past h k = absurd (false≢true h)
own_named g (Prepare m a) past h k = absurd (false≢true h)
own_named g (Decide a) past h k = absurd (false≢true h)
own_named g (Abort a) past h k = absurd (false≢true h)
own_named g (Tell m a) past h k = absurd (false≢true h)

own_takes : (g : ℕ) (step : Step) (past : List Event) → is_own g step past ≡ true → takes_registry step ≡ false
own_takes g (Op a x wanted) past h = refl
own_takes g (Crash m) past h = refl
own_takes g (Recover m) past h = refl
own_takes g (Top m) past h = absurd (false≢true h)
own_takes g (NestedTop a) past h = absurd (false≢true h)
own_takes g (Call a m) past h = absurd (false≢true h)
own_takes g (Arms a kinds) past h = absurd (false≢true h)
own_takes g (Commit a) past h = absurd (false≢true h)
own_takes g (Close a) past h = absurd (false≢true h)
own_takes g (Prepare m a) past h = absurd (false≢true h)
own_takes g (Decide a) past h = absurd (false≢true h)
own_takes g (Abort a) past h = absurd (false≢true h)
own_takes g (Tell m a) past h = absurd (false≢true h)

-- it is an operation, or a crash or a recovery
pub own_kind : (g : ℕ) (step : Step) (past : List Event) → is_own g step past ≡ true → (is_operation step || is_turn step) ≡ true
own_kind g (Op a x wanted) past h = refl
own_kind g (Crash m) past h = refl
own_kind g (Recover m) past h = refl
own_kind g (Top m) past h = absurd (false≢true h)
own_kind g (NestedTop a) past h = absurd (false≢true h)
own_kind g (Call a m) past h = absurd (false≢true h)
own_kind g (Arms a kinds) past h = absurd (false≢true h)
own_kind g (Commit a) past h = absurd (false≢true h)
own_kind g (Close a) past h = absurd (false≢true h)
own_kind g (Prepare m a) past h = absurd (false≢true h)
own_kind g (Decide a) past h = absurd (false≢true h)
own_kind g (Abort a) past h = absurd (false≢true h)
own_kind g (Tell m a) past h = absurd (false≢true h)

-- which begins nothing
pub own_begins : (opening : Opening) (e : Event) (past : List Event) → IsRun opening (e ∷ past) → (is_operation e.step || is_turn e.step) ≡ true → names_begun e.answer ≡ []
own_begins opening e past r own = ap (λ x. names_begun x) (accepting.answered opening e past r) ∙ of e.step own
  where
    of : (step : Step) → (is_operation step || is_turn step) ≡ true → names_begun (answers.outcome opening step past) ≡ []
    of (Op a x wanted) h = none (blockers a x wanted past)
      where
        none : (bs : List Name) → names_begun (answers.granted_or_waits opening x wanted past bs) ≡ []
        none [] = refl
        none (b ∷ bs) = refl
    of (Crash g) h = refl
    of (Recover g) h = refl
    of _ h = absurd (false≢true h)

-- ---- it stays the guardian's own, with the same answer, while nothing touches the guardian

module _ (opening : Opening) (past now : List Event) (r : IsRun opening past) (s : IsRun opening now) (g : ℕ) (still : GoesOn touches (Some (suc g)) past now) where
  pub standing_stays : standing opening now g ≡ standing opening past g
  standing_stays = ap (λ l. record { opening = opening; number = g; past = l }) (history_stays opening g past still)

  pub own_stays : (step : Step) → is_own g step past ≡ true → is_own g step now ≡ true
  own_stays step h = sym (own_same opening g now s step) ∙ ap (λ x. is_own_here x step) standing_stays ∙ own_same opening g past r step ∙ h

  pub answer_stays : (step : Step) → is_own g step past ≡ true → answer_of opening step past ≡ answer_of opening step now
  answer_stays step h =
      sym (own_answers opening g past r step h) ∙ ap (λ x. own_answer x step) (sym standing_stays) ∙ own_answers opening g now s step (own_stays step h)

-- So its event may be added by one who has the guardian.
pub may_add_own : (opening : Opening) (e : Event) (past : List Event) (v : List (Piece Event)) (g : ℕ) → IsRun opening (e ∷ past) → is_own g e.step past ≡ true
    → 0 < count (suc g) (with_seen past v) → MayAdd (IsRun opening) touches e (with_seen past v)
may_add_own opening e past v g r own mine now s f =
    let still : GoesOn touches (Some (suc g)) past now = fits_at (suc g) past now v f mine in
    record {
      more = (r.0 ∙ answer_stays opening past now r.2 s g still e.step own, r.1, s);
      touched = at (own_stays opening past now r.2 s g still e.step own);
    }
  where
    at : is_own g e.step now ≡ true → (p : ℕ) → touches e now p ≡ true → 0 < count p (with_seen past v)
    at mine_now zero t = absurd (false≢true (sym (own_takes g e.step now mine_now) ∙ t))
    at mine_now (suc k) t =
        subst (λ m. 0 < count (suc m) (with_seen past v)) (eqb-true g k (sym (own_named g e.step now mine_now k) ∙ t)) mine

-- ---- nothing comes with it

module _ (opening : Opening) (e : Event) (g : ℕ) (past : List Event) (r : IsRun opening (e ∷ past)) (own : is_own g e.step past ≡ true) where
  own_names : Names (forest_of opening past) e.step g g
  own_names k = named_there opening e past k r.2 ∙ own_named g e.step past own k ∙ twice (g == k)
    where
      twice : (t : Bool) → t ≡ (t || t)
      twice true = refl
      twice false = refl

  named_here : names_guardian e.step (events_there (registry_history opening (numbered past))) g ≡ true
  named_here = named_there opening e past g r.2 ∙ own_named g e.step past own g ∙ eqb_self g

  abbrev state : GuardianState
  state = standing opening past g

  answered : IsAnswered (forest_of opening past) state state e
  answered =
      (are_answered past opening e g g {forest = λ f. Unit {0}} {one = λ x. Unit {0}} {other = λ x. Unit {0}} r own_names
      (record { forest = tt; first = tt; second = tt; opening = record { first = refl; second = refl } })).answered

  nothing_comes : nothing_carried ≡ carried_lent opening e g (registry_history opening (numbered past)) (lent_two state state)
  nothing_comes = of e.step refl
    where
      P : Event → Type 0
      P = λ d. nothing_carried ≡ carried_lent opening d g (registry_history opening (numbered past)) (lent_two state state)

      done : (step : Step) → e.step ≡ step → e.answer ≡ Done 0 → P (record { step = step; answer = Done 0 }) → P e
      done step is answer p = subst P (sym (λ i. record { step = is i; answer = answer i })) p

      outcome : (step : Step) → e.step ≡ step → e.answer ≡ answer_lent opening (registry_history opening (numbered past)) (lent_two state state) step
      outcome step is = answered.answer ∙ ap (λ t. answer_lent opening (registry_history opening (numbered past)) (lent_two state state) t) is

      of : (step : Step) → e.step ≡ step → P e
      of (Op a x wanted) is = brings_nothing (forest_of opening past) state state e answered (ap is_operation is) g
      of (Crash k) is =
          done (Crash k) is (answers_outcome (forest_of opening past) (lent_two state state) (Crash k) e.answer (outcome (Crash k) is) answered.accepted) refl
      of (Recover k) is =
          done (Recover k) is (answers_outcome (forest_of opening past) (lent_two state state) (Recover k) e.answer (outcome (Recover k) is) answered.accepted) refl
      of (Top k) is = absurd (false≢true (sym (ap (λ t. is_own g t past) is) ∙ own))
      of (NestedTop a) is = absurd (false≢true (sym (ap (λ t. is_own g t past) is) ∙ own))
      of (Call a k) is = absurd (false≢true (sym (ap (λ t. is_own g t past) is) ∙ own))
      of (Arms a kinds) is = absurd (false≢true (sym (ap (λ t. is_own g t past) is) ∙ own))
      of (Commit a) is = absurd (false≢true (sym (ap (λ t. is_own g t past) is) ∙ own))
      of (Close a) is = absurd (false≢true (sym (ap (λ t. is_own g t past) is) ∙ own))
      of (Prepare k a) is = absurd (false≢true (sym (ap (λ t. is_own g t past) is) ∙ own))
      of (Decide a) is = absurd (false≢true (sym (ap (λ t. is_own g t past) is) ∙ own))
      of (Abort a) is = absurd (false≢true (sym (ap (λ t. is_own g t past) is) ∙ own))
      of (Tell k a) is = absurd (false≢true (sym (ap (λ t. is_own g t past) is) ∙ own))

  -- it may come next to the guardian
  pub own_next : IsNext state (by_itself e)
  own_next = record {
    accepted = r.1;
    owed = owed_at (forest_of opening past) state state state e nothing_carried refl (first_one state state).past nothing_comes answered named_here;
    agrees =
        agrees_at (forest_of opening past) state state state e nothing_carried refl (first_one state state).past (first_one state state).number nothing_comes answered.agrees
        named_here;
  }

  own_kept : (n : ℕ) → kept state (stamped n (by_itself e)) ≡ after_step state (n, e) (registry_history opening (numbered past)) (lent_two state state)
  own_kept n =
      ap (λ m. kept state (stamped n (record { event = e; carried = m }))) nothing_comes
      ∙ named_is (forest_of opening past) state state state e n refl (first_one state state).past named_here

  -- and leads it where the longer run does
  pub own_after : kept state (stamped (length (e ∷ past)) (by_itself e)) ≡ standing opening (e ∷ past) g
  own_after =
      (led_on past opening e g g {forest = λ f. Unit {0}} {one = λ x. kept state (stamped (length (e ∷ past)) (by_itself e)) ≡ x} {other = λ x. Unit {0}} r own_names
      (record { forest = tt; first = own_kept (length (e ∷ past)); second = tt })).1

  -- what it leaves of the store
  pub own_left : (old new : View) (fault : Option Fault) → LeavesStore state (by_itself e) old new fault
      → Leaves (asks_of opening e.step past g old.content) (content_then opening e.step past g old.content) old new fault
  own_left old new fault left =
      left_at past opening e g g g old new fault r own_names (or_left (g == g) (g == g) (eqb_self g)) (there left)
    where
      there : LeavesStore state (by_itself e) old new fault → StoreLeft (forest_of opening past) state state e state old new fault
      there l =
          let moved = subst (λ m. LeavesStore state (record { event = e; carried = m }) old new fault) nothing_comes l in
          subst (λ t. Leaves (t && Rattle.guardian_laws.specs.Stored.asks_store g (stamped 0 (record { event = e; carried = carried_lent opening e g (registry_history opening (numbered past)) (lent_two state state) })) old.content)
          (Rattle.guardian_laws.specs.Stored.after_event opening g (stamped 0 (record { event = e; carried = carried_lent opening e g (registry_history opening (numbered past)) (lent_two state state) })) state.past old.content) old new fault)
          (sym named_here) moved

-- ---- a guardian whose part has seen the run

module _ {opening : Opening} {one : GuardianState → Type 0} {g : ℕ} {v : List (Piece Event)} (h : HasGuardian opening one g v) (step : Step) (answer : Answer)
    (r : IsRun opening (event_of step answer ∷ seen_of v)) (own : is_own g step (seen_of v) ≡ true) where
  abbrev it : Event
  it = event_of step answer

  mine : 0 < count (suc g) (with_seen (seen_of v) v)
  mine = subst (λ w. 0 < count (suc g) w) h.seen h.place

  pub may_add_it : MayAdd (IsRun opening) touches it v
  may_add_it = subst (λ w. MayAdd (IsRun opening) touches it w) (sym h.seen) (may_add_own opening it (seen_of v) v g r own mine)

  pub next_here : IsNext (standing opening (seen_of v) g) (by_itself it)
  next_here = own_next opening it g (seen_of v) r own

  pub store_failed : (old new : View) (fault : Fault) → LeavesStore (standing opening (seen_of v) g) (by_itself it) old new (Some fault)
      → StoreAfter opening step (failed fault) (seen_of v) g old new
  store_failed old new fault left = own_left opening it g (seen_of v) r own old new (Some fault) left

  module _ {number : ℕ} {w : List (Piece Event)} (adds : Adds (IsRun opening) touches it v number w) where
    abbrev now : List Event
    now = adds.past

    still : GoesOn touches (Some (suc g)) (seen_of v) now
    still = fits_at (suc g) (seen_of v) now v (subst (λ u. AllFit touches now u) h.seen adds.fits) mine

    same : standing opening now g ≡ standing opening (seen_of v) g
    same = standing_stays opening (seen_of v) now r.2 adds.run.2 g still

    own_now : is_own g step now ≡ true
    own_now = own_stays opening (seen_of v) now r.2 adds.run.2 g still step own

    -- once it kept the event it stands where the longer run leads it
    pub has_kept : {new : GuardianState → Type 0} → new (kept (standing opening (seen_of v) g) (stamped number (by_itself it))) → HasGuardian opening new g (others_of w)
    has_kept {new} done =
        let moved : new (kept (standing opening now g) (stamped number (by_itself it))) = subst (λ x. new (kept x (stamped number (by_itself it)))) (sym same) done in
        let led : new (standing opening (it ∷ now) g) =
        subst new (ap (λ n. kept (standing opening now g) (stamped n (by_itself it))) adds.number ∙ own_after opening it g now adds.run own_now) moved in
        let c = less_count (suc g) v in
        let p = h.place in
        subst (λ z. HasGuardian opening new g z) (sym (ap others_of adds.seen)) (has_guardian opening (it ∷ now) (with_less v) adds.run g (omega (arith, c, p)) led)

    -- and has kept the longer run's events
    pub recorded : {x y : List Stamped} → x ≡ guardian_events opening (seen_of v) g → y ≡ (number, it) ∷ x → y ≡ guardian_events opening (it ∷ now) g
    recorded before is =
        is ∙ ap₂ (λ n l. (n, it) ∷ l) adds.number (before ∙ sym (events_stay opening g (seen_of v) still))
        ∙ sym (named_event opening it now g (own_named g step now own_now g ∙ eqb_self g))

    pub store_kept : (old new : View) → LeavesStore (standing opening (seen_of v) g) (by_itself it) old new None → StoreAfter opening step (taken true) (seen_of w) g old new
    store_kept old new left =
        let there = subst (λ x. LeavesStore x (by_itself it) old new None) (sym same) left in
        subst (λ l. Leaves (asks_of opening step (run_before true l) g old.content) (content_then opening step (run_before true l) g old.content) old new None)
        (sym (seen_now opening step answer (suc g) h.place adds))
        (own_left opening it g now adds.run own_now old new None there)

-- ---- under its lock

module _ {opening : Opening} {table : TableId} {one : GuardianState → Type 0} {a : Part Event} {left : ℕ} {history : List Stamped}
    (x : IsHeld opening table one a left history) {w : List (Piece Event)}
    (looks : Looks (IsRun opening) touches a.token.me.0 w) where
  abbrev pub held_alone : List (Piece Event)
  held_alone = guardian_part x.number x.allowed x.past ∷ []

  pub seen_alone : w ≡ with_seen looks.past held_alone
  seen_alone = looks.seen ∙ ap (λ u. with_seen looks.past u) x.parts

  pub fits_alone : AllFit touches looks.past held_alone
  fits_alone = subst (λ u. AllFit touches looks.past u) x.parts looks.fits

  place_alone : 0 < count (suc x.number) held_alone
  place_alone = let self : ◌≡◌ {A = ℕ} (cond (suc x.number == suc x.number) 1 0) 1 = ap (λ (b : Bool). cond {A = ℕ} b 1 0) (eqb_self (suc x.number)) in omega arith

  pub locked_alone : HasGuardian opening one x.number w
  locked_alone =
      let here : one (standing opening looks.past x.number) =
      subst (λ l. one (record { opening = opening; number = x.number; past = l })) (sym (history_stays opening x.number x.past fits_alone.0)) x.here in
      subst (λ u. HasGuardian opening one x.number u) (sym seen_alone) (has_guardian opening looks.past held_alone looks.run x.number place_alone here)

  -- what it has kept is that of the run as it is now
  pub kept_alone : history ≡ guardian_events opening (seen_of w) x.number
  kept_alone =
      x.kept ∙ sym (events_stay opening x.number x.past fits_alone.0) ∙ ap (λ q. guardian_events opening q x.number) (sym (ap seen_of seen_alone))

  pub alone_since : {last : List Event} → AllFit touches last w → GoesOn touches (Some (suc x.number)) x.past last
  alone_since {last} after =
      let each : AllFit touches last (with_seen looks.past held_alone) = subst (λ u. AllFit touches last u) seen_alone after in
      goes_further fits_alone.0 each.0

-- and given back
pub alone_back : (added : Bool) (g l : ℕ) (p past : List Event) (v w : List (Piece Event)) → v ≡ with_seen past (guardian_part g l p ∷ []) → Moved added v w
    → w ≡ guardian_part g (cond added (l - 1) l) (seen_of w) ∷ []
alone_back added g l p past v w is moved =
    let all : w ≡ guardian_part g (cond added (l - 1) l) moved.past ∷ [] = moved.is ∙ ap (λ u. with_seen moved.past (cond added (with_less u) u)) is ∙ of added in
    all ∙ ap (λ q. guardian_part g (cond added (l - 1) l) q ∷ []) (sym (ap seen_of all))
  where
    of : (b : Bool) → with_seen moved.past (cond b (with_less (with_seen past (guardian_part g l p ∷ []))) (with_seen past (guardian_part g l p ∷ [])))
        ≡ guardian_part g (cond b (l - 1) l) moved.past ∷ []
    of true = refl
    of false = refl
