-- The memory and the store of a guardian, once an event is kept and the store holds what it asks for.
use Rattle.std.proofs.Common.{Bool, Err, IfOk, List, None, Ok, OnErr, Option, Result, Some, [], ap, false, refl, subst, sym, option_map, true, ℕ, ◌&&◌, ◌==◌, ◌∙◌, ◌∷◌, ◌≡◌}
use Rattle.run_model.specs.declared.step.Step.{Step}
use Rattle.run_model.specs.declared.step.Step.TheVariants.{Abort, Arms, Call, Close, Commit, Crash, Decide, NestedTop, Op, Prepare, Recover, Tell, Top}
use Rattle.std.proofs.lemmas.Bool.{false_from_ne_true, false≢true, true≢false}
use Rattle.std.specs.FinMap as map
use Rattle.std.specs.Prelude.{is_some}
use Rattle.action_names.specs.Names.{Name, is_top, last_of}
use Rattle.run_model.specs.declared.history.Event.{Event}
use Rattle.run_model.specs.Actions.{step_crashes}
use Rattle.run_model.specs.LocalReadings.{LocalEvent, prepared_here}
use Rattle.run_model.specs.StableContent.{Prepared}
use Rattle.run_model.specs.Openings.{Opening}
use Rattle.local_laws.specs.Owed.{IsLocalRun, IsOwed, begins, goes_on}
use Rattle.guardian_laws.specs.Outcomes.{AgreesOnVotes}
use Rattle.layer_contracts.specs.Guardians.{GuardianState, IsNext, News, by_itself, kept, stamped}
use Rattle.object_laws.specs.EventLaws.{is_crash}
use Rattle.stable_store.specs.Calls.{Rests, View}
use Rattle.stable_store.specs.Stored.{Stored}
use Rattle.guardian_laws.specs.Stored.{AreStored, has_record, record_of}
use Rattle.guardian_laws.proofs.Following.{nothing_is_stored, store_follows}
use Rattle.volatile_state.specs.Memories.{InMemory, IsSound}
use Rattle.volatile_state.specs.Plans.{FitsPlan, IsPlanOf, Operated}
use Rattle.volatile_state.specs.declared.plan.Plan.{Plan}
use Rattle.guardian.specs.Guardians.{InParts, IsPlannedHere, IsRecordedAt, IsSettled, IsWhole, IsWholeOfSome}
use Rattle.layer_contracts.specs.Messages.{is_operation, may_fail}
use Rattle.guardian_laws.specs.Actions.{is_own}
use Rattle.layer_contracts.specs.Stores.{IsStoreOf, LeavesStore}
use Rattle.guardian.proofs.Asked.{crash_event, operation_event, stamp_alike, unasked}
use Rattle.layer_contracts.specs.declared.guardian.Fault.{Fault}
use Rattle.guardian.proofs.Stores.{alone, made_of, refused_of}
use Rattle.std.specs.declared.alloc.AllocError.{AllocError}

-- ---- a stamp changes nothing

owed_at : (opening : Opening) (g n : ℕ) (news : News) (here : List LocalEvent) (step : Step) → IsOwed opening g (stamped 0 news) here step
    → IsOwed opening g (stamped n news) here step
owed_at opening g n news here (Top h) owed = owed
owed_at opening g n news here (NestedTop a) owed = owed
owed_at opening g n news here (Call a h) owed = owed
owed_at opening g n news here (Arms a kinds) owed = owed
owed_at opening g n news here (Op a x wanted) owed = owed
owed_at opening g n news here (Commit a) owed = owed
owed_at opening g n news here (Close a) owed = owed
owed_at opening g n news here (Prepare h t) owed = owed
owed_at opening g n news here (Decide t) owed = owed
owed_at opening g n news here (Abort a) owed = owed
owed_at opening g n news here (Tell h a) owed = owed
owed_at opening g n news here (Crash h) owed = owed
owed_at opening g n news here (Recover h) owed = owed

votes_at : (g n : ℕ) (news : News) → AgreesOnVotes g (stamped 0 news) → AgreesOnVotes g (stamped n news)
votes_at g n news v = record { top = v.top; sender = v.sender }

module _ {S : Type 0} (seen : S → View) where
  -- nothing has happened
  pub whole_first : {p : Plan} (m : InMemory) (s : S) (g : GuardianState) → IsSound m g → g.past ≡ [] → (seen s).holds_content ≡ true → Rests (seen s)
      → IsSettled g.opening g.number (seen s).content → IsWhole seen (record { memory = m; plan = p; store = s }) g
  whole_first m s g sound none found rests settled = record {
    memory = sound;
    store = record {
      found = found;
      rests = rests;
      stored =
          subst (λ l. AreStored g.opening g.number l (seen s).content) (sym none)
          (nothing_is_stored g.opening g.number (seen s).content settled.base settled.prepared settled.decided settled.count settled.next_top);
    };
    run = subst (λ l. IsLocalRun g.opening g.number [] l) (sym none) begins;
  }

  -- an event is kept, and the store holds what it asks for
  pub whole_next : {p p' : Plan} (m : InMemory) (s : S) (n : ℕ) (g : GuardianState) (news : News) (m' : InMemory) (s' : S)
      → IsWhole seen (record { memory = m; plan = p; store = s }) g
      → IsNext g news → IsSound m' (kept g (stamped n news)) → LeavesStore g news (seen s) (seen s') None
      → IsWhole seen (record { memory = m'; plan = p'; store = s' }) (kept g (stamped n news))
  whole_next m s n g news m' s' whole next sound leaves =
      let c = stamped n news in
      let now = made_of g news (seen s) (seen s') whole.store leaves in record {
        memory = sound;
        store = record {
          found = now.found;
          rests = now.rests;
          stored =
              subst (λ held. AreStored g.opening g.number (c ∷ g.past) held) (stamp_alike g.opening g.number n news g.past (seen s).content ∙ sym now.content)
              (store_follows g.opening g.number c g.past (seen s).content whole.store.stored (votes_at g.number n news next.agrees.votes));
        };
        run = goes_on c (owed_at g.opening g.number n news g.past news.event.step next.owed) next.agrees.given whole.run;
      }

  -- the memory alone changed, and stands where it stood
  pub whole_same : {p p' : Plan} (m m' : InMemory) (s : S) (g : GuardianState) → IsWhole seen (record { memory = m; plan = p; store = s }) g → IsSound m' g
      → IsWhole seen (record { memory = m'; plan = p'; store = s }) g
  whole_same m m' s g whole sound = record { memory = sound; store = whole.store; run = whole.run }

  -- no event is kept, and the store refused
  pub whole_still : {p : Plan} (m : InMemory) (s : S) (g h : GuardianState) (news : News) (s' : S) (fault : Fault)
      → IsWhole seen (record { memory = m; plan = p; store = s }) h → LeavesStore g news (seen s) (seen s') (Some fault)
      → IsWhole seen (record { memory = m; plan = p; store = s' }) h
  whole_still m s g h news s' fault whole leaves = record {
    memory = whole.memory;
    store = refused_of g h news (seen s) (seen s') fault whole.store leaves;
    run = whole.run;
  }

  -- an operation was made, or lacked memory; it asks the store for nothing
  pub whole_operated : {p : Plan} (m m' : InMemory) (s : S) (e : Event) (g : GuardianState) (r : Result ℕ AllocError) → is_operation e.step ≡ true
      → IsWhole seen (record { memory = m; plan = p; store = s }) g → IsNext g (by_itself e) → IfOk r (λ n. Operated m e n m')
      → OnErr r ((h : GuardianState) → IsSound m h → IsSound m' h) → IsWholeOfSome seen (record { memory = m'; plan = p; store = s })
  whole_operated m m' s e g (Ok n) is whole next made same =
      let news = by_itself e in (
        _,
        whole_next m s n g news m' s whole next (made g whole.memory next)
            (alone g news (seen s) None (operation_event g.number (stamped 0 news) (seen s).content is)),
      )
  whole_operated m m' s e g (Err refused) is whole next made same = (_, whole_same m m' s g whole (same g whole.memory))

  -- a crash finds in the store what the history says, since it asks it for nothing
  pub recorded_at : (g : GuardianState) (news : News) (e : Event) (s s' : S) → IsStoreOf g (seen s) → news.event ≡ e → LeavesStore g news (seen s) (seen s') None
      → IsRecordedAt e.step (seen s').content g
  recorded_at g news e s s' store same leaves crash =
      let now = made_of g news (seen s) (seen s') store leaves in
      let idle = crash_event g.number (stamped 0 news) (seen s).content (ap (λ k. is_crash k.step) same ∙ crash) in
      subst (λ held. AreStored g.opening g.number g.past held)
      (sym (now.content ∙ unasked g.opening g.number (stamped 0 news) g.past (seen s).content idle)) store.stored

  -- ---- as the fields say

  pub inside : {m : InMemory} {p : Plan} {s : S} {now : InParts S} {g : GuardianState} → record { memory = m; plan = p; store = s } ≡ now → IsWhole seen now g
      → IsWhole seen (record { memory = m; plan = p; store = s }) g
  inside {m} {p} {s} {now} {g} is at = subst (λ k. IsWhole seen k g) (sym is) at

  pub planned_within : {m : InMemory} {p : Plan} {s : S} {now : InParts S} (e : Event) → record { memory = m; plan = p; store = s } ≡ now → IsPlannedHere seen now e
      → IsPlannedHere seen (record { memory = m; plan = p; store = s }) e
  planned_within e is planned = subst (λ k. IsPlannedHere seen k e) (sym is) planned

-- in some state the event may come next
pub next_within : {S : Type 0} {m : InMemory} {p : Plan} {s : S} {now : InParts S} {news : News} (seen : S → View)
    → record { memory = m; plan = p; store = s } ≡ now → (g : GuardianState) × IsWhole seen now g × IsNext g news
    → (g : GuardianState) × IsWhole seen (record { memory = m; plan = p; store = s }) g × IsNext g news
next_within {S} {m} {p} {s} {now} {news} seen is next = subst (λ k. (g : GuardianState) × IsWhole seen k g × IsNext g news) (sym is) next

module _ {S : Type 0} {m : InMemory} {p : Plan} {s : S} {now : InParts S} (is : record { memory = m; plan = p; store = s } ≡ now) where
  pub fits_within : FitsPlan now.plan now.memory → FitsPlan p m
  fits_within fits = subst (λ (k : InParts S). FitsPlan k.plan k.memory) (sym is) fits

  pub plan_within : (g : GuardianState) (news : News) → IsPlanOf now.plan now.memory g news → IsPlanOf p m g news
  plan_within g news of = subst (λ (k : InParts S). IsPlanOf k.plan k.memory g news) (sym is) of

-- the steps that one guardian crashes or may fail, by the number in either state
module _ {m : InMemory} {g h : GuardianState} (s : IsSound m g) (t : IsSound m h) where
  pub quiet_in : (news : News) (e : Event) → news.event ≡ e → may_fail e.step h.number ≡ false → may_fail news.event.step g.number ≡ false
  quiet_in news e same quiet = (λ i. may_fail (same i).step ((sym s.own ∙ t.own) i)) ∙ quiet

-- a crash that agrees is one of the guardian's own
pub down_of : {m : InMemory} {p : Plan} {g : GuardianState} {news : News} (k : ℕ) (e : Event) → IsSound m g → IsPlanOf p m g news → news.event ≡ e → e.step ≡ Crash k
    → step_crashes e.step m.number ≡ true
down_of {m} {p} {g} {news} k e s of same is =
    ap (λ x. step_crashes x m.number) is ∙ ap (λ n. k == n) s.own ∙ subst (λ x. is_own g.number x ≡ true) (ap (λ x. x.step) same ∙ is) of.next.agrees.actions.own

-- and no other step is a crash
pub up_of : (g : ℕ) (step : Step) → ((k : ℕ) → step ≡ Crash k → ⊥) → step_crashes step g ≡ false
up_of g (Crash k) other = absurd (other k refl)
up_of g _ other = refl

pub crash_of : (k : ℕ) (step : Step) → step ≡ Crash k → is_crash step ≡ true
crash_of k step is = ap is_crash is

-- of whom the store has a record, of that one the history says that it is prepared
pub record_is : (opening : Opening) (g : ℕ) (here : List LocalEvent) (s : Stored) → AreStored opening g here s → (a : Name) → has_record s a ≡ is_some (prepared_here opening g a here)
record_is opening g here s stored a = of (is_top a) refl
  where
    of : (t : Bool) → is_top a ≡ t → (t && is_some (map.get s.prepared (last_of a))) ≡ is_some (prepared_here opening g a here)
    of true top =
        ap (λ o. is_some o) (stored.prepared (last_of a)) ∙ some_of (prepared_here opening g (last_of a ∷ []) here)
        ∙ ap (λ b. is_some (prepared_here opening g b here)) (top_is a top)
      where
        some_of : (o : Option Prepared) → is_some (option_map record_of o) ≡ is_some o
        some_of None = refl
        some_of (Some r) = refl

        top_is : (b : Name) → is_top b ≡ true → (last_of b ∷ []) ≡ b
        top_is [] h = absurd (false≢true h)
        top_is (n ∷ []) h = refl
        top_is (m ∷ n ∷ b) h = absurd (false≢true h)
    of false low = sym (false_from_ne_true _ (λ h. true≢false (sym (stored.tops a h) ∙ low)))
