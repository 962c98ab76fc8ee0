-- What is left of the store of a guardian that was lent: by the plan that was carried out for it, by one that was installed, and where none was.
use Rattle.std.proofs.Common.{Err, IsErrAnd, None, Ok, OnOk, Option, Result, Some, ap, ap₂, false, refl, subst, sym, true, ℕ, ◌&&◌, ◌==◌, ◌∙◌, ◌≡◌, ◌⊎◌, Bool}
use Rattle.std.proofs.lemmas.Bool.{false≢true}
use Rattle.std.specs.Bool.{MatchBool, OnTrue}
use Rattle.run_model.specs.declared.history.Event.{Event}
use Rattle.run_model.specs.declared.step.Step.{Step}
use Rattle.run_model.specs.LocalHistories.{events_there, names_guardian}
use Rattle.stable_store.specs.Calls.{Changes, Counts, IsTrusted, View}
use Rattle.stable_store.specs.Stored.{Stored}
use Rattle.guardian_laws.specs.Stored.{after_event, asks_store}
use Rattle.layer_contracts.specs.Forests.{ForestState}
use Rattle.layer_contracts.specs.Guardians.{GuardianState, News, stamped}
use Rattle.layer_contracts.specs.Messages.{may_fail}
use Rattle.layer_contracts.specs.Stores.{IsStoreOf, Leaves, LeavesStore, Stays, call_of, fault_in}
use Rattle.layer_contracts.specs.declared.guardian.Fault.{Fault}
use Rattle.layer_contracts.specs.declared.guardian.Fault.TheVariants.{Memory, Stable}
use Rattle.layer_contracts.proofs.Stores.{left_alone, quiet_event, refused_before, stays_then}
use Rattle.world_steps.specs.Keeping.{Plans, StoreLeft, WhereverPlanned, news_to}
use Rattle.world_steps.proofs.Left.{quiet_plan}

-- ---- a call of a store that is as it was

stands_from : (a b c : View) (fault : Option Fault) → Stays a b → OnOk (call_of fault) (IsTrusted c → b.is_up × c.is_up)
    → OnOk (call_of fault) (IsTrusted c → a.is_up × c.is_up)
stands_from a b c None stays h = λ trusted. let u = h trusted in (stays.down u.0, u.1)
stands_from a b c (Some Memory) stays h = tt
stands_from a b c (Some Stable) stays h = tt

pub leaves_from : (asks : Bool) (after : Stored) (a b c : View) (fault : Option Fault) → Stays a b → Leaves asks after b c fault → Leaves asks after a c fault
leaves_from false after a b c fault stays left = stays_then a b c stays left
leaves_from true after a b c fault stays made = record {
  changes = subst (λ s. Changes s after c.content (call_of fault)) stays.content made.changes;
  cause = subst (λ n. Counts (Unit {0}) n c.failures (call_of fault)) stays.failures made.cause;
  known = made.known ∙ stays.known;
  holds = made.holds ∙ stays.holds;
  none = λ none. made.none (stays.holds ∙ none);
  honest = λ h. stays.honest (made.honest h);
  stop = λ trusted up left leaves. subst (λ s. (left ≡ Some s) ⊎ (left ≡ Some after)) stays.content (made.stop trusted (stays.up up) left leaves);
  rest = made.rest;
  stands = stands_from a b c fault stays made.stands;
}

store_from : (x : GuardianState) (news : News) (old mid new : View) (fault : Option Fault) → Stays old mid → LeavesStore x news mid new fault
    → LeavesStore x news old new fault
store_from x news old mid new fault stays left =
    leaves_from (asks_store x.number (stamped 0 news) old.content) (after_event x.opening x.number (stamped 0 news) x.past old.content) old mid new fault stays
    (subst (λ s. Leaves (asks_store x.number (stamped 0 news) s) (after_event x.opening x.number (stamped 0 news) x.past s) mid new fault) stays.content left)

-- ---- the fault of a call that is handed on

pub with_fault : {T : Type 0} (r : Result T Fault) (fault : Fault) (P : Option Fault → Type 0) → IsErrAnd r (λ y. y ≡ fault) → P (Some fault) → P (fault_in r)
with_fault (Ok x) fault P is p = absurd is
with_fault (Err y) fault P is p = subst (λ z. P (Some z)) (sym is) p

-- ---- what a step leaves of the store of x, of those lent

module _ (f : ForestState) (a b x : GuardianState) (e : Event) (old : View) where
  abbrev asks : Bool
  asks = asks_store x.number (stamped 0 (news_to f a b e x)) old.content

  abbrev content_after : Stored
  content_after = after_event x.opening x.number (stamped 0 (news_to f a b e x)) x.past old.content

  abbrev names_it : Bool
  names_it = names_guardian e.step (events_there f.registry) x.number

  -- memory ran out before anything was carried out
  pub left_refused : (new : View) → Stays old new → IsStoreOf x old → StoreLeft f a b e x old new (Some Memory)
  left_refused new stays whole = refused_before (names_it && asks) content_after old new stays whole.found whole.rests

  pub left_early : {T : Type 0} (r : Result T Fault) (new : View) → IsErrAnd r (λ y. y ≡ Memory) → Stays old new → IsStoreOf x old
      → StoreLeft f a b e x old new (fault_in r)
  left_early r new is stays whole = with_fault r Memory (λ fault. StoreLeft f a b e x old new fault) is (left_refused new stays whole)

  left_unnamed : (new : View) (fault : Option Fault) → names_it ≡ false → Stays old new → StoreLeft f a b e x old new fault
  left_unnamed new fault other stays = left_alone (names_it && asks) content_after old new fault (ap (λ t. t && asks) other) stays

  -- a plan was carried out for the guardian, which stood there when room was made, or there was none
  pub left_carried : (stood : GuardianState → Type 0) (is_planned : GuardianState → News → Type 0)
      (mid new : View) (fault : Option Fault) (keeps : Bool) → stood x → Stays old mid
      → Plans is_planned f a b e x keeps
      → MatchBool keeps (WhereverPlanned stood is_planned e (λ y news. LeavesStore y news mid new fault))
      (Stays mid new)
      → StoreLeft f a b e x old new fault
  left_carried stood is_planned mid new fault false s stays q h =
      left_unnamed new fault q (stays_then old mid new stays h)
  left_carried stood is_planned mid new fault true s stays q h =
      subst (λ t. Leaves (t && asks) content_after old new fault) (sym q.named)
      (store_from x (news_to f a b e x) old mid new fault stays (h x (news_to f a b e x) s q.planned refl))

  -- a plan was installed, or is still to be, which asks for nothing; or there is none
  pub left_quiet : (is_planned : GuardianState → News → Type 0) (new : View) (fault : Option Fault)
      (keeps : Bool) → Plans is_planned f a b e x keeps
      → OnTrue keeps (may_fail e.step x.number ≡ false) → Stays old new
      → StoreLeft f a b e x old new fault
  left_quiet is_planned new fault false q quiet stays = left_unnamed new fault q stays
  left_quiet is_planned new fault true q quiet stays =
      left_alone (names_it && asks) content_after old new fault
      (ap₂ (λ t u. t && u) q.named (quiet_event x.number (stamped 0 (news_to f a b e x)) old.content quiet)) stays

-- ---- which of two plans asks for nothing

-- the one that was not carried out first, as it cannot fail
pub quiet_first : (step : Step) (n : ℕ) (keeps : Bool) → (keeps && may_fail step n) ≡ false
    → OnTrue keeps (may_fail step n ≡ false)
quiet_first step n false h = tt
quiet_first step n true h = h

-- the other one, where the first may fail
pub quiet_other : (is_planned also : GuardianState → News → Type 0) (f : ForestState)
    (a b x y : GuardianState) (e : Event) (keeps keeps_also : Bool)
    → (keeps && may_fail e.step x.number) ≡ true → (x.number == y.number) ≡ false
    → Plans is_planned f a b e x keeps → Plans also f a b e y keeps_also
    → OnTrue keeps_also (may_fail e.step y.number ≡ false)
quiet_other is_planned also f a b x y e false other h d q r = absurd (false≢true h)
quiet_other is_planned also f a b x y e true other h d q r = quiet_plan also f a b x y e other q.named h d r
