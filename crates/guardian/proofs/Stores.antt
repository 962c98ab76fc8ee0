-- What a guardian's call leaves of its store.
use Rattle.std.proofs.Common.{Bool, None, Option, Result, Some, ap, false, not, refl, subst, sym, true, ◌∙◌, ◌≡◌}
use Rattle.std.proofs.lemmas.Bool.{false≢true}
use Rattle.std.specs.Prelude.{Err, IsErr, IsErrAnd, IsOk, Ok}
use Rattle.stable_store.specs.Calls.{Makes, Rests, View}
use Rattle.stable_store.specs.Stored.{Stored}
use Rattle.stable_store.specs.declared.fault.StoreFault.{StoreFault}
use Rattle.stable_store.specs.declared.fault.StoreFault.TheVariants as call
use Rattle.guardian_laws.specs.Stored.{AreStored, after_event, asks_store}
use Rattle.layer_contracts.specs.Guardians.{GuardianState, News, stamped}
use Rattle.layer_contracts.specs.Stores.{IsStoreOf, Leaves, LeavesStore, Stays, fault_in}
use Rattle.layer_contracts.specs.declared.guardian.Fault.{Fault}
use Rattle.layer_contracts.specs.declared.guardian.Fault.TheVariants.{Memory, Stable}
use Rattle.layer_contracts.proofs.Stores.{left_alone, stays_resting, stays_same}
use Rattle.guardian.specs.Writes.{fault_by, is_nothing, written}
use Rattle.guardian.specs.declared.writes.Write.{Write}
use Rattle.guardian.proofs.Asked.{unasked}

-- a store that is not called, where nothing is asked of it
pub alone : (g : GuardianState) (news : News) (s : View) (fault : Option Fault) → asks_store g.number (stamped 0 news) s.content ≡ false
    → LeavesStore g news s s fault
alone g news s fault idle =
    left_alone (asks_store g.number (stamped 0 news) s.content) (after_event g.opening g.number (stamped 0 news) g.past s.content) s s fault idle (stays_same s)

-- what the guardian answers where its store answers this
abbrev pub fault_of : Result (Unit {0}) StoreFault → Option Fault
fault_of (Ok x) = None
fault_of (Err e) = Some (fault_by e)

module _ (after : Stored) (old new : View) where
  called : (r : Result (Unit {0}) StoreFault) → Makes old new (Unit {0}) after r → Leaves true after old new (fault_of r)
  called (Ok x) m = m
  called (Err call.Memory) m = m
  called (Err call.Failed) m = m
  called (Err call.NotOurs) m = record {
    changes = m.changes;
    cause = (tt, m.cause);
    known = m.known;
    holds = m.holds;
    none = m.none;
    honest = m.honest;
    stop = m.stop;
    rest = m.rest;
    stands = tt;
  }

  uncalled : (r : Result (Unit {0}) StoreFault) → Stays old new → IsOk r → Leaves false after old new (fault_of r)
  uncalled (Ok x) stays ok = stays
  uncalled (Err e) stays ok = absurd (false≢true ok)

  pub performed : (asks nothing : Bool) (written : Stored) (r : Result (Unit {0}) StoreFault) → nothing ≡ not asks → written ≡ after
      → (nothing ≡ true → Stays old new × IsOk r) → (nothing ≡ false → Makes old new (Unit {0}) written r) → Leaves asks after old new (fault_of r)
  performed true nothing written r is same none makes = called r (subst (λ s. Makes old new (Unit {0}) s r) same (makes is))
  performed false nothing written r is same none makes = let both = none is in uncalled r both.0 both.1

-- out of memory, as `?` hands it on
pub memory_in : {T : Type 0} (r : Result T Fault) → IsErr r → IsErrAnd r (λ e. e ≡ Memory) → fault_in r ≡ Some Memory
memory_in (Ok x) is h = absurd (false≢true is)
memory_in (Err e) is h = ap (λ f. Some f) h

-- as the code makes it
pub answers : {S : Type 0} (seen : S → View) (g : GuardianState) (news : News) (s s' : S) (w : Write) (r : Result (Unit {0}) StoreFault) (fault : Option Fault)
    → is_nothing w ≡ not (asks_store g.number (stamped 0 news) (seen s).content)
    → written w (seen s).content ≡ after_event g.opening g.number (stamped 0 news) g.past (seen s).content
    → (is_nothing w ≡ true → (s' ≡ s) × IsOk r) → (is_nothing w ≡ false → Makes (seen s) (seen s') (Unit {0}) (written w (seen s).content) r)
    → fault_of r ≡ fault → LeavesStore g news (seen s) (seen s') fault
answers seen g news s s' w r fault asked same none makes is =
    subst (λ f. LeavesStore g news (seen s) (seen s') f) is
    (performed (after_event g.opening g.number (stamped 0 news) g.past (seen s).content) (seen s) (seen s')
    (asks_store g.number (stamped 0 news) (seen s).content) (is_nothing w) (written w (seen s).content) r asked same
    (λ h. let both = none h in (subst (λ t. Stays (seen s) (seen t)) (sym both.0) (stays_same (seen s)), both.1)) makes)

-- ---- of a call that was refused

-- a refusal in one state leaves the store to each history whose store it was
pub refused_of : (g h : GuardianState) (news : News) (old new : View) (fault : Fault) → IsStoreOf h old → LeavesStore g news old new (Some fault) → IsStoreOf h new
refused_of g h news old new fault store leaves = of (asks_store g.number (stamped 0 news) old.content) fault leaves
  where
    after : Stored
    after = after_event g.opening g.number (stamped 0 news) g.past old.content

    same : new.content ≡ old.content → new.holds_content ≡ true → Rests new → IsStoreOf h new
    same content found rests = record {
      found = found;
      rests = rests;
      stored = subst (λ s. AreStored h.opening h.number h.past s) (sym content) store.stored;
    }

    of : (asks : Bool) (f : Fault) → Leaves asks after old new (Some f) → IsStoreOf h new
    of true Memory makes = same makes.changes (makes.holds ∙ store.found) makes.rest
    of true Stable makes = same makes.changes (makes.holds ∙ store.found) makes.rest
    of false f stays = same stays.content (stays.holds ∙ store.found) (stays_resting old new stays store.rests)

-- ---- of a call that answered no fault

pub record IsMade (after : Stored) (s : View) : Type 0 where
  pub found : s.holds_content ≡ true
  pub rests : Rests s
  pub content : s.content ≡ after

pub made_of : (g : GuardianState) (news : News) (old new : View) → IsStoreOf g old → LeavesStore g news old new None
    → IsMade (after_event g.opening g.number (stamped 0 news) g.past old.content) new
made_of g news old new store leaves = of (asks_store g.number (stamped 0 news) old.content) refl leaves
  where
    after : Stored
    after = after_event g.opening g.number (stamped 0 news) g.past old.content

    of : (asks : Bool) → asks_store g.number (stamped 0 news) old.content ≡ asks → Leaves asks after old new None → IsMade after new
    of true is makes = record { found = makes.holds ∙ store.found; rests = makes.rest; content = makes.changes }
    of false is stays = record {
      found = stays.holds ∙ store.found;
      rests = stays_resting old new stays store.rests;
      content = stays.content ∙ sym (unasked g.opening g.number (stamped 0 news) g.past old.content is);
    }
