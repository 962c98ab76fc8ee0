-- What a call of a store makes, from what its statements made.
use Rattle.std.proofs.Common.{◌≡◌, ◌⊎◌, inl, inr, ℕ, Bool, Option, Some, None, Ok, Err, Result, IsTrue, true≢false, false}
use Rattle.std.proofs.Common.{sym, ap, subst, ◌∙◌}
use Rattle.sqlite_trees.specs.declared.store.Store.{Ghosts}
use Rattle.sqlite.specs.Tree.{Trees}
use Rattle.sqlite.specs.Effect.{Database}
use Rattle.sqlite.specs.Held.{Held, state}
use Rattle.sqlite.specs.State.{State, HasCleanDisk}
use Rattle.stable_store.specs.declared.kept.Kept.{Kept}
use Rattle.stable_store.specs.declared.fault.StoreFault.{StoreFault}
use Rattle.stable_store.specs.declared.fault.StoreFault.TheVariants.{Memory, Failed, NotOurs}
use Rattle.stable_store.specs.Stored.{Stored}
use Rattle.stable_store.specs.Held.{held}
use Rattle.stable_store.specs.Calls.{Makes, IsExcused, IsRefused}
use Rattle.store_tables.specs.Holds.{Tables, Holds, IsStore}
use Rattle.store_writing.specs.Steps.{IsAtRest, Stands, Carries}
use Rattle.sql_store.specs.Views.{InTables, sql_view, Finds}

-- a store over the device of these ghosts
abbrev pub Shelf : {A : Type 0} → Ghosts A → Type 0
Shelf {A} g = InTables A

abbrev pub shelf : {A : Type 0} (g : Ghosts A) → Kept → Held A → ℕ → Bool → Bool → Shelf g
shelf g kept conn failures is_known holds_content =
    record { kept = kept; conn = conn; failures = failures; is_known = is_known; holds_content = holds_content }

-- tables hold one content
abbrev pub OneContent : Type 0
OneContent = (first : ℕ) (tables : Tables) (c d : Stored) → Holds first tables c → Holds first tables d → c ≡ d

-- what is found of trees that hold a content
pub finds_it : OneContent → (db : Trees) (c : Stored) (left : Option Stored) → IsStore db c → Finds db left → left ≡ Some c
finds_it one db c None store none = absurd (none c store)
finds_it one db c (Some d) store found = ap (λ x. Some x) (one 1 _ d c found.holds store.holds)

module _ {A : Type 0} (g : Ghosts A) (one : OneContent) (law : (s : Held A) → IsTrue (state g s).is_open → (db : Trees) → (state g s).may_leave db → db ≡ (state g s).committed.trees) where
  -- what a stop leaves of a store that is at rest
  pub at_rest : (s : Held A) (c : Stored) → IsTrue (state g s).is_open → IsAtRest (state g s) c
      → (left : Option Stored) → ((db : Trees) × (state g s).may_leave db × Finds db left) → left ≡ Some c
  at_rest s c up rest left may =
      let same : may.0 ≡ (state g s).now.trees = law s up may.0 may.1 ∙ sym (ap (λ (b : Database). b.trees) rest.settled) in
      finds_it one may.0 c left (subst (λ t. IsStore t c) (sym same) rest.store) may.2

  module _ (s t : InTables A) (here : IsTrue s.holds_content) (known : t.is_known ≡ s.is_known) (holds : t.holds_content ≡ s.holds_content) (after : Stored) (stands : IsTrue s.is_known → Stands (state g s.conn) (held s.kept)) where
    there : IsTrue t.is_known → IsTrue s.is_known
    there k = sym known ∙ k

    stopped : {T : Type 0} (r : Result T StoreFault) → (IsTrue s.is_known → Carries (state g s.conn) (state g t.conn) (held s.kept) after r)
        → IsTrue t.is_known → HasCleanDisk (state g t.conn) → IsTrue (state g s.conn).is_open
        → (left : Option Stored) → ((db : Trees) × (state g t.conn).may_leave db × Finds db left) → (left ≡ Some (held s.kept)) ⊎ (left ≡ Some after)
    stopped r carries k clean up left may = elim ((carries (there k)).stop clean up may.0 may.1) [
      | inl before ↦ inl (finds_it one may.0 (held s.kept) left before may.2)
      | inr now ↦ inr (finds_it one may.0 after left now may.2)
    ]

    pub made_ok : {T : Type 0} (excuse : Type 0) (x : T) → (IsTrue s.is_known → Carries {T = T} {E = StoreFault} (state g s.conn) (state g t.conn) (held s.kept) after (Ok x)) → held t.kept ≡ after → t.failures ≡ s.failures
        → Makes {T = T} (sql_view g s) (sql_view g t) excuse after (Ok x)
    made_ok excuse x carries is counted = record {
      changes = is;
      cause = counted;
      known = known;
      holds = holds;
      none = λ e. absurd (true≢false (sym here ∙ e));
      honest = λ h. ((carries (there h.1)).clean h.0, there h.1);
      stop = λ h up left may. stopped (Ok x) carries h.known h.honest.0 up.0 left may;
      rest = λ h up left may. at_rest t.conn after up.0 ((carries (there h.known)).ok h.honest.0).2 left may ∙ ap (λ c. Some c) (sym is);
      stands = λ h. let o = (carries (there h.known)).ok h.honest.0 in ((o.0, here), (o.1, holds ∙ here));
    }

    pub made_err : {T : Type 0} (excuse : Type 0) (fault f : StoreFault) → (IsTrue s.is_known → Carries {T = T} {E = StoreFault} (state g s.conn) (state g t.conn) (held s.kept) after (Err fault)) → held t.kept ≡ held s.kept
        → IsExcused excuse s.failures t.failures f
        → Makes {T = T} (sql_view g s) (sql_view g t) excuse after (Err f)
    made_err excuse fault f carries is counted = record {
      changes = is;
      cause = counted;
      known = known;
      holds = holds;
      none = λ e. absurd (true≢false (sym here ∙ e));
      honest = λ h. ((carries (there h.1)).clean h.0, there h.1);
      stop = λ h up left may. stopped (Err fault) carries h.known h.honest.0 up.0 left may;
      rest = λ h up left may. at_rest t.conn (held s.kept) up.0 ((carries (there h.known)).err h.honest.0 up.0) left may ∙ ap (λ c. Some c) (sym is);
      stands = tt;
    }

  -- a call that is refused before anything is done
  module _ (s t : InTables A) (known : t.is_known ≡ s.is_known) (holds : t.holds_content ≡ s.holds_content) (conn : t.conn ≡ s.conn) (kept : t.kept ≡ s.kept) (after : Stored) (stands : IsTrue s.is_known → IsTrue s.holds_content → Stands (state g s.conn) (held s.kept)) where
    rests_still : IsTrue t.is_known → HasCleanDisk (state g t.conn) → IsTrue (state g t.conn).is_open → IsTrue t.holds_content
        → (left : Option Stored) → ((db : Trees) × (state g t.conn).may_leave db × Finds db left) → left ≡ Some (held t.kept)
    rests_still k clean up here left may =
        at_rest t.conn (held t.kept) up
        (subst (λ c. IsAtRest (state g t.conn) (held c)) (sym kept) (subst (λ h. HasCleanDisk (state g h) → IsTrue (state g h).is_open → IsAtRest (state g h) (held s.kept)) (sym conn) (stands (sym known ∙ k) (sym holds ∙ here)) clean up))
        left may

    pub untouched : {T : Type 0} (excuse : Type 0) (f : StoreFault) → IsExcused excuse s.failures t.failures f → (s.holds_content ≡ false → IsRefused {T = T} (Err f))
        → Makes {T = T} (sql_view g s) (sql_view g t) excuse after (Err f)
    untouched excuse f counted refused = record {
      changes = ap held kept;
      cause = counted;
      known = known;
      holds = holds;
      none = refused;
      honest = λ h. (subst (λ c. HasCleanDisk (state g c)) conn h.0, sym known ∙ h.1);
      stop = λ h up left may. inl (rests_still h.known h.honest.0 (subst (λ c. IsTrue (state g c).is_open) (sym conn) up.0) (holds ∙ up.1) left may ∙ ap (λ k. Some (held k)) kept);
      rest = λ h up left may. rests_still h.known h.honest.0 up.0 up.1 left may;
      stands = tt;
    }

-- how a call ended, in other words
pub as_ok : {T U E F : Type 0} {old new : State} {before after : Stored} {x : T} {y : U} → Carries {T = T} {E = E} old new before after (Ok x) → Carries {T = U} {E = F} old new before after (Ok y)
as_ok h = record { clean = h.clean; ok = h.ok; err = tt; stop = h.stop }

pub as_err : {T U E F : Type 0} {old new : State} {before after : Stored} {e : E} {f : F} → Carries {T = T} {E = E} old new before after (Err e) → Carries {T = U} {E = F} old new before after (Err f)
as_err h = record { clean = h.clean; ok = λ _. tt; err = h.err; stop = h.stop }

-- a fault that is excused by less
pub excused_more : (P Q : Type 0) → (P → Q) → (m n : ℕ) (f : StoreFault) → IsExcused P m n f → IsExcused Q m n f
excused_more P Q leads m n Memory h = h
excused_more P Q leads m n Failed h = (leads h.0, h.1)
excused_more P Q leads m n NotOurs h = h

-- what was told is what was counted
pub excused_as : (P : Type 0) (m n : ℕ) (f k : StoreFault) → k ≡ f → IsExcused P m n f → IsExcused P m n k
excused_as P m n f k same h = subst (IsExcused P m n) (sym same) h
