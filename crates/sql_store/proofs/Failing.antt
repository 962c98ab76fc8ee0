-- Faults that are failures of the store.
use Rattle.std.proofs.Common.{◌≡◌, inl, ℕ, ◌<◌, arith, List, ◌∷◌, ◌++◌, map, length, get_or, Result, Ok, Err, IsErrAnd, Bor, refl, sym, ap, ◌∙◌}
use Rattle.std.specs.Prelude.{◌≢◌, IfErr}
use Rattle.sqlite.specs.Held.{Held, state}
use Rattle.sqlite.specs.State.{State}
use Rattle.sqlite_trees.specs.declared.store.Store.{Ghosts}
use Rattle.sqlite_rules.proofs.ListLemmas.{has_left, has_right}
use Rattle.sqlite_rules.proofs.ProbeLemmas.{mapped_has}
use Rattle.stable_store.specs.declared.fault.StoreFault.{StoreFault}
use Rattle.stable_store.specs.declared.fault.StoreFault.TheVariants.{Memory, Failed}
use Rattle.store_tables.proofs.Counts.{has_item}
use Rattle.sql_store.specs.Reading.{StaysOut}
use Rattle.sql_store.specs.Failing.{KeepsTrack, HasFailed, OneFailed}
use Rattle.sql_store.proofs.Outside.{stays_self, stays_then}

-- ---- faults that are handed on

pub failed_by : {T U : Type 0} (r : Result T StoreFault) (e : StoreFault) → IsErrAnd r (λ f. f ≡ e) → r ≡ Err Failed
    → ◌≡◌ {A = Result U StoreFault} (Err e) (Err Failed)
failed_by (Ok x) e h is = absurd h
failed_by (Err f) e h is = let same : f ≡ Failed = cc in ap Err (sym h ∙ same)

pub no_failure : {T : Type 0} (r : Result T StoreFault) → IfErr r (λ f. f ≢ Failed) → r ≡ Err Failed → ⊥
no_failure (Ok x) other is = absurd (cc)
no_failure (Err f) other is = let same : f ≡ Failed = cc in other same

pub lacks_memory : {T : Type 0} (r : Result T StoreFault) → IsErrAnd r (λ f. f ≡ Memory) → r ≡ Err Failed → ⊥
lacks_memory (Ok x) h is = absurd h
lacks_memory (Err f) h is = let same : f ≡ Failed = cc in absurd (let e : Memory ≡ Failed = sym h ∙ same in cc)

-- ---- queries one after another

pub tracks_self : (s : State) → KeepsTrack s s
tracks_self s = record { counts = omega (arith); limit = refl }

pub tracks_then : (a b d : State) → KeepsTrack a b → KeepsTrack b d → KeepsTrack a d
tracks_then a b d first next = record { counts = omega (arith, first.counts, next.counts); limit = next.limit ∙ first.limit }

module _ {A : Type 0} (at : Ghosts A) where
  -- the first query failed
  pub first_failed : (sql : List ℕ) (more : List (List ℕ)) (old : Held A) (new : State) → HasFailed sql (state at old) new → OneFailed at (sql ∷ more) (state at old) new
  first_failed sql more old new h =
      record { sql = sql; asked = inl refl; mid = old; out = stays_self (state at old) tt; track = tracks_self (state at old); failed = h }

  -- the query at this place failed
  pub failed_at : (qs : List (Bor (List ℕ))) (i : ℕ) (d : Bor (List ℕ)) → i < length qs → (old : State) (mid : Held A) (new : State)
      → StaysOut {T = Unit {0}} old (state at mid) (Ok tt) → KeepsTrack old (state at mid) → HasFailed (get_or qs i d).now (state at mid) new
      → OneFailed at (map (λ (q : Bor (List ℕ)). q.now) qs) old new
  failed_at qs i d low old mid new out track h = record {
    sql = (get_or qs i d).now;
    asked = mapped_has (λ (q : Bor (List ℕ)). q.now) qs (get_or qs i d) (has_item qs i (get_or qs i d) d low refl);
    mid = mid;
    out = out;
    track = track;
    failed = h;
  }

  -- one of the queries failed, or one of the further
  pub failed_early : (qs more : List (List ℕ)) (old new : State) → OneFailed at qs old new → OneFailed at (qs ++ more) old new
  failed_early qs more old new h =
      record { sql = h.sql; asked = has_left qs more h.sql h.asked; mid = h.mid; out = h.out; track = h.track; failed = h.failed }

  pub failed_later : {T : Type 0} (qs more : List (List ℕ)) (a b d : State) (x : T) → StaysOut a b (Ok x) → KeepsTrack a b → OneFailed at more b d
      → OneFailed at (qs ++ more) a d
  failed_later qs more a b d x out track h = record {
    sql = h.sql;
    asked = has_right qs more h.sql h.asked;
    mid = h.mid;
    out = stays_then a b (state at h.mid) x (Ok tt) out h.out;
    track = tracks_then a b (state at h.mid) track h.track;
    failed = h.failed;
  }
