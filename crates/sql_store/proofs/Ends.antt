-- What a transaction that lays tables out leaves.
use Rattle.std.proofs.Common.{◌≡◌, inl, inr, false, Result, Ok, Err, IsTrue, ℕ, List, sym}
use Rattle.std.proofs.Common.{subst}
use Rattle.std.proofs.lemmas.Bool.{cases_Bool}
use Rattle.sqlite_trees.specs.declared.store.Store.{Ghosts}
use Rattle.sqlite.specs.Held.{Held, state}
use Rattle.sqlite.specs.Order.{Row}
use Rattle.sqlite.specs.State.{State, KeepsCommit, IsRolledBack, ExecutesInside, IsUnchanged}
use Rattle.sqlite.specs.declared.error.Error.{Error}
use Rattle.sqlite.specs.declared.error.Error.TheVariants.{SqliteFailure}
use Rattle.sqlite.specs.declared.error.ErrorCode.TheVariants.{TransactionState}
use Rattle.sql_store.specs.Reading.{RunsInside}
use Rattle.store_writing.proofs.Inside.{keeps_same}

pub unchanged : (old new : State) → IsUnchanged old new → KeepsCommit old new
unchanged old new h = record { was_open = λ _. h.0.was_open; committed = λ _. h.0.committed_is }

pub undone : (old new : State) → IsRolledBack old new → KeepsCommit old new
undone old new h = record { was_open = h.was_open; committed = λ up. (h.undone up).1 }

-- one statement
module _ {S : Type 0} (g : Ghosts S) (text : List ℕ) (params : Row) (s t : Held S) where
  pub ran_ok : {T E : Type 0} (count : ℕ) (x : T) → ((state g s).in_transaction ≡ false → (◌≡◌ {A = Result ℕ Error} (Ok count) (Err (SqliteFailure TransactionState))) × (t ≡ s))
      → (IsTrue (state g s).in_transaction → ExecutesInside 0 text params (state g s) (state g t) (Ok count))
      → RunsInside {T = T} {E = E} (state g s) (state g t) (Ok x)
  ran_ok count x ended runs =
      let it : ExecutesInside 0 text params (state g s) (state g t) (Ok count) =
      elim (cases_Bool (state g s).in_transaction) [ inl within ↦ runs within | inr none ↦ absurd (let e = (ended none).0 in cc) ] in
      record { kept = record { was_open = λ _. it.1.was_open; committed = λ _. it.1.committed_is }; within = λ _. it.1.mode }

  pub ran_err : {T E : Type 0} (e : Error) (d : E) → ((state g s).in_transaction ≡ false → (◌≡◌ {A = Result ℕ Error} (Err e) (Err (SqliteFailure TransactionState))) × (t ≡ s))
      → (IsTrue (state g s).in_transaction → ExecutesInside 0 text params (state g s) (state g t) (Err e))
      → RunsInside {T = T} {E = E} (state g s) (state g t) (Err d)
  ran_err e d ended runs = record {
    kept = elim (cases_Bool (state g s).in_transaction) [
      | inl within ↦ elim (runs within) [
        | inl ran ↦ elim ran.1 [ inl same ↦ unchanged _ _ same | inr back ↦ undone _ _ back ]
        | inr late ↦ unchanged _ _ late.2
      ]
      | inr none ↦ subst (λ x. KeepsCommit (state g s) (state g x)) (sym (ended none).1) (keeps_same (state g s))
    ];
    within = λ _. tt;
  }
