-- What a stop within an opening leaves.
use Rattle.std.proofs.Common.{inl, inr, Result, Ok}
use Rattle.sqlite.specs.Effect.{Database}
use Rattle.sqlite.specs.State.{State, HasCleanDisk}
use Rattle.stable_store.specs.Stored.{Stored}
use Rattle.stable_store.specs.declared.fault.StoreFault.{StoreFault}
use Rattle.sql_store.specs.Reading.{LooksUp, StopLeaves}

-- nothing was done
pub stop_none : (s : State) (c : Stored) → StopLeaves s s c
stop_none s c clean up db may = inl may

-- a look
pub stop_looked : {T : Type 0} (a b : State) (P : Database → T → Type 0) (r : Result T StoreFault) (c : Stored) → LooksUp a b P r → StopLeaves a b c
stop_looked a b P r c looked clean up db may = inl (looked.leaves clean up db may)

-- a look, and then what may make a store
pub stop_after : {T : Type 0} (a b d : State) (P : Database → T → Type 0) (x : T) (c : Stored) → LooksUp a b P (Ok x) → (HasCleanDisk d → HasCleanDisk b)
    → StopLeaves b d c → StopLeaves a d c
stop_after a b d P x c looked before next clean up db may =
    let was = before clean in
    elim (next clean (looked.ok was).0.is_open db may) [ inl left ↦ inl (looked.leaves was up db left) | inr made ↦ inr made ]
