-- Readings under any schema, and what is found out of it.
use Rattle.std.proofs.Common.{◌≡◌, Bool, false, Result, Ok, Err, IsTrue, refl, sym, subst, ◌∙◌}
use Rattle.sqlite.specs.State.{State, HasCleanDisk}
use Rattle.stable_store.specs.declared.fault.StoreFault.{StoreFault}
use Rattle.store_tables.specs.Tables.{stable_schema}
use Rattle.sql_store.specs.Reading.{StaysOut, Knows, IsAlone}

pub stays_self : {T : Type 0} (s : State) (x : T) → StaysOut s s (Ok x)
stays_self s x = record { clean = λ h. h; mode = λ m. m; schema = λ h. refl }

-- one reading after another
pub stays_then : {T U : Type 0} (a b d : State) (x : T) (r : Result U StoreFault) → StaysOut a b (Ok x) → StaysOut b d r → StaysOut a d r
stays_then a b d x (Ok y) first next =
    record { clean = λ h. first.clean (next.clean h); mode = λ m. next.mode (first.mode m); schema = λ h. next.schema h ∙ first.schema (next.clean h) }
stays_then a b d x (Err e) first next = record { clean = λ h. first.clean (next.clean h); mode = λ m. next.mode (first.mode m); schema = λ h. tt }

-- whatever is answered after it was read
pub stays_any : {T U : Type 0} (a b : State) (x : T) (r : Result U StoreFault) → StaysOut a b (Ok x) → StaysOut a b r
stays_any a b x (Ok y) h = record { clean = h.clean; mode = h.mode; schema = h.schema }
stays_any a b x (Err e) h = record { clean = h.clean; mode = h.mode; schema = λ _. tt }

-- what was not read
pub stays_err : {T U : Type 0} (a b : State) (r : Result T StoreFault) (e : StoreFault) (q : Result U StoreFault) → q ≡ Err e → StaysOut a b r → StaysOut a b q
stays_err {U = U} a b r e q is h = subst (StaysOut {T = U} a b) (sym is) (record { clean = h.clean; mode = h.mode; schema = λ _. tt })

-- what was looked up of the schema is so
pub knows_alone : (s : State) (known : Bool) → s.in_transaction ≡ false → (IsTrue known → IsAlone s)
    → (s.in_transaction ≡ false → s.now.schema ≡ stable_schema → IsTrue known) → Knows s known
knows_alone s known mode alone found clean up = (λ k. ((alone k).quiet up).schema, found mode)

-- and stays so where the schema stays
pub knows_still : {T : Type 0} (old new : State) (known : Bool) (x : T) → old.in_transaction ≡ false → (IsTrue known → IsAlone old)
    → (old.in_transaction ≡ false → old.now.schema ≡ stable_schema → IsTrue known) → (IsTrue known → HasCleanDisk new → IsTrue new.is_open → new.now.schema ≡ stable_schema)
    → StaysOut old new (Ok x) → Knows new known
knows_still old new known x mode alone found still stays clean up =
    (λ k. still k clean up, λ is. found mode (sym (stays.schema clean) ∙ is))
