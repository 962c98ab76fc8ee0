-- What contracts see of a store in tables.
use Rattle.std.specs.Prelude.{ℕ, Bool, IsTrue, Option, Some, None, refl}
use Rattle.std.specs.Coded.{Coded, code_by, coded×, coded_ℕ, coded_bool}
use Rattle.sqlite_trees.specs.declared.store.Store.{Ghosts}
use Rattle.sqlite.specs.Tree.{Trees}
use Rattle.sqlite.specs.Held.{Held, held_code, state}
use Rattle.sqlite.specs.State.{HasCleanDisk}
use Rattle.stable_store.specs.declared.kept.Kept.{Kept}
use Rattle.stable_store.specs.contracts.kept.Kept as kept_contract
use Rattle.stable_store.specs.Stored.{Stored}
use Rattle.stable_store.specs.Held.{held}
use Rattle.stable_store.specs.Calls.{View}
use Rattle.store_tables.specs.Holds.{IsStore}

-- the content in maps, the connection, the failures, whether the schema is that of a store and nothing else, and
-- whether the tables held a content when the store was opened
pub record InTables (A : Type 0) : Type 0 where
  pub kept : Kept
  pub conn : Held A
  pub failures : ℕ
  pub is_known : Bool
  pub holds_content : Bool

abbrev pub in_tables_code : {A : Type 0} → Coded A → Coded (InTables A)
in_tables_code {A} store =
    code_by (Kept × (Held A × (ℕ × (Bool × Bool))))
    (coded× kept_contract.the_row.coded
    (coded× (held_code store) (coded× coded_ℕ (coded× coded_bool coded_bool))))
    (λ s. (s.kept, (s.conn, (s.failures, (s.is_known, s.holds_content)))))
    (λ p.
    record { kept = p.0; conn = p.1.0; failures = p.1.1.0; is_known = p.1.1.1.0; holds_content = p.1.1.1.1 })
    (λ _. refl)

-- what an opening finds in the trees that a stop left: the content that they hold, or none
abbrev pub Finds : Trees → Option Stored → Type 0
Finds db None = (c : Stored) → ¬ IsStore db c
Finds db (Some c) = IsStore db c

module _ {A : Type 0} (g : Ghosts A) where
  -- it is honest as long as the disk has returned what was written, where the schema is known
  abbrev pub sql_view : InTables A → View
  sql_view s = record {
    content = held s.kept;
    holds_content = s.holds_content;
    failures = s.failures;
    is_known = s.is_known;
    is_honest = HasCleanDisk (state g s.conn) × IsTrue s.is_known;
    is_up = IsTrue (state g s.conn).is_open × IsTrue s.holds_content;
    may_leave = λ left. (db : Trees) × (state g s.conn).may_leave db × Finds db left;
  }
