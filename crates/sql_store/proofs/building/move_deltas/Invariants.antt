use Rattle.std.proofs.Common.{◌≡◌, Ok}
use Rattle.sqlite.specs.Held.{state}
use Rattle.sqlite.specs.State.{HasCleanDisk}
use Rattle.stable_store.specs.declared.fault.StoreFault.{StoreFault}
use Rattle.store_tables.specs.Tables.{first_schema, stable_schema}
use Rattle.sql_store.specs.Reading.{Works}
use Rattle.sql_store.proofs.building.move_deltas.Given as goal

-- the transaction goes on, and the schema is that of a store
abbrev pub invariant-loop-top : goal.invariant-loop-top
invariant-loop-top g l = record {
  same : l.tx.conn.ghost_name ≡ l.fn.tx.conn.ghost_name;
  works : Works {T = Unit {0}} {E = StoreFault} (state g.A.Store l.fn.tx.conn.now) (state g.A.Store l.tx.conn.now) (Ok tt);
  made : HasCleanDisk (state g.A.Store l.tx.conn.now) → (state g.A.Store l.fn.tx.conn.now).now.schema ≡ first_schema
      → (state g.A.Store l.tx.conn.now).now.schema ≡ stable_schema;
}
