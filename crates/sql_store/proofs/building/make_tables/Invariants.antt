use Rattle.std.proofs.Common.{◌≡◌, Ok}
use Rattle.sqlite.specs.Held.{state}
use Rattle.sqlite.specs.State.{HasCleanDisk}
use Rattle.stable_store.specs.declared.fault.StoreFault.{StoreFault}
use Rattle.store_tables.specs.Tables.{no_schema, first_schema}
use Rattle.sql_store.specs.Reading.{Works}
use Rattle.sql_store.proofs.Schemas.{MakesLeft}
use Rattle.sql_store.proofs.building.make_tables.Given as goal

-- the transaction goes on, and the texts that are left make the other tables
abbrev pub invariant-loop-text : goal.invariant-loop-text
invariant-loop-text g l = record {
  same : l.tx.conn.ghost_name ≡ l.fn.tx.conn.ghost_name;
  works : Works {T = Unit {0}} {E = StoreFault} (state g.A.Store l.fn.tx.conn.now) (state g.A.Store l.tx.conn.now) (Ok tt);
  made : HasCleanDisk (state g.A.Store l.tx.conn.now) → (state g.A.Store l.fn.tx.conn.now).now.schema ≡ no_schema
      → MakesLeft (state g.A.Store l.tx.conn.now).now.schema first_schema l.text-items l.text-index;
}
