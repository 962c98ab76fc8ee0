use Rattle.std.proofs.Common.{◌≡◌, map, take, Ok, IsTrue}
use Rattle.sqlite.specs.Held.{state}
use Rattle.sqlite.specs.State.{HasCleanDisk, Survives}
use Rattle.stable_store.specs.declared.fault.StoreFault.{StoreFault}
use Rattle.store_tables.specs.Answered.{rows_of}
use Rattle.sql_store.specs.Reading.{AreQueryTexts, AreAnswered, Looks}
use Rattle.sql_store.proofs.building.answers.Given as goal

-- the queries so far were answered, and left the schema
abbrev pub invariant-loop-query : goal.invariant-loop-query
invariant-loop-query g l = record {
  same : l.tx.conn.ghost_name ≡ l.fn.tx.conn.ghost_name;
  survives : Survives (state g.A.Store l.fn.tx.conn.now) (state g.A.Store l.tx.conn.now) (λ _. ⊥);
  schema : HasCleanDisk (state g.A.Store l.tx.conn.now) → (state g.A.Store l.tx.conn.now).now.schema ≡ (state g.A.Store l.fn.tx.conn.now).now.schema;
  looks : HasCleanDisk (state g.A.Store l.tx.conn.now) → IsTrue (state g.A.Store l.fn.tx.conn.now).in_transaction → AreQueryTexts (map (λ q. q.now) l.queries)
      → Looks {T = Unit {0}} {E = StoreFault} (state g.A.Store l.fn.tx.conn.now) (state g.A.Store l.tx.conn.now)
      (λ _. AreAnswered (state g.A.Store l.fn.tx.conn.now).now (map (λ q. q.now) (take l.query-index l.queries)) (rows_of l.answers.items)) (Ok tt);
}
