use Rattle.std.proofs.Common.{map, take, Ok}
use Rattle.sqlite.specs.Schema.{Schema}
use Rattle.sqlite.specs.Held.{state}
use Rattle.store_tables.specs.Answered.{rows_of}
use Rattle.sql_store.specs.Reading.{AreQueriesOf, QuietsWith, StaysOut}
use Rattle.sql_store.specs.Failing.{KeepsTrack}
use Rattle.sql_store.proofs.Asked.{Asked}
use Rattle.sql_store.proofs.asking.answers.Given as goal

-- the queries so far were answered
abbrev pub invariant-loop-query : goal.invariant-loop-query
invariant-loop-query g l = record {
  asked : (tables : Schema) → AreQueriesOf tables (map (λ q. q.now) l.queries) → QuietsWith tables (state g.A.Store l.fn.conn)
      → Asked tables g.A.Store l.fn.conn (map (λ q. q.now) (take l.query-index l.queries)) l.conn (rows_of l.answers.items);
  outside : StaysOut {T = Unit {0}} (state g.A.Store l.fn.conn) (state g.A.Store l.conn) (Ok tt);
  track : KeepsTrack (state g.A.Store l.fn.conn) (state g.A.Store l.conn);
}
