use Rattle.std.proofs.Common.{◌≡◌, false, Ok}
use Rattle.sqlite.specs.Held.{state}
use Rattle.sql_store.specs.Reading.{IsSettled, LooksUp}
use Rattle.sql_store.specs.Layouts.{presence_in}
use Rattle.sql_store.proofs.layout.presence_of_all.Given as goal

-- the database was only looked at, and has this of the first query
abbrev pub invariant-loop-other : goal.invariant-loop-other
invariant-loop-other g l = record {
  mode : (state g.A.Store l.fn.conn).in_transaction ≡ false → (state g.A.Store l.conn).in_transaction ≡ false;
  looks : IsSettled (state g.A.Store l.fn.conn)
      → LooksUp {T = Unit {0}} (state g.A.Store l.fn.conn) (state g.A.Store l.conn) (λ d _. l.first ≡ presence_in d.schema l.fn.query) (Ok tt);
}
