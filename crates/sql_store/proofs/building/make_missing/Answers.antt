use Rattle.sqlite.specs.Held.{state}
use Rattle.sql_store.proofs.Works.{works_none}
use Rattle.std.proofs.Common.{sym, subst}
use Rattle.sql_store.specs.Schemas.{LaysOut}
use Rattle.sql_store.proofs.building.make_missing.Goals as goal

pub returns-in-Second-clause-works : goal.returns-in-Second-clause-works
returns-in-Second-clause-works g c = works_none (state g.A.Store c.args.tx.now.conn.now) tt

pub returns-in-Nothing-clause-lays_out : goal.returns-in-Nothing-clause-lays_out
returns-in-Nothing-clause-lays_out g c =
    let first = state g.A.Store c.args.tx.now.conn.now in
    let last = state g.A.Store c.make_tables.new.tx.conn.now in
    subst (λ l. LaysOut l first last c.make_tables.result) (sym c.in-Nothing.is) c.make_tables.ensures.lays_out

pub returns-in-First-clause-lays_out : goal.returns-in-First-clause-lays_out
returns-in-First-clause-lays_out g c =
    let first = state g.A.Store c.args.tx.now.conn.now in
    let last = state g.A.Store c.move_deltas.new.tx.conn.now in
    subst (λ l. LaysOut l first last c.move_deltas.result) (sym c.in-First.is) c.move_deltas.ensures.lays_out
