use Rattle.sqlite.specs.Held.{state}
use Rattle.sql_store.proofs.Looking.{looked, unlooked, shown_schema}
use Rattle.sql_store.proofs.building.answer.Goals as goal

pub returns-in-Ok-clause-looks : goal.returns-in-Ok-clause-looks
returns-in-Ok-clause-looks g c clean within text =
    let old = state g.A.Store c.args.tx.now.conn.now in
    let new = state g.A.Store c.query_all.new.self.conn.now in
    looked c.args.query.now old new c.in-Ok.rows.items _ c.in-Ok.rows within text (c.in-Ok.ensures.ok clean) (λ h. h)

pub returns-in-Err-clause-looks : goal.returns-in-Err-clause-looks
returns-in-Err-clause-looks g c clean within text =
    let old = state g.A.Store c.args.tx.now.conn.now in
    let new = state g.A.Store c.query_all.new.self.conn.now in
    unlooked c.args.query.now old new c.in-Err.error _ _ (c.in-Err.ensures.err clean)

pub returns-in-Ok-clause-schema : goal.returns-in-Ok-clause-schema
returns-in-Ok-clause-schema g c clean =
    let old = state g.A.Store c.args.tx.now.conn.now in
    let new = state g.A.Store c.query_all.new.self.conn.now in
    shown_schema c.args.query.now old new c.in-Ok.rows.items (c.in-Ok.ensures.ok clean)
