use Rattle.std.proofs.lemmas.Result.{err_from_is_err_and}
use Rattle.sqlite.specs.Held.{state}
use Rattle.sql_store.proofs.Works.{works_then, works_err}
use Rattle.sql_store.proofs.Looking.{clean_before}
use Rattle.sql_store.proofs.Schemas.{then_laid, then_sound}
use Rattle.sql_store.proofs.building.write_tables.Goals as goal

pub returns-in_err-make_missing-clause-works : goal.returns-in_err-make_missing-clause-works
returns-in_err-make_missing-clause-works g c =
    let p = err_from_is_err_and c.from_residual.result c.from_residual.ensures.1 in
    works_err (state g.A.Store c.args.tx.now.conn.now) (state g.A.Store c.make_missing.new.tx.conn.now) _ p.0 c.from_residual.result c.in_err-make_missing.ensures.works p.1

pub returns-clause-works : goal.returns-clause-works
returns-clause-works g c =
    works_then (state g.A.Store c.args.tx.now.conn.now) (state g.A.Store c.make_missing.new.tx.conn.now) (state g.A.Store c.put_numbers.new.tx.conn.now) _ c.put_numbers.result
    c.in_ok-make_missing.ensures.works c.put_numbers.ensures.works

pub returns-clause-lays_out : goal.returns-clause-lays_out
returns-clause-lays_out g c =
    let first = state g.A.Store c.args.tx.now.conn.now in
    let mid = state g.A.Store c.make_missing.new.tx.conn.now in
    let last = state g.A.Store c.put_numbers.new.tx.conn.now in
    then_laid c.args.layout first mid last c.put_numbers.result (clean_before mid last _ c.put_numbers.ensures.works.survives) c.in_ok-make_missing.ensures.lays_out
    c.put_numbers.ensures.lays_out

pub returns-clause-sound : goal.returns-clause-sound
returns-clause-sound g c =
    let first = state g.A.Store c.args.tx.now.conn.now in
    let mid = state g.A.Store c.make_missing.new.tx.conn.now in
    let last = state g.A.Store c.put_numbers.new.tx.conn.now in
    then_sound c.args.layout first mid last c.put_numbers.result (clean_before mid last _ c.put_numbers.ensures.works.survives) c.in_ok-make_missing.ensures.lays_out
    c.put_numbers.ensures.sound
