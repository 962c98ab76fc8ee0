use Rattle.std.proofs.lemmas.Result.{err_from_is_err_and}
use Rattle.sqlite.specs.Held.{state}
use Rattle.sql_store.proofs.Works.{works_then, works_err}
use Rattle.std.proofs.Common.{Ok}
use Rattle.stable_store.specs.declared.fault.StoreFault.{StoreFault}
use Rattle.sql_store.specs.declared.layout.Layout.TheVariants.{Second}
use Rattle.sql_store.proofs.Looking.{clean_before}
use Rattle.sql_store.proofs.Schemas.{ran_rows, then_laid}
use Rattle.sql_store.proofs.TableTexts.{takes_value, puts_delta}
use Rattle.sql_store.proofs.building.move_delta.Goals as goal

pub returns-in_err-run-clause-works : goal.returns-in_err-run-clause-works
returns-in_err-run-clause-works g c =
    let p = err_from_is_err_and c.from_residual.result c.from_residual.ensures.1 in
    works_err (state g.A.Store c.args.tx.now.conn.now) (state g.A.Store c.run.new.tx.conn.now) _ p.0 c.from_residual.result c.in_err-run.ensures.works p.1

pub returns-clause-works : goal.returns-clause-works
returns-clause-works g c =
    works_then (state g.A.Store c.args.tx.now.conn.now) (state g.A.Store c.run.new.tx.conn.now) (state g.A.Store c.run-2.new.tx.conn.now) _ c.run-2.result
    c.in_ok-run.ensures.works c.run-2.ensures.works

pub returns-clause-lays_out : goal.returns-clause-lays_out
returns-clause-lays_out g c =
    let first = state g.A.Store c.args.tx.now.conn.now in
    let mid = state g.A.Store c.run.new.tx.conn.now in
    let last = state g.A.Store c.run-2.new.tx.conn.now in
    then_laid Second first mid last c.run-2.result (clean_before mid last _ c.run-2.ensures.works.survives)
    (ran_rows {T = Unit {0}} {E = StoreFault} _ _ first mid (Ok tt) takes_value c.in_ok-run.ensures.ran)
    (ran_rows _ _ mid last c.run-2.result puts_delta c.run-2.ensures.ran)
