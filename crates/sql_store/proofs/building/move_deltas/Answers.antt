use Rattle.std.proofs.Common.{◌∙◌, Ok, Err}
use Rattle.std.proofs.lemmas.Result.{err_from_is_err_and}
use Rattle.sqlite.specs.Held.{state}
use Rattle.sql_store.proofs.Works.{works_then, works_ok, works_err}
use Rattle.stable_store.specs.declared.fault.StoreFault.{StoreFault}
use Rattle.sql_store.proofs.Looking.{clean_before}
use Rattle.sql_store.proofs.Schemas.{ran_last}
use Rattle.sql_store.proofs.TableTexts.{makes_deltas}
use Rattle.sql_store.proofs.building.move_deltas.Goals as goal

pub loop-top-init : goal.loop-top-init
loop-top-init g c =
    let first = state g.A.Store c.args.tx.now.conn.now in
    let mid = state g.A.Store c.run.new.tx.conn.now in
    record {
      same = c.run.ensures.same;
      works = works_ok first mid _ tt c.in_ok-run.ensures.works;
      made = ran_last {T = Unit {0}} {E = StoreFault} _ _ first mid (Ok tt) makes_deltas c.in_ok-run.ensures.ran;
    }

pub returns-in_err-run-clause-works : goal.returns-in_err-run-clause-works
returns-in_err-run-clause-works g c =
    let p = err_from_is_err_and c.from_residual.result c.from_residual.ensures.1 in
    works_err (state g.A.Store c.args.tx.now.conn.now) (state g.A.Store c.run.new.tx.conn.now) _ p.0 c.from_residual.result c.in_err-run.ensures.works p.1

pub loop-top-preserved : goal.loop-top-preserved
loop-top-preserved g c =
    let first = state g.A.Store c.args.tx.now.conn.now in
    let mid = state g.A.Store c.loop-top.tx.conn.now in
    let last = state g.A.Store c.move_parts.new.tx.conn.now in
    record {
      same = c.move_parts.ensures.same ∙ c.loop-top.invariant.same;
      works = works_ok first last _ tt (works_then first mid last tt (Ok _) c.loop-top.invariant.works c.in_ok-move_parts.ensures.works);
      made = λ clean has. c.in_ok-move_parts.ensures.lays_out clean (c.loop-top.invariant.made (clean_before mid last _ c.move_parts.ensures.works.survives clean) has);
    }

pub returns-in_err-move_parts-clause-works : goal.returns-in_err-move_parts-clause-works
returns-in_err-move_parts-clause-works g c =
    let first = state g.A.Store c.args.tx.now.conn.now in
    let mid = state g.A.Store c.loop-top.tx.conn.now in
    let last = state g.A.Store c.move_parts.new.tx.conn.now in
    let p = err_from_is_err_and c.from_residual-in_err-move_parts.result c.from_residual-in_err-move_parts.ensures.1 in
    works_err first last _ p.0 c.from_residual-in_err-move_parts.result (works_then first mid last tt (Err _) c.loop-top.invariant.works c.in_err-move_parts.ensures.works) p.1
