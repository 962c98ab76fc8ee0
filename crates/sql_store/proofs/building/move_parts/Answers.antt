use Rattle.std.proofs.Common.{refl, ◌∙◌, Ok, Err}
use Rattle.std.proofs.lemmas.Result.{err_from_is_err_and}
use Rattle.sqlite.specs.Held.{state}
use Rattle.sql_store.proofs.Works.{works_none, works_then, works_ok, works_err}
use Rattle.sql_store.proofs.Looking.{clean_before}
use Rattle.sql_store.proofs.building.move_parts.Goals as goal

pub loop-object-init : goal.loop-object-init
loop-object-init g c = record { same = refl; works = works_none (state g.A.Store c.args.tx.now.conn.now) tt; made = λ _ has. has }

pub loop-object-preserved : goal.loop-object-preserved
loop-object-preserved g c =
    let first = state g.A.Store c.args.tx.now.conn.now in
    let mid = state g.A.Store c.loop-object.tx.conn.now in
    let last = state g.A.Store c.move_part.new.tx.conn.now in
    record {
      same = c.move_part.ensures.same ∙ c.loop-object.invariant.same;
      works = works_ok first last _ tt (works_then first mid last tt (Ok _) c.loop-object.invariant.works c.in_ok-move_part.ensures.works);
      made = λ clean has. c.in_ok-move_part.ensures.lays_out clean (c.loop-object.invariant.made (clean_before mid last _ c.move_part.ensures.works.survives clean) has);
    }

pub returns-in_err-move_part-clause-works : goal.returns-in_err-move_part-clause-works
returns-in_err-move_part-clause-works g c =
    let first = state g.A.Store c.args.tx.now.conn.now in
    let mid = state g.A.Store c.loop-object.tx.conn.now in
    let last = state g.A.Store c.move_part.new.tx.conn.now in
    let p = err_from_is_err_and c.from_residual.result c.from_residual.ensures.1 in
    works_err first last _ p.0 c.from_residual.result (works_then first mid last tt (Err _) c.loop-object.invariant.works c.in_err-move_part.ensures.works) p.1
