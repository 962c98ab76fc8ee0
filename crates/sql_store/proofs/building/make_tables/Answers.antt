use Rattle.std.proofs.Common.{Ok, Err, refl, sym, subst, ◌∙◌}
use Rattle.std.proofs.lemmas.Result.{err_from_is_err_and}
use Rattle.sqlite.specs.Held.{state}
use Rattle.sql_store.proofs.Works.{works_none, works_then, works_ok, works_err}
use Rattle.store_tables.specs.Tables.{first_schema}
use Rattle.sql_store.proofs.Looking.{clean_before}
use Rattle.sql_store.proofs.Schemas.{MakeTables, next_made, all_made, ran_last}
use Rattle.sql_store.proofs.TableTexts.{first_texts, make_first, makes_deltas}
use Rattle.sql_store.proofs.building.make_tables.Goals as goal

pub loop-text-init : goal.loop-text-init
loop-text-init g c = record { same = refl; works = works_none (state g.A.Store c.args.tx.now.conn.now) tt; made = λ _ is. record { left = subst (λ s. MakeTables s first_texts first_schema) (sym is) make_first } }

pub loop-text-preserved : goal.loop-text-preserved
loop-text-preserved g c =
    let first = state g.A.Store c.args.tx.now.conn.now in
    let mid = state g.A.Store c.loop-text.tx.conn.now in
    let last = state g.A.Store c.run.new.tx.conn.now in
    record {
      same = c.run.ensures.same ∙ c.loop-text.invariant.same;
      works = works_ok first last c.in_ok-run.field-0 tt (works_then first mid last tt (Ok c.in_ok-run.field-0) c.loop-text.invariant.works c.in_ok-run.ensures.works);
      made = λ clean is.
          next_made _ mid last c.loop-text-test.true (c.loop-text.invariant.made (clean_before mid last _ c.run.ensures.works.survives clean) is) (c.in_ok-run.ensures.ran clean);
    }

pub returns-in_err-run-clause-works : goal.returns-in_err-run-clause-works
returns-in_err-run-clause-works g c =
    let first = state g.A.Store c.args.tx.now.conn.now in
    let mid = state g.A.Store c.loop-text.tx.conn.now in
    let last = state g.A.Store c.run.new.tx.conn.now in
    let p = err_from_is_err_and c.from_residual.result c.from_residual.ensures.1 in
    works_err first last (Err c.in_err-run.field-0.0) p.0 c.from_residual.result
    (works_then first mid last tt (Err c.in_err-run.field-0.0) c.loop-text.invariant.works c.in_err-run.ensures.works) p.1

pub returns-clause-works : goal.returns-clause-works
returns-clause-works g c =
    works_then (state g.A.Store c.args.tx.now.conn.now) (state g.A.Store c.loop-text.tx.conn.now) (state g.A.Store c.run-2.new.tx.conn.now) tt c.run-2.result
    c.loop-text.invariant.works c.run-2.ensures.works

pub returns-clause-lays_out : goal.returns-clause-lays_out
returns-clause-lays_out g c clean is =
    let mid = state g.A.Store c.loop-text.tx.conn.now in
    let last = state g.A.Store c.run-2.new.tx.conn.now in
    let made = c.loop-text.invariant.made (clean_before mid last _ c.run-2.ensures.works.survives clean) is in
    ran_last _ _ mid last c.run-2.result makes_deltas c.run-2.ensures.ran clean (all_made c.loop-text-test.false made)
