use Rattle.std.proofs.Common.{◌++◌, ap, subst, ◌∙◌, arith}
use Rattle.sqlite.specs.Values.{bound}
use Rattle.sqlite.specs.Held.{state}
use Rattle.store_tables.specs.Changes.{with_record}
use Rattle.store_tables.proofs.Tables.{InRange}
use Rattle.store_tables.specs.Texts.{value_run_text}
use Rattle.store_tables.proofs.Texts.{value_run_is, value_run_plain}
use Rattle.store_writing.specs.Steps.{Steps}
use Rattle.store_writing.proofs.Inside.{step_ok, step_err}
use Rattle.store_writing.proofs.Puts.{writes_values}
use Rattle.store_writing.proofs.preparing.put_run.Goals as goal

pub returns-in-Ok-execute-clause-steps : goal.returns-in-Ok-execute-clause-steps
returns-in-Ok-execute-clause-steps g c home before es k texts kinds none sorted sees =
    let s = c.args.tx.now.conn.now in
    let t = c.execute.new.self.conn.now in
    let fits : InRange c.args.top = (omega arith, omega arith) in
    let it : Steps (state g.A.Store s) (state g.A.Store t) (with_record c.args.top home (before ++ es) k) c.execute.result =
    writes_values g.A.Store s t (λ h. omega (arith, c.execute.ensures.survives.clean)) c.execute.result c.execute.ensures.ended value_run_text 16 c.args.values.now c.requires.full
    (bound c.deref.result.now) value_run_plain c.execute.ensures.runs es texts k c.args.top home before value_run_is (omega arith) fits kinds none sorted sees
    (ap bound c.deref.ensures.value ∙ c.in-Ok.ensures) in
    step_ok (subst (Steps (state g.A.Store s) (state g.A.Store t) (with_record c.args.top home (before ++ es) k)) c.in-Ok-execute.is it)

pub returns-clause-steps : goal.returns-clause-steps
returns-clause-steps g c home before es k texts kinds none sorted sees =
    let s = c.args.tx.now.conn.now in
    let t = c.execute.new.self.conn.now in
    let fits : InRange c.args.top = (omega arith, omega arith) in
    let it : Steps (state g.A.Store s) (state g.A.Store t) (with_record c.args.top home (before ++ es) k) c.execute.result =
    writes_values g.A.Store s t (λ h. omega (arith, c.execute.ensures.survives.clean)) c.execute.result c.execute.ensures.ended value_run_text 16 c.args.values.now c.requires.full
    (bound c.deref.result.now) value_run_plain c.execute.ensures.runs es texts k c.args.top home before value_run_is (omega arith) fits kinds none sorted sees
    (ap bound c.deref.ensures.value ∙ c.in-Ok.ensures) in
    step_err (subst (Steps (state g.A.Store s) (state g.A.Store t) (with_record c.args.top home (before ++ es) k)) c.in-Err.is it)
