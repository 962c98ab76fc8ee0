use Rattle.std.proofs.Common.{ap, subst, ◌∙◌, arith}
use Rattle.sqlite.specs.Values.{bound}
use Rattle.sqlite.specs.Held.{state}
use Rattle.store_tables.specs.Changes.{with_base, all_put}
use Rattle.store_tables.specs.Texts.{base_run_text}
use Rattle.store_tables.proofs.Texts.{base_run_is, base_run_plain}
use Rattle.store_writing.specs.Steps.{Steps}
use Rattle.store_writing.proofs.Inside.{step_ok, step_err}
use Rattle.store_writing.proofs.Puts.{writes_parts}
use Rattle.store_writing.proofs.installing.install_run.Goals as goal

pub returns-in-Ok-execute-clause-steps : goal.returns-in-Ok-execute-clause-steps
returns-in-Ok-execute-clause-steps g c es k none texts sees =
    let s = c.args.tx.now.conn.now in
    let t = c.execute.new.self.conn.now in
    let it : Steps (state g.A.Store s) (state g.A.Store t) (with_base (all_put es k.base) k) c.execute.result =
    writes_parts g.A.Store s t (λ h. omega (arith, c.execute.ensures.survives.clean)) c.execute.result c.execute.ensures.ended base_run_text 16 c.args.parts.now c.requires.full
    (bound c.deref.result.now) base_run_plain c.execute.ensures.runs es texts k base_run_is none sees (ap bound c.deref.ensures.value ∙ c.in-Ok.ensures) in
    step_ok (subst (Steps (state g.A.Store s) (state g.A.Store t) (with_base (all_put es k.base) k)) c.in-Ok-execute.is it)

pub returns-clause-steps : goal.returns-clause-steps
returns-clause-steps g c es k none texts sees =
    let s = c.args.tx.now.conn.now in
    let t = c.execute.new.self.conn.now in
    let it : Steps (state g.A.Store s) (state g.A.Store t) (with_base (all_put es k.base) k) c.execute.result =
    writes_parts g.A.Store s t (λ h. omega (arith, c.execute.ensures.survives.clean)) c.execute.result c.execute.ensures.ended base_run_text 16 c.args.parts.now c.requires.full
    (bound c.deref.result.now) base_run_plain c.execute.ensures.runs es texts k base_run_is none sees (ap bound c.deref.ensures.value ∙ c.in-Ok.ensures) in
    step_err (subst (Steps (state g.A.Store s) (state g.A.Store t) (with_base (all_put es k.base) k)) c.in-Err.is it)
