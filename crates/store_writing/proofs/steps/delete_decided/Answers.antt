use Rattle.std.proofs.Common.{subst, arith}
use Rattle.sqlite.specs.Held.{state}
use Rattle.store_writing.specs.Steps.{Steps}
use Rattle.store_writing.proofs.Inside.{steps, step_ok, step_err}
use Rattle.store_tables.specs.Changes.{with_none_decided}
use Rattle.store_writing.proofs.Runs.{forget_means}
use Rattle.store_tables.specs.Texts.{forget_text}
use Rattle.store_tables.proofs.Texts.{forget_command}
use Rattle.store_writing.proofs.steps.delete_decided.Goals as goal

pub returns-in-Ok-clause-steps : goal.returns-in-Ok-clause-steps
returns-in-Ok-clause-steps g c k sees =
    let s = c.args.tx.now.conn.now in
    let t = c.execute.new.self.conn.now in
    let it : Steps (state g.A.Store s) (state g.A.Store t) (with_none_decided k) c.execute.result =
    steps g.A.Store forget_text forget_command _ with_none_decided _ forget_means s t k (λ _ _. tt) sees
    (λ h. omega (arith, c.execute.ensures.survives.clean)) c.execute.result c.execute.ensures.ended
    c.execute.ensures.runs in
    step_ok (subst (Steps (state g.A.Store s) (state g.A.Store t) (with_none_decided k)) c.in-Ok.is it)

pub returns-in-Err-clause-steps : goal.returns-in-Err-clause-steps
returns-in-Err-clause-steps g c k sees =
    let s = c.args.tx.now.conn.now in
    let t = c.execute.new.self.conn.now in
    let it : Steps (state g.A.Store s) (state g.A.Store t) (with_none_decided k) c.execute.result =
    steps g.A.Store forget_text forget_command _ with_none_decided _ forget_means s t k (λ _ _. tt) sees
    (λ h. omega (arith, c.execute.ensures.survives.clean)) c.execute.result c.execute.ensures.ended
    c.execute.ensures.runs in
    step_err (subst (Steps (state g.A.Store s) (state g.A.Store t) (with_none_decided k)) c.in-Err.is it)
