use Rattle.std.proofs.Common.{[], ◌∷◌, IsTrue, subst, subst₂, arith}
use Rattle.sqlite.specs.Values.{bound_value}
use Rattle.sqlite.specs.State.{HasCleanDisk, ExecutesInside}
use Rattle.sqlite.specs.Held.{state}
use Rattle.store_writing.specs.Steps.{Steps}
use Rattle.store_writing.proofs.Inside.{steps, step_ok, step_err}
use Rattle.store_tables.specs.Changes.{with_record}
use Rattle.store_writing.proofs.Runs.{record_means}
use Rattle.store_tables.proofs.Tables.{InRange}
use Rattle.store_tables.specs.Texts.{record_text}
use Rattle.store_tables.proofs.Texts.{record_command}
use Rattle.store_writing.proofs.steps.add_record.Goals as goal

pub returns-in-Ok-clause-steps : goal.returns-in-Ok-clause-steps
returns-in-Ok-clause-steps g c k none sees =
    let s = c.args.tx.now.conn.now in
    let t = c.execute.new.self.conn.now in
    let fits : InRange c.args.top = (omega arith, omega arith) in
    let home_fits : InRange c.args.home = (omega arith, omega arith) in
    let it : Steps (state g.A.Store s) (state g.A.Store t) (with_record c.args.top c.args.home [] k) c.execute.result =
    steps g.A.Store record_text record_command _ (with_record c.args.top c.args.home []) _ (record_means c.args.top c.args.home fits home_fits) s t k (λ _ _. none) sees
    (λ h. omega (arith, c.execute.ensures.survives.clean)) c.execute.result c.execute.ensures.ended
    (subst₂ (λ v0 v1. HasCleanDisk (state g.A.Store t) → IsTrue (state g.A.Store s).in_transaction → ExecutesInside 0 record_text (bound_value v0 ∷ bound_value v1 ∷ []) (state g.A.Store s) (state g.A.Store t) c.execute.result) c.number.ensures c.number-2.ensures c.execute.ensures.runs) in
    step_ok (subst (Steps (state g.A.Store s) (state g.A.Store t) (with_record c.args.top c.args.home [] k)) c.in-Ok.is it)

pub returns-in-Err-clause-steps : goal.returns-in-Err-clause-steps
returns-in-Err-clause-steps g c k none sees =
    let s = c.args.tx.now.conn.now in
    let t = c.execute.new.self.conn.now in
    let fits : InRange c.args.top = (omega arith, omega arith) in
    let home_fits : InRange c.args.home = (omega arith, omega arith) in
    let it : Steps (state g.A.Store s) (state g.A.Store t) (with_record c.args.top c.args.home [] k) c.execute.result =
    steps g.A.Store record_text record_command _ (with_record c.args.top c.args.home []) _ (record_means c.args.top c.args.home fits home_fits) s t k (λ _ _. none) sees
    (λ h. omega (arith, c.execute.ensures.survives.clean)) c.execute.result c.execute.ensures.ended
    (subst₂ (λ v0 v1. HasCleanDisk (state g.A.Store t) → IsTrue (state g.A.Store s).in_transaction → ExecutesInside 0 record_text (bound_value v0 ∷ bound_value v1 ∷ []) (state g.A.Store s) (state g.A.Store t) c.execute.result) c.number.ensures c.number-2.ensures c.execute.ensures.runs) in
    step_err (subst (Steps (state g.A.Store s) (state g.A.Store t) (with_record c.args.top c.args.home [] k)) c.in-Err.is it)
