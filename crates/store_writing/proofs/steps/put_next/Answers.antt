use Rattle.std.proofs.Common.{[], ◌∷◌, IsTrue, subst, arith, codes}
use Rattle.sqlite.specs.Values.{bound_value}
use Rattle.sqlite.specs.State.{HasCleanDisk, ExecutesInside}
use Rattle.sqlite.specs.Held.{state}
use Rattle.store_writing.specs.Steps.{Steps}
use Rattle.store_writing.proofs.Inside.{steps, step_ok, step_err}
use Rattle.store_tables.specs.Changes.{with_next}
use Rattle.store_writing.proofs.Runs.{next_means}
use Rattle.store_tables.specs.Texts.{next_text}
use Rattle.store_tables.proofs.Texts.{number_command}
use Rattle.store_writing.proofs.steps.put_next.Goals as goal

pub returns-in-Ok-clause-steps : goal.returns-in-Ok-clause-steps
returns-in-Ok-clause-steps g c k sees =
    let s = c.args.tx.now.conn.now in
    let t = c.execute.new.self.conn.now in
    let it : Steps (state g.A.Store s) (state g.A.Store t) (with_next c.args.next k) c.execute.result =
    steps g.A.Store next_text (number_command 3 (codes "next_top")) _ (with_next c.args.next) _ (next_means c.args.next (omega arith) (omega arith)) s t k (λ _ _. tt) sees
    (λ h. omega (arith, c.execute.ensures.survives.clean)) c.execute.result c.execute.ensures.ended
    (subst (λ v0. HasCleanDisk (state g.A.Store t) → IsTrue (state g.A.Store s).in_transaction → ExecutesInside 0 next_text (bound_value v0 ∷ []) (state g.A.Store s) (state g.A.Store t) c.execute.result) c.great_number.ensures c.execute.ensures.runs) in
    step_ok (subst (Steps (state g.A.Store s) (state g.A.Store t) (with_next c.args.next k)) c.in-Ok.is it)

pub returns-in-Err-clause-steps : goal.returns-in-Err-clause-steps
returns-in-Err-clause-steps g c k sees =
    let s = c.args.tx.now.conn.now in
    let t = c.execute.new.self.conn.now in
    let it : Steps (state g.A.Store s) (state g.A.Store t) (with_next c.args.next k) c.execute.result =
    steps g.A.Store next_text (number_command 3 (codes "next_top")) _ (with_next c.args.next) _ (next_means c.args.next (omega arith) (omega arith)) s t k (λ _ _. tt) sees
    (λ h. omega (arith, c.execute.ensures.survives.clean)) c.execute.result c.execute.ensures.ended
    (subst (λ v0. HasCleanDisk (state g.A.Store t) → IsTrue (state g.A.Store s).in_transaction → ExecutesInside 0 next_text (bound_value v0 ∷ []) (state g.A.Store s) (state g.A.Store t) c.execute.result) c.great_number.ensures c.execute.ensures.runs) in
    step_err (subst (Steps (state g.A.Store s) (state g.A.Store t) (with_next c.args.next k)) c.in-Err.is it)
