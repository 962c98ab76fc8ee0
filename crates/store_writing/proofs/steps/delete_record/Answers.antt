use Rattle.std.proofs.Common.{[], ◌∷◌, IsTrue, subst, arith}
use Rattle.sqlite.specs.Values.{bound_value}
use Rattle.sqlite.specs.State.{HasCleanDisk, ExecutesInside}
use Rattle.sqlite.specs.Held.{state}
use Rattle.store_writing.specs.Steps.{Steps}
use Rattle.store_writing.proofs.Inside.{steps, step_ok, step_err}
use Rattle.stable_store.specs.Stored.{after_discard}
use Rattle.store_writing.proofs.Runs.{discard_means}
use Rattle.store_tables.specs.Texts.{discard_text}
use Rattle.store_tables.proofs.Texts.{discard_command}
use Rattle.store_writing.proofs.steps.delete_record.Goals as goal

pub returns-in-Ok-clause-steps : goal.returns-in-Ok-clause-steps
returns-in-Ok-clause-steps g c k sees =
    let s = c.args.tx.now.conn.now in
    let t = c.execute.new.self.conn.now in
    let it : Steps (state g.A.Store s) (state g.A.Store t) (after_discard c.args.top k) c.execute.result =
    steps g.A.Store discard_text discard_command _ (after_discard c.args.top) _ (discard_means c.args.top) s t k (λ _ _. tt) sees
    (λ h. omega (arith, c.execute.ensures.survives.clean)) c.execute.result c.execute.ensures.ended
    (subst (λ v0. HasCleanDisk (state g.A.Store t) → IsTrue (state g.A.Store s).in_transaction → ExecutesInside 0 discard_text (bound_value v0 ∷ []) (state g.A.Store s) (state g.A.Store t) c.execute.result) c.number.ensures c.execute.ensures.runs) in
    step_ok (subst (Steps (state g.A.Store s) (state g.A.Store t) (after_discard c.args.top k)) c.in-Ok.is it)

pub returns-in-Err-clause-steps : goal.returns-in-Err-clause-steps
returns-in-Err-clause-steps g c k sees =
    let s = c.args.tx.now.conn.now in
    let t = c.execute.new.self.conn.now in
    let it : Steps (state g.A.Store s) (state g.A.Store t) (after_discard c.args.top k) c.execute.result =
    steps g.A.Store discard_text discard_command _ (after_discard c.args.top) _ (discard_means c.args.top) s t k (λ _ _. tt) sees
    (λ h. omega (arith, c.execute.ensures.survives.clean)) c.execute.result c.execute.ensures.ended
    (subst (λ v0. HasCleanDisk (state g.A.Store t) → IsTrue (state g.A.Store s).in_transaction → ExecutesInside 0 discard_text (bound_value v0 ∷ []) (state g.A.Store s) (state g.A.Store t) c.execute.result) c.number.ensures c.execute.ensures.runs) in
    step_err (subst (Steps (state g.A.Store s) (state g.A.Store t) (after_discard c.args.top k)) c.in-Err.is it)
