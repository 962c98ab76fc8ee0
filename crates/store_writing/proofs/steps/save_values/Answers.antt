use Rattle.std.proofs.Common.{arith}
use Rattle.sqlite.specs.Held.{state}
use Rattle.store_tables.specs.Changes.{with_none_decided}
use Rattle.store_writing.proofs.Inside.{steps_then, step_err}
use Rattle.store_writing.proofs.steps.save_values.Goals as goal

pub returns-in-Ok-clause-steps : goal.returns-in-Ok-clause-steps
returns-in-Ok-clause-steps g c k above sees =
    let mid = state g.A.Store c.delete_decided.new.tx.conn.now in
    let last = state g.A.Store c.put_base.new.tx.conn.now in
    let one = c.in-Ok.ensures.steps k sees in
    steps_then _ mid last (with_none_decided k) _ _ c.put_base.result (λ h. omega (arith, c.put_base.ensures.survives.clean)) one
    (λ stays. c.put_base.ensures.steps (with_none_decided k) (λ clean up. above (omega (arith, c.delete_decided.ensures.survives.clean)) (one.ok clean).0) stays)

pub returns-in-Err-clause-steps : goal.returns-in-Err-clause-steps
returns-in-Err-clause-steps g c k above sees = step_err (c.in-Err.ensures.steps k sees)
