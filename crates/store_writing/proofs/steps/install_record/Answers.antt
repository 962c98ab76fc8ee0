use Rattle.std.proofs.Common.{arith}
use Rattle.sqlite.specs.Held.{state}
use Rattle.stable_store.specs.Stored.{after_discard}
use Rattle.store_writing.proofs.Inside.{steps_then, step_err}
use Rattle.store_writing.proofs.steps.install_record.Goals as goal

pub returns-in-Ok-clause-steps : goal.returns-in-Ok-clause-steps
returns-in-Ok-clause-steps g c k above sees =
    let mid = state g.A.Store c.delete_record.new.tx.conn.now in
    let last = state g.A.Store c.put_base.new.tx.conn.now in
    let one = c.in-Ok.ensures.steps k sees in
    steps_then _ mid last (after_discard c.args.top k) _ _ c.put_base.result (λ h. omega (arith, c.put_base.ensures.survives.clean)) one
    (λ stays. c.put_base.ensures.steps (after_discard c.args.top k) (λ clean up. above (omega (arith, c.delete_record.ensures.survives.clean)) (one.ok clean).0) stays)

pub returns-in-Err-clause-steps : goal.returns-in-Err-clause-steps
returns-in-Err-clause-steps g c k above sees = step_err (c.in-Err.ensures.steps k sees)
