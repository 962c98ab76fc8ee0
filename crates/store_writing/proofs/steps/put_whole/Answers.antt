use Rattle.std.proofs.Common.{[], arith}
use Rattle.sqlite.specs.Held.{state}
use Rattle.store_tables.specs.Changes.{with_record}
use Rattle.store_writing.proofs.Inside.{steps_then, step_err}
use Rattle.store_writing.proofs.steps.put_whole.Goals as goal

pub returns-in-Ok-clause-steps : goal.returns-in-Ok-clause-steps
returns-in-Ok-clause-steps g c k sees =
    let mid = state g.A.Store c.put_home.new.tx.conn.now in
    let last = state g.A.Store c.put_parts.new.tx.conn.now in
    steps_then _ mid last (with_record c.args.top c.args.whole.now.home [] k) _ _ c.put_parts.result (λ h. omega (arith, c.put_parts.ensures.survives.clean)) (c.in-Ok.ensures.steps k sees)
    (λ stays. c.put_parts.ensures.steps c.args.whole.now.home k stays)

pub returns-in-Err-clause-steps : goal.returns-in-Err-clause-steps
returns-in-Err-clause-steps g c k sees = step_err (c.in-Err.ensures.steps k sees)
