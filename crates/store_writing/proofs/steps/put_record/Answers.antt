use Rattle.std.proofs.Common.{arith, max, ◌+◌, ap, sym}
use Rattle.sqlite.specs.Held.{state}
use Rattle.store_tables.specs.Changes.{with_record, with_next}
use Rattle.store_writing.proofs.Inside.{steps_then, steps_as, step_err}
use Rattle.store_writing.proofs.steps.put_record.Goals as goal

pub returns-in-Ok-clause-steps : goal.returns-in-Ok-clause-steps
returns-in-Ok-clause-steps g c k next sees =
    let mid = state g.A.Store c.put_whole.new.tx.conn.now in
    let last = state g.A.Store c.raise_next.new.tx.conn.now in
    let whole = with_record c.args.top c.args.whole.now.home c.args.whole.now.parts.entries k in
    steps_as _ last _ _ c.raise_next.result (ap (λ n. with_next (max n (c.args.top + 1)) whole) (sym next))
    (steps_then _ mid last whole _ _ c.raise_next.result (λ h. omega (arith, c.raise_next.ensures.survives.clean)) (c.in-Ok.ensures.steps k sees)
    (λ stays. c.raise_next.ensures.steps whole next stays))

pub returns-in-Err-clause-steps : goal.returns-in-Err-clause-steps
returns-in-Err-clause-steps g c k next sees = step_err (c.in-Err.ensures.steps k sees)
