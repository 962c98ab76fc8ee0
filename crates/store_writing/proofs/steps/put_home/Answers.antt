use Rattle.std.proofs.Common.{[], arith}
use Rattle.sqlite.specs.Held.{state}
use Rattle.stable_store.specs.Stored.{after_discard}
use Rattle.store_tables.specs.Changes.{with_record}
use Rattle.store_writing.proofs.Inside.{steps_then, steps_as, step_err, sees_of}
use Rattle.store_writing.proofs.Loops.{in_place, taken_away}
use Rattle.store_writing.proofs.steps.put_home.Goals as goal

pub returns-in-Ok-clause-steps : goal.returns-in-Ok-clause-steps
returns-in-Ok-clause-steps g c k sees =
    let mid = state g.A.Store c.delete_record.new.tx.conn.now in
    let last = state g.A.Store c.add_record.new.tx.conn.now in
    let gone = after_discard c.args.top k in
    steps_as _ last _ _ c.add_record.result (in_place c.args.top c.args.home [] k)
    (steps_then _ mid last gone (with_record c.args.top c.args.home [] gone) _ c.add_record.result (λ h. omega (arith, c.add_record.ensures.survives.clean)) (c.in-Ok.ensures.steps k sees)
    (λ stays. c.add_record.ensures.steps gone (taken_away c.args.top k) (sees_of mid gone stays)))

pub returns-in-Err-clause-steps : goal.returns-in-Err-clause-steps
returns-in-Err-clause-steps g c k sees = step_err (c.in-Err.ensures.steps k sees)
