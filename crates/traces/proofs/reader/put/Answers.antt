use Rattle.traces.proofs.Kept.{always_err, put_nothing, put_one}
use Rattle.traces.proofs.reader.put.Goals as goal

pub returns-in_err-push-clause-err : goal.returns-in_err-push-clause-err
returns-in_err-push-clause-err c =
    always_err c.from_residual.result
    (put_nothing c.args.histories.now.items c.args.line.owner c.index_mut.result.now c.push.new.self c.index_mut.ensures.value c.in_err-push.ensures.items)

pub returns-clause-ok : goal.returns-clause-ok
returns-clause-ok c =
    put_one c.args.histories.now.items c.args.line.owner c.index_mut.result.now c.push.new.self c.args.line.stamped c.requires c.index_mut.ensures.value c.in_ok-push.ensures.items
