use Rattle.std.proofs.lemmas.Result.{IfOk-weaker}
use Rattle.volatile_state.proofs.Readings.{counts_none, counts_some}
use Rattle.volatile_state.proofs.Sound.{inside}
use Rattle.volatile_state.proofs.memory.Memory.told_count.Goals as goal

pub returns-then-is_committed : goal.returns-then-is_committed
returns-then-is_committed c = λ s at.
    counts_none (inside c.self.view_is at) c.args.action.now c.args.committed c.is_committed.result c.is_committed.ensures c.if-is_committed.true

pub returns : goal.returns
returns c = λ s at.
    IfOk-weaker c.told_count.result _ _
    (λ count says.
    counts_some (inside c.self.view_is at) c.args.action.now c.args.committed c.is_committed.result count c.is_committed.ensures c.if-is_committed.false says)
    c.told_count.ensures
