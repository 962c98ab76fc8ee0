use Rattle.std.proofs.Common.{sym, arith}
use Rattle.action_names.proofs.Ancestry.{other_length}
use Rattle.action_names.proofs.Order.{differs_at, same_throughout}
use Rattle.action_names.proofs.name.is_same.Goals as goal

pub returns-then-left-others : goal.returns-then-left-others
returns-then-left-others c = sym (other_length c.args.own.now c.args.others.now c.if-left-others.true)

pub returns-then-own-left : goal.returns-then-own-left
returns-then-own-left c = sym (differs_at c.args.own.now c.args.others.now _ c.if-own-left.true)

pub returns : goal.returns
returns c = sym (same_throughout c.args.own.now c.args.others.now (omega arith) (λ k h. c.loop-left.invariant.1 k (omega arith) h))
