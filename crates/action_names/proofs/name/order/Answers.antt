use Rattle.std.proofs.Common.{sym, ◌∙◌, arith}
use Rattle.action_names.proofs.Order.{first_unequal, beginning}
use Rattle.action_names.proofs.name.order.Goals as goal

pub returns-then-own-i : goal.returns-then-own-i
returns-then-own-i c =
    c.cmp.ensures ∙ sym (first_unequal c.args.own.now c.args.others.now c.loop-i.i c.loop-i.invariant (omega arith) (omega arith) c.if-own-i.true)

pub returns : goal.returns
returns c = c.cmp-2.ensures ∙ sym (beginning c.args.own.now c.args.others.now c.loop-i.i (omega arith) c.loop-i.invariant)
