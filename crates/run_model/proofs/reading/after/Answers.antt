use Rattle.std.proofs.Common.{◌++◌, length, sym, ap, ◌∙◌, arith}
use Rattle.run_model.proofs.Cutting.{begins, begins_not, from_place}
use Rattle.run_model.proofs.reading.after.Goals as goal

pub returns-then-text-i : goal.returns-then-text-i
returns-then-text-i c = λ rest. begins_not c.args.text.now c.args.front.now rest c.loop-i.i (omega arith) c.if-text-i.true

pub returns : goal.returns
returns c =
    let text = c.args.text.now in
    let front = c.args.front.now in
    begins text front (omega arith) (λ k lt. c.loop-i.invariant k (omega arith)) ∙ ap (λ r. front ++ r) (sym (from_place text (length front)))
