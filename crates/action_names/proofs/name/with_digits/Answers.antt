use Rattle.std.proofs.Common.{arith}
use Rattle.action_names.proofs.Fronts.{number_more, number_too_large}
use Rattle.action_names.proofs.name.with_digits.Goals as goal

pub returns-in_err-number : goal.returns-in_err-number
returns-in_err-number c =
    rw c.from_residual.ensures
    (number_too_large _ c.loop-left.left.now c.loop-left.number c.loop-left.invariant.positive c.loop-left.invariant.small c.loop-left.invariant.so_far (omega arith) (omega arith) (omega arith)
    c.in_err-number.ensures)

pub loop-left-preserved : goal.loop-left-preserved
loop-left-preserved c = record {
  positive = omega (arith, c.in_ok-number.ensures);
  small = omega arith;
  so_far = number_more _ c.loop-left.left.now c.loop-left.number c.in_ok-number.number c.loop-left.invariant.positive (omega arith) c.loop-left.invariant.so_far (omega arith) (omega arith) (omega arith)
      (omega (arith, c.in_ok-number.ensures));
}
