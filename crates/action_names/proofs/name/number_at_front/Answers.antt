use Rattle.std.proofs.Common.{arith}
use Rattle.std.proofs.lemmas.List.{get_or_past}
use Rattle.action_names.proofs.Fronts.{no_number, number_first}
use Rattle.action_names.proofs.name.number_at_front.Goals as goal
use Rattle.action_names.proofs.name.number_at_front.Goals.{in_default-via-then-bytes-lt1, in_default-via-else-bytes-lt1+then-bytes-lt49, in_default-via-else-bytes-lt1+else-bytes-lt49+else-bytes-lt58}

pub returns-in_default : goal.returns-in_default
returns-in_default c = no_number c.args.bytes.now (λ low high.
    elim c.in_default.branch [
      | in_default-via-then-bytes-lt1 w ↦ grind (arith, w.if-bytes-lt1-1.true, get_or_past c.args.bytes.now 0 0)
      | in_default-via-else-bytes-lt1+then-bytes-lt49 w ↦ grind (arith, w.if-bytes-lt49-1.true)
      | in_default-via-else-bytes-lt1+else-bytes-lt49+else-bytes-lt58 w ↦ grind (arith, w.if-bytes-lt58-1.false)
    ])

pub returns-in-49-to-57 : goal.returns-in-49-to-57
returns-in-49-to-57 c =
    rw (number_first c.args.bytes.now c.from.result (omega arith) (omega arith) (omega arith) (omega arith)) at c.with_digits.ensures
