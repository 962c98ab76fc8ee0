use Rattle.std.proofs.Common.{arith}
use Rattle.argus_c.proofs.ReadApart.{op_spelled}
use Rattle.argus_c.proofs.reading.by_parts.Goals as goal

pub returns : goal.returns
returns c =
    op_spelled c.args.action.now c.args.guardian c.args.number c.args.wanted.now c.in-Ok.action c.in_ok-operation.operation
    c.in-Ok.ensures.found c.in_ok-operation.ensures (omega arith, omega arith) (omega arith, omega arith) (omega arith) (omega arith)
