use Rattle.std.proofs.Common.{◌-◌, length, arith}
use Rattle.version_stack.proofs.Ends.{end_last}
use Rattle.version_stack.proofs.rows.last_end.Goals as goal

pub returns-in-len1-up : goal.returns-in-len1-up
returns-in-len1-up c = end_last c.args.base 0 c.args.ends.now (length c.args.ends.now - 1) (omega arith)
