use Rattle.std.proofs.Common.{arith}
use Rattle.version_stack.proofs.Amounts.{delta_kept}
use Rattle.version_stack.proofs.deltas.Deltas.keep.Goals as goal

pub returns-clause-left : goal.returns-clause-left
returns-clause-left g c = λ b. grind (arith, delta_kept c.self.inside.amounts.held (g.S.Survivors.stays c.args.survivors.now) b)
