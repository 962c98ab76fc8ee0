use Rattle.std.proofs.Common.{arith}
use Rattle.locked_run.proofs.stored.StoredHistory.len.Goals as goal
use Rattle.locked_run.proofs.Stamps.{length_kept}

pub returns : goal.returns
returns c =
    let same = length_kept c.self.inside.stamps.items c.self.inside.events c.self.invariant c.self.view_is in
    omega (arith, same, c.len.ensures, c.self.inside.stamps.ok)
