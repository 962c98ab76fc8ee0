use Rattle.std.proofs.Common.{arith}
use Rattle.holders.proofs.Rows.{room_kept}
use Rattle.moss_locks.proofs.table.LockTable.crash.Goals as goal

pub returns : goal.returns
returns g c =
    let stays = g.S.Survivors.stays c.args.survivors.now in
    let i = c.self.inside in
    grind (arith, room_kept stays i.writers.held, room_kept stays i.adders.held)
