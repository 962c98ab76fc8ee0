use Rattle.std.proofs.Common.{rules}
use Rattle.one_run.proofs.Moves.{tells_all}
use Rattle.one_run.proofs.run.Run.tell_all.Goals as goal

pub split_seat-token-requires : goal.split_seat-token-requires
split_seat-token-requires g c = (c.requires, search rules, tells_all (g.D.Events.is_run c.args.self.now.table.shared.key) g.D.Events.touches _ _)
