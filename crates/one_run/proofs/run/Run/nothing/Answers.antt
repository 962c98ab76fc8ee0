use Rattle.std.proofs.Common.{rules}
use Rattle.one_run.proofs.Moves.{enters}
use Rattle.one_run.proofs.run.Run.nothing.Goals as goal

pub load_new_seat-word-requires : goal.load_new_seat-word-requires
load_new_seat-word-requires g c = (search rules, enters (g.D.Events.is_run c.args.self.now.table.shared.key) g.D.Events.touches _)
