use Rattle.std.proofs.Common.{rules}
use Rattle.one_run.proofs.Moves.{load_allowed}
use Rattle.one_run.proofs.run.Run.load_so.Goals as goal

pub load-requires : goal.load-requires
load-requires g c = (c.requires.of, search rules, load_allowed (g.D.Events.is_run c.args.self.now.table.shared.key) g.D.Events.touches g.T.Telling.tells _ _ _ c.requires.told)
