use Rattle.std.proofs.Common.{◌-◌, ◌≤◌}
use Rattle.one_run.specs.Rules.{Counts}
use Rattle.one_run.proofs.run.Run.count.Given as goal

abbrev pub ghosts-load_so : goal.ghosts-load_so
ghosts-load_so g a = record { tells = λ v n w. (1 ≤ n) × Counts (g.D.Events.is_run a.self.now.table.shared.key) g.D.Events.touches v (n - 1) w }
