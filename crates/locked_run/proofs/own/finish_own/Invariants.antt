use Rattle.locked_run.proofs.own.finish_own.Given as goal

abbrev pub ghosts-keep_own : goal.ghosts-keep_own
ghosts-keep_own g a = record { event = a.event.now }
