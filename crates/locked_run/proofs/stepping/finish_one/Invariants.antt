use Rattle.locked_run.proofs.stepping.finish_one.Given as goal

abbrev pub ghosts-keep_at_one : goal.ghosts-keep_at_one
ghosts-keep_at_one g a = record { event = a.event.now }
