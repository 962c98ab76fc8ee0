use Rattle.locked_run.proofs.stepping.finish_two.Given as goal

abbrev pub ghosts-keep_at_two : goal.ghosts-keep_at_two
ghosts-keep_at_two g a = record { event = a.event.now }
