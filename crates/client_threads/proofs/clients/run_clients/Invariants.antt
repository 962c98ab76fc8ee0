use Rattle.client_threads.proofs.clients.run_clients.Given as goal

abbrev pub ghosts-run_named : goal.ghosts-run_named
ghosts-run_named g a = record { script = a.script.now }
