use Rattle.run_model.specs.Openings.{opening_in}
use Rattle.script_threads.proofs.in_threads.InThreadsRunsClients.run_clients.Given as goal

abbrev pub ghosts-in_run : goal.ghosts-in_run
ghosts-in_run g a = record { opening = opening_in a.start.run.table.shared.key; table = a.start.run.table.shared.table_id }
