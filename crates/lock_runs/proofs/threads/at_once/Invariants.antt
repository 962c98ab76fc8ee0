use Rattle.run_model.specs.Openings.{opening_in}
use Rattle.lock_runs.proofs.threads.at_once.Given as goal

abbrev pub ghosts-all_in : goal.ghosts-all_in
ghosts-all_in g a = record { opening = opening_in a.start.run.table.shared.key; table = a.start.run.table.shared.table_id }
