use Rattle.run_model.specs.Openings.{opening_in}
use Rattle.lock_runs.proofs.times.by_workers.Given as goal

abbrev pub ghosts-workers_in : goal.ghosts-workers_in
ghosts-workers_in g a = record { opening = opening_in a.start.run.table.shared.key; table = a.start.run.table.shared.table_id }
