use Rattle.run_model.specs.Openings.{opening_in}
use Rattle.lock_runs.proofs.times.by_runtime.Given as goal

abbrev pub ghosts-listed_in : goal.ghosts-listed_in
ghosts-listed_in g a = record { opening = opening_in a.start.run.table.shared.key; table = a.start.run.table.shared.table_id }
