use Rattle.run_model.specs.Openings.{opening_in}
use Rattle.lock_runs.proofs.examples.answers_to.Given as goal

abbrev pub ghosts-listed : goal.ghosts-listed
ghosts-listed g a = record { opening = opening_in a.start.run.table.shared.key; table = a.start.run.table.shared.table_id }
