use Rattle.run_model.specs.Openings.{opening_in}
use Rattle.lock_runs.proofs.waiting.both_are_granted.Given as goal

abbrev pub ghosts-both_in : goal.ghosts-both_in
ghosts-both_in g a = record { opening = opening_in a.start.run.table.shared.key; table = a.start.run.table.shared.table_id }
