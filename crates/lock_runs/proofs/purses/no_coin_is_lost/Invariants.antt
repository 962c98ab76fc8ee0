use Rattle.run_model.specs.Openings.{opening_in}
use Rattle.lock_runs.proofs.purses.no_coin_is_lost.Given as goal

abbrev pub ghosts-counted_in : goal.ghosts-counted_in
ghosts-counted_in g a = record { opening = opening_in a.parts.start.run.table.shared.key; table = a.parts.start.run.table.shared.table_id }
