use Rattle.run_model.specs.Openings.{opening_in}
use Rattle.thread_rows.proofs.meeting.gate_two_arms.Given as goal

abbrev pub ghosts-meet_in : goal.ghosts-meet_in
ghosts-meet_in g a = record { opening = opening_in a.start.run.table.shared.key; table = a.start.run.table.shared.table_id }
