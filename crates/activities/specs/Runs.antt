-- What a serial run of a script is, by its definition.
use Rattle.run_model.specs.Openings.{opening_in}
use Rattle.run_model.specs.Runs.{IsRun, World}
use Rattle.script_model.specs.declared.checked.Checked.{Checked}
use Rattle.activities.specs.Ends.{AreRun}
use Rattle.activities.specs.Serial.{serial_run}

-- A serial run of any script, from any world whose past is a run: its clients run one after another, each to its end.
-- An end names the action that the client's `top` step began, or none where that was refused; it says committed
-- exactly where that action has committed; all that was begun has ended; and each step was of the clients' own
-- actions.
abbrev pub SerialRunsAreRun : Type 0
SerialRunsAreRun = (script : Checked) (w : World) → IsRun (opening_in w.lists) w.past
    → AreRun script.clients w (serial_run script w).world (serial_run script w).ends
