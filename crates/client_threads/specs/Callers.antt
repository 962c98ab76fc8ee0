-- A thread's own world: the opening, and the events whose receipts it keeps.
use Rattle.std.specs.Prelude.{◌≡◌, List}
use Rattle.run_model.specs.declared.history.Event.{Event}
use Rattle.run_model.specs.Openings.{OpeningLists}
use Rattle.run_model.specs.Runs.{World}
use Rattle.script_model.specs.declared.checked.Checked.{Checked}
use Rattle.runtime.specs.Receipts.{events_of}

abbrev pub run_of : OpeningLists → List (List Event) → World
run_of lists receipts = record { lists = lists; past = events_of receipts }

-- this script, and no other
abbrev pub only : Checked → Checked → Type 0
only script other = other ≡ script
