-- What the ends of clients say of the run of all threads.
use Rattle.std.specs.Prelude.{List, IsPermutation}
use Rattle.std.specs.List.{AllByRecursion}
use Rattle.run_model.specs.declared.history.Event.{Event}
use Rattle.run_model.specs.Openings.{Opening}
use Rattle.run_model.specs.Runs.{IsRun}
use Rattle.script_model.specs.declared.checked.Client.{Client}
use Rattle.locked_run.specs.Closing.{beginnings}
use Rattle.activities.specs.declared.client.ClientEnd.{ClientEnd}
use Rattle.activities.specs.Ends.{IsEnd}
use Rattle.client_threads.specs.Clients.{AllDid}

-- Clients came to these ends, and their receipts are those of the events of one run, each once. Then each end says
-- committed exactly where its top action has committed in that run.
abbrev pub EndsAreSo : Type 0
EndsAreSo = (opening : Opening) (past : List Event) (clients : List Client) (ends : List ClientEnd)
    (receipts : List (List Event))
    → IsRun opening past → AllDid clients ends receipts → IsPermutation receipts (beginnings past)
    → AllByRecursion (IsEnd past) ends
