use mir.Syntax.{named}
use denote.Param.{param}
use denote.Param.Send.{sendable}
use Rattle.std.proofs.Crossing.{crosses}
use Rattle.script_threads.proofs.Crossing.{clients_row_sync}
use Rattle.script_threads.proofs.in_threads.run_watched.Goals as goal

pub run_beside-requires-send-F : goal.run_beside-requires-send-F
run_beside-requires-send-F g c κs within =
    let b = c.type_bounds in
    let clients = clients_row_sync (record { mir = named 7; lft = κs.1.1.1.1.1.1.1.0 })
    (param 0 g.row.K) (param 1 g.row.R) (param 2 g.row.G) (param 3 g.row.P) (param 4 g.row.H) g.K.OfRun g.R.Forest g.R.Lineage g.G.Guardian b.send-R b.send-G b.sync-P b.sync-H in
    search (clients, sendable, crosses) depth 20
