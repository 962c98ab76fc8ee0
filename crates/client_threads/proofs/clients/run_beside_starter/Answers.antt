use mir.Syntax.{of_param}
use denote.Param.{param}
use denote.Param.Send.{param_send}
use Rattle.client_threads.proofs.Crossing.{checked_row_sync, orders_row_send, over_row_sync}
use Rattle.client_threads.proofs.clients.run_beside_starter.Lts.{arg-0-1}
use Rattle.client_threads.proofs.clients.run_beside_starter.Goals as goal

pub spawn-requires-send-F : goal.spawn-requires-send-F
spawn-requires-send-F g c κs within =
    let b = c.type_bounds in
    let start = arg-0-1 g.row.E g.row.K g.row.S g.row.R g.row.G g.row.P g.row.H g.E.laws g.K.laws g.S.laws g.R.laws g.G.laws g.P.laws g.H.laws g.K.OfRun g.K.OfRun-dict g.S.OfScript g.S.OfScript-dict g.R.Forest g.R.Forest-dict g.R.Lineage g.R.Lineage-dict g.G.Guardian g.G.Guardian-dict g.P.Gate g.P.Gate-dict g.H.Threads g.H.Threads-dict g.H.Wait g.H.Wait-dict g.R.Destruct-dict g.G.Destruct-dict g.P.Destruct-dict κs in
    let over = over_row_sync (param 1 g.row.K) (param 2 g.row.S) g.K.OfRun g.S.OfScript b.send-S (record { mir = of_param 0; lft = κs.1.1.1.1.1.1.0 })
    (param 3 g.row.R) (param 4 g.row.G) (param 5 g.row.P) (param 6 g.row.H) g.R.Forest g.R.Lineage g.G.Guardian b.send-R b.send-G b.sync-P b.sync-H in
    let orders = orders_row_send (param 1 g.row.K) (param 2 g.row.S) g.K.OfRun g.S.OfScript b.send-S in
    param_send 1 start (record {
      owned = λ x vs vss. (
        tt,
        (
          (tt, over.shared x.0.now x.0.ref_ptr.0 x.0.ref_ptr.1 κs.0),
          ((tt, checked_row_sync.shared x.1.now x.1.ref_ptr.0 x.1.ref_ptr.1 _), (orders.owned x.2 vss.1.1.0, tt)),
        ),
      );
      leaving = λ k x w. (tt, (tt, (orders.leaving k x.2 w.1.1.0, tt)));
    })
