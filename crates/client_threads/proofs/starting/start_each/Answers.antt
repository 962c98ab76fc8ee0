use mir.Syntax.{of_param}
use denote.Param.{param}
use denote.Param.Send.{param_send}
use Rattle.std.proofs.Common.{ap, length, refl, slice_get, subst, Some, ◌<◌, ◌∙◌, ◌≡◌}
use Rattle.std.proofs.lemmas.Iterator.Adapters.{YieldsList-from_vec}
use Rattle.std.proofs.lemmas.Iterator.Consumers.{YieldsList-at, YieldsList-from_enumerate, YieldsList-turn}
use Rattle.std.proofs.lemmas.List.FromFn.{get_or-enumerate_from, length-enumerate_from}
use Rattle.std.proofs.lemmas.Option.{slice_get_read}
use Rattle.client_threads.proofs.Crossing.{checked_row_sync, over_row_sync, started_row_send}
use Rattle.client_threads.proofs.starting.start_each.Lts.{arg-8-1}
use Rattle.client_threads.proofs.starting.start_each.Goals as goal

pub new-requires : goal.new-requires
new-requires g c =
    let all = c.args.handed.arms.items in
    let l = c.loop-place in
    let arm = c.in-Some.arm in
    let road = YieldsList-at c.into_iter-place-iterator.ensures.into_iter_gives
    (YieldsList-from_enumerate
    (YieldsList-at c.enumerate-place-items.ensures.source (YieldsList-from_vec all c.into_iter.ensures.rest (c.into_iter.ensures.len ∙ c.args.handed.arms.ok.0)))
    c.enumerate-place-items.ensures.count) in
    let t = YieldsList-turn road l.yielded _ l.yielded_by _ c.next.new.self (c.in-Some.place, arm) c.in-Some.is c.next.ensures.steps in
    let lt : length l.yielded < length all = subst (λ n. length l.yielded < n) (length-enumerate_from 0 all) t.0 in
    let there : slice_get all (length l.yielded) ≡ Some arm =
    slice_get_read all (length all) (length l.yielded) arm refl lt
    (ap (λ p. p.1) (t.1 ∙ get_or-enumerate_from 0 all (length l.yielded) (c.in-Some.place, arm) lt)) in
    c.args.handed.runnable (length l.yielded) arm there

pub spawn-requires-send-F : goal.spawn-requires-send-F
spawn-requires-send-F g c κs within =
    let b = c.type_bounds in
    let run = arg-8-1 g.row.E g.row.K g.row.S g.row.R g.row.G g.row.P g.row.H g.E.laws g.K.laws g.S.laws g.R.laws g.G.laws g.P.laws g.H.laws g.K.OfRun g.K.OfRun-dict g.S.OfScript g.S.OfScript-dict g.R.Forest g.R.Forest-dict g.R.Lineage g.R.Lineage-dict g.G.Guardian g.G.Guardian-dict g.P.Gate g.P.Gate-dict g.H.Threads g.H.Threads-dict g.H.Wait g.H.Wait-dict g.R.Destruct-dict g.G.Destruct-dict g.P.Destruct-dict κs in
    let over = over_row_sync (param 1 g.row.K) (param 2 g.row.S) g.K.OfRun g.S.OfScript b.send-S (record { mir = of_param 0; lft = κs.1.1.1.1.1.1.0 })
    (param 3 g.row.R) (param 4 g.row.G) (param 5 g.row.P) (param 6 g.row.H) g.R.Forest g.R.Lineage g.G.Guardian b.send-R b.send-G b.sync-P b.sync-H in
    let started = started_row_send (param 1 g.row.K) (param 2 g.row.S) g.K.OfRun g.S.OfScript b.send-S in
    param_send 1 run (record {
      owned = λ x vs vss. (
        tt,
        (
          (tt, over.shared x.0.now x.0.ref_ptr.0 x.0.ref_ptr.1 κs.0),
          ((tt, checked_row_sync.shared x.1.now x.1.ref_ptr.0 x.1.ref_ptr.1 _), (started.owned x.2 vss.1.1.0, tt)),
        ),
      );
      leaving = λ k x w. (tt, (tt, (started.leaving k x.2 w.1.1.0, tt)));
    })
