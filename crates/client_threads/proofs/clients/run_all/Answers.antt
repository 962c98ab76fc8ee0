use mir.Syntax.{of_param}
use denote.Param.{param}
use denote.Param.Send.{param_sync}
use Rattle.std.proofs.Common.{arith, length, rules, subst, ◌<◌, ◌≡◌}
use Rattle.std.proofs.lemmas.Option.{get_or_from_slice_get, slice_get_within}
use Rattle.std.specs.Prelude.{slice_index_or}
use Rattle.client_threads.proofs.Crossing.{checked_row_sync, flag_sync, over_row_sync}
use Rattle.client_threads.specs.Clients.{AreDone, IsDoneAt}
use Rattle.client_threads.proofs.Running.{all_done, if_ok_two}
use Rattle.client_threads.proofs.clients.run_all.Lts.{arg-1-3}
use Rattle.client_threads.proofs.clients.run_all.Goals as goal

pub map_indices-requires-sync-F : goal.map_indices-requires-sync-F
map_indices-requires-sync-F g c κs within =
    let b = c.type_bounds in
    let run = arg-1-3 g.row.K g.row.S g.row.R g.row.G g.row.P g.row.H g.K.laws g.S.laws g.R.laws g.G.laws g.P.laws g.H.laws g.K.OfRun g.K.OfRun-dict g.S.OfScript g.S.OfScript-dict g.R.Forest g.R.Forest-dict g.R.Lineage g.R.Lineage-dict g.G.Guardian g.G.Guardian-dict g.P.Gate g.P.Gate-dict g.H.Threads g.H.Threads-dict g.H.Wait g.H.Wait-dict g.R.Destruct-dict g.G.Destruct-dict g.P.Destruct-dict κs in
    let over = over_row_sync (param 0 g.row.K) (param 1 g.row.S) g.K.OfRun g.S.OfScript b.send-S (record { mir = of_param 0; lft = κs.1.1.1.1.1.1.1.0 })
    (param 2 g.row.R) (param 3 g.row.G) (param 4 g.row.P) (param 5 g.row.H) g.R.Forest g.R.Lineage g.G.Guardian b.send-R b.send-G b.sync-P b.sync-H in
    param_sync 3 run (record {
      shared = λ x b o κ. (
        (
          ((λ q. tt), over.shared x.0.now x.0.ref_ptr.0 x.0.ref_ptr.1 κ),
          (((λ q. tt), checked_row_sync.shared x.1.now x.1.ref_ptr.0 x.1.ref_ptr.1 _), (flag_sync.shared x.2 b _ κ, tt)),
        ),
        λ q. tt,
      );
    })

pub returns : goal.returns
returns g c =
    let clients = c.args.script.now.clients in
    if_ok_two (λ done. AreDone clients done.items) c.map_indices.result c.map_indices.ensures.len c.map_indices.ensures.each
    (λ done len each.
    let many : length done.items ≡ length clients = omega (arith, done.ok.0, len, c.len.ensures) in
    all_done clients done.items many
    (λ i one at.
    let within : i < c.len.result = omega (arith, slice_get_within done.items i one at, many, c.len.ensures) in
    let said : IsDoneAt clients i (slice_index_or done.items i one) = (let k = (each i one within).1.met in search rules) in
    subst (IsDoneAt clients i) (get_or_from_slice_get done.items i one one at) said))
