use Rattle.std.proofs.lemmas.Result.{err_from_is_err_and}
use Rattle.sqlite.specs.Held.{state}
use Rattle.stable_store.specs.Held.{held}
use Rattle.sql_store.proofs.Loads.{quiets, was_read, was_not_read}
use Rattle.sql_store.proofs.calls.load.Goals as goal

pub returns-in_err-found-clause-carries : goal.returns-in_err-found-clause-carries
returns-in_err-found-clause-carries g c stands =
    let old = state g.A.Store c.args.conn.now in
    let new = state g.A.Store c.read_content.new.conn in
    let p = err_from_is_err_and c.from_residual.result c.from_residual.ensures.1 in
    was_not_read old new (held c.args.kept.now) (λ up db may. g.met.A.Store.settled c.args.conn.now.store db up may) stands _ _ p.0 c.from_residual.result p.1
    (c.in_err-found.ensures.looks (quiets old (held c.args.kept.now) stands))

pub returns-in_err-are_same-clause-carries : goal.returns-in_err-are_same-clause-carries
returns-in_err-are_same-clause-carries g c stands =
    let old = state g.A.Store c.args.conn.now in
    let new = state g.A.Store c.read_content.new.conn in
    was_read old new (held c.args.kept.now) (λ up db may. g.met.A.Store.settled c.args.conn.now.store db up may) stands _ c.in_ok-found.found (c.in_ok-found.ensures.looks (quiets old (held c.args.kept.now) stands)) _

pub returns-then-not-branch-clause-carries : goal.returns-then-not-branch-clause-carries
returns-then-not-branch-clause-carries g c stands =
    let old = state g.A.Store c.args.conn.now in
    let new = state g.A.Store c.read_content.new.conn in
    was_read old new (held c.args.kept.now) (λ up db may. g.met.A.Store.settled c.args.conn.now.store db up may) stands _ c.in_ok-found.found (c.in_ok-found.ensures.looks (quiets old (held c.args.kept.now) stands)) _

pub returns-in_err-copy-clause-carries : goal.returns-in_err-copy-clause-carries
returns-in_err-copy-clause-carries g c stands =
    let old = state g.A.Store c.args.conn.now in
    let new = state g.A.Store c.read_content.new.conn in
    was_read old new (held c.args.kept.now) (λ up db may. g.met.A.Store.settled c.args.conn.now.store db up may) stands _ c.in_ok-found.found (c.in_ok-found.ensures.looks (quiets old (held c.args.kept.now) stands)) _

pub returns-clause-carries : goal.returns-clause-carries
returns-clause-carries g c stands =
    let old = state g.A.Store c.args.conn.now in
    let new = state g.A.Store c.read_content.new.conn in
    was_read old new (held c.args.kept.now) (λ up db may. g.met.A.Store.settled c.args.conn.now.store db up may) stands _ c.in_ok-found.found (c.in_ok-found.ensures.looks (quiets old (held c.args.kept.now) stands)) _
