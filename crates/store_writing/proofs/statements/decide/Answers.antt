use Rattle.std.proofs.Common.{[], ◌∷◌, subst, subst₂, arith}
use Rattle.sqlite.specs.Values.{bound_value}
use Rattle.sqlite.specs.State.{Survives, Executes, CommitsBy}
use Rattle.sqlite.specs.Held.{state}
use Rattle.stable_store.specs.Stored.{after_decide}
use Rattle.store_writing.proofs.Runs.{not_busy, not_true, decide_means, carried, refused}
use Rattle.store_tables.proofs.Tables.{InRange}
use Rattle.store_tables.specs.Texts.{decide_text}
use Rattle.store_tables.proofs.Texts.{decide_command}
use Rattle.store_writing.proofs.statements.decide.Goals as goal

pub returns-in-Ok-clause-carries : goal.returns-in-Ok-clause-carries
returns-in-Ok-clause-carries g c k stands =
    let old = state g.A.Store c.args.conn.now in
    let new = state g.A.Store c.execute.new.self in
    let fits : InRange c.args.top = (omega arith, omega arith) in
    carried decide_text decide_command _ (after_decide c.args.top) _ (decide_means c.args.top fits) old new k stands tt
    (not_true _ c.if-not-is_autocommit.ensures.value) (λ up db may. g.met.A.Store.settled c.args.conn.now.store db up may)
    (subst (λ v. Survives old new (CommitsBy decide_text (bound_value v ∷ []) old)) c.number.ensures c.execute.ensures.survives) _ _
    (λ clean. subst₂ (λ v r. Executes decide_text (bound_value v ∷ []) old new r) c.number.ensures c.in-Ok.is (c.execute.ensures.runs clean))

pub returns-in-Err-clause-carries : goal.returns-in-Err-clause-carries
returns-in-Err-clause-carries g c k stands =
    let old = state g.A.Store c.args.conn.now in
    let new = state g.A.Store c.execute.new.self in
    let fits : InRange c.args.top = (omega arith, omega arith) in
    refused decide_text decide_command _ (after_decide c.args.top) _ (decide_means c.args.top fits) old new k stands tt
    (not_true _ c.if-not-is_autocommit.ensures.value) (λ up db may. g.met.A.Store.settled c.args.conn.now.store db up may)
    (subst (λ v. Survives old new (CommitsBy decide_text (bound_value v ∷ []) old)) c.number.ensures c.execute.ensures.survives) _
    (λ clean. subst₂ (λ v r. Executes decide_text (bound_value v ∷ []) old new r) c.number.ensures c.in-Err.is (c.execute.ensures.runs clean))

pub returns-in-Ok-clause-busy : goal.returns-in-Ok-clause-busy
returns-in-Ok-clause-busy g c busy = absurd (not_busy _ c.if-not-is_autocommit.ensures.value busy)

pub returns-in-Err-clause-busy : goal.returns-in-Err-clause-busy
returns-in-Err-clause-busy g c busy = absurd (not_busy _ c.if-not-is_autocommit.ensures.value busy)
