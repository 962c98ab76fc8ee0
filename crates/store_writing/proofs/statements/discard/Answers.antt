use Rattle.std.proofs.Common.{[], ◌∷◌, subst, subst₂}
use Rattle.sqlite.specs.Values.{bound_value}
use Rattle.sqlite.specs.State.{Survives, Executes, CommitsBy}
use Rattle.sqlite.specs.Held.{state}
use Rattle.stable_store.specs.Stored.{after_discard}
use Rattle.store_writing.proofs.Runs.{not_busy, not_true, discard_means, carried, refused}
use Rattle.store_tables.specs.Texts.{discard_text}
use Rattle.store_tables.proofs.Texts.{discard_command}
use Rattle.store_writing.proofs.statements.discard.Goals as goal

pub returns-in-Ok-clause-carries : goal.returns-in-Ok-clause-carries
returns-in-Ok-clause-carries g c k stands =
    let old = state g.A.Store c.args.conn.now in
    let new = state g.A.Store c.execute.new.self in
    carried discard_text discard_command _ (after_discard c.args.top) _ (discard_means c.args.top) old new k stands tt
    (not_true _ c.if-not-is_autocommit.ensures.value) (λ up db may. g.met.A.Store.settled c.args.conn.now.store db up may)
    (subst (λ v. Survives old new (CommitsBy discard_text (bound_value v ∷ []) old)) c.number.ensures c.execute.ensures.survives) _ _
    (λ clean. subst₂ (λ v r. Executes discard_text (bound_value v ∷ []) old new r) c.number.ensures c.in-Ok.is (c.execute.ensures.runs clean))

pub returns-in-Err-clause-carries : goal.returns-in-Err-clause-carries
returns-in-Err-clause-carries g c k stands =
    let old = state g.A.Store c.args.conn.now in
    let new = state g.A.Store c.execute.new.self in
    refused discard_text discard_command _ (after_discard c.args.top) _ (discard_means c.args.top) old new k stands tt
    (not_true _ c.if-not-is_autocommit.ensures.value) (λ up db may. g.met.A.Store.settled c.args.conn.now.store db up may)
    (subst (λ v. Survives old new (CommitsBy discard_text (bound_value v ∷ []) old)) c.number.ensures c.execute.ensures.survives) _
    (λ clean. subst₂ (λ v r. Executes discard_text (bound_value v ∷ []) old new r) c.number.ensures c.in-Err.is (c.execute.ensures.runs clean))

pub returns-in-Ok-clause-busy : goal.returns-in-Ok-clause-busy
returns-in-Ok-clause-busy g c busy = absurd (not_busy _ c.if-not-is_autocommit.ensures.value busy)

pub returns-in-Err-clause-busy : goal.returns-in-Err-clause-busy
returns-in-Err-clause-busy g c busy = absurd (not_busy _ c.if-not-is_autocommit.ensures.value busy)
