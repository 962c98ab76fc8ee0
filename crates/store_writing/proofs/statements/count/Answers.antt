use Rattle.std.proofs.Common.{[], ◌∷◌, subst, subst₂, codes}
use Rattle.sqlite.specs.Values.{bound_value}
use Rattle.sqlite.specs.State.{Survives, Executes, CommitsBy}
use Rattle.sqlite.specs.Held.{state}
use Rattle.store_tables.specs.Changes.{with_count}
use Rattle.store_writing.proofs.Runs.{not_busy, not_true, count_means, carried, refused}
use Rattle.store_tables.specs.Texts.{count_text}
use Rattle.store_tables.proofs.Texts.{number_command}
use Rattle.store_writing.proofs.statements.count.Goals as goal

pub returns-in-Ok-clause-carries : goal.returns-in-Ok-clause-carries
returns-in-Ok-clause-carries g c k stands =
    let old = state g.A.Store c.args.conn.now in
    let new = state g.A.Store c.execute.new.self in
    carried count_text (number_command 2 (codes "count")) _ (with_count c.args.count) _ (count_means c.args.count) old new k stands tt
    (not_true _ c.if-not-is_autocommit.ensures.value) (λ up db may. g.met.A.Store.settled c.args.conn.now.store db up may)
    (subst (λ v. Survives old new (CommitsBy count_text (bound_value v ∷ []) old)) c.great_number.ensures c.execute.ensures.survives) _ _
    (λ clean. subst₂ (λ v r. Executes count_text (bound_value v ∷ []) old new r) c.great_number.ensures c.in-Ok.is (c.execute.ensures.runs clean))

pub returns-in-Err-clause-carries : goal.returns-in-Err-clause-carries
returns-in-Err-clause-carries g c k stands =
    let old = state g.A.Store c.args.conn.now in
    let new = state g.A.Store c.execute.new.self in
    refused count_text (number_command 2 (codes "count")) _ (with_count c.args.count) _ (count_means c.args.count) old new k stands tt
    (not_true _ c.if-not-is_autocommit.ensures.value) (λ up db may. g.met.A.Store.settled c.args.conn.now.store db up may)
    (subst (λ v. Survives old new (CommitsBy count_text (bound_value v ∷ []) old)) c.great_number.ensures c.execute.ensures.survives) _
    (λ clean. subst₂ (λ v r. Executes count_text (bound_value v ∷ []) old new r) c.great_number.ensures c.in-Err.is (c.execute.ensures.runs clean))

pub returns-in-Ok-clause-busy : goal.returns-in-Ok-clause-busy
returns-in-Ok-clause-busy g c busy = absurd (not_busy _ c.if-not-is_autocommit.ensures.value busy)

pub returns-in-Err-clause-busy : goal.returns-in-Err-clause-busy
returns-in-Err-clause-busy g c busy = absurd (not_busy _ c.if-not-is_autocommit.ensures.value busy)
