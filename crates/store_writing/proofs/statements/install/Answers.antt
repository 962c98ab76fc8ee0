use Rattle.std.proofs.Common.{◌≡◌, Ok, Err, true, subst, rules}
use Rattle.sqlite.specs.Held.{state}
use Rattle.sqlite.proofs.Callers.{survives_begin}
use Rattle.stable_store.specs.Stored.{after_discard}
use Rattle.store_tables.specs.Changes.{with_base, all_put}
use Rattle.store_writing.specs.Steps.{Carries, Steps}
use Rattle.store_writing.proofs.Runs.{not_busy}
use Rattle.store_writing.proofs.Inside.{committed, rolled, begin_sees, begin_steps}
use Rattle.store_writing.proofs.statements.install.Goals as goal

pub returns-in-Ok-clause-carries : goal.returns-in-Ok-clause-carries
returns-in-Ok-clause-carries g c k above stands =
    let at = state g.A.Store in
    let old = c.args.conn.now in
    let mid = c.install_record.new.tx.conn.now in
    let last = c.commit.new.self.0 in
    let begun = c.transaction-tx.ensures.begun in
    let ran = survives_begin g.A.Store old (at mid) _ (rw begun at c.install_record.ensures.survives) in
    let part : Steps (at (record old { in_transaction = true })) (at mid) (with_base (all_put c.args.installed.now.entries k.base) (after_discard c.args.top k)) (Ok c.in-Ok.field-0) = (rw begun at c.in-Ok.ensures.steps) k above (begin_sees g.A.Store old k stands) in
    let same : last ≡ c.conn-1.given.0 = search rules in
    subst (λ h. Carries (at old) (at h) k (with_base (all_put c.args.installed.now.entries k.base) (after_discard c.args.top k)) c.commit.result) same
    (committed (at old) (at mid) (at last) k (with_base (all_put c.args.installed.now.entries k.base) (after_discard c.args.top k)) stands (λ up db may. g.met.A.Store.settled old.store db up may) ran c.in-Ok.field-0 c.commit.result
    (begin_steps g.A.Store old (at mid) (with_base (all_put c.args.installed.now.entries k.base) (after_discard c.args.top k)) (Ok c.in-Ok.field-0) part) c.commit.ensures.ended c.commit.ensures.ok c.commit.ensures.err c.commit.ensures.survives)

pub returns-in-Err-clause-carries : goal.returns-in-Err-clause-carries
returns-in-Err-clause-carries g c k above stands =
    let at = state g.A.Store in
    let old = c.args.conn.now in
    let mid = c.install_record.new.tx.conn.now in
    let last = c.rollback.new.self.0 in
    let begun = c.transaction-tx.ensures.begun in
    let ran = survives_begin g.A.Store old (at mid) _ (rw begun at c.install_record.ensures.survives) in
    let part : Steps (at (record old { in_transaction = true })) (at mid) (with_base (all_put c.args.installed.now.entries k.base) (after_discard c.args.top k)) (Err c.in-Err.error) = (rw begun at c.in-Err.ensures.steps) k above (begin_sees g.A.Store old k stands) in
    let same : last ≡ c.conn-in-Err-1.given.0 = search rules in
    subst (λ h. Carries {T = Unit {0}} (at old) (at h) k (with_base (all_put c.args.installed.now.entries k.base) (after_discard c.args.top k)) (Err c.in-Err.error)) same
    (rolled (at old) (at mid) (at last) k (with_base (all_put c.args.installed.now.entries k.base) (after_discard c.args.top k)) stands (λ up db may. g.met.A.Store.settled old.store db up may) ran c.in-Err.error c.in-Err.error
    (begin_steps g.A.Store old (at mid) (with_base (all_put c.args.installed.now.entries k.base) (after_discard c.args.top k)) (Err c.in-Err.error) part) c.rollback.ensures.ended c.rollback.ensures.undone c.rollback.ensures.survives)

pub returns-in-Ok-clause-busy : goal.returns-in-Ok-clause-busy
returns-in-Ok-clause-busy g c busy = absurd (not_busy _ c.if-not-is_autocommit.ensures.value busy)

pub returns-in-Err-clause-busy : goal.returns-in-Err-clause-busy
returns-in-Err-clause-busy g c busy = absurd (not_busy _ c.if-not-is_autocommit.ensures.value busy)
