use Rattle.std.proofs.Common.{◌≡◌, Vec, Global, IfOk, Err, rules, subst}
use Rattle.std.proofs.lemmas.Result.{err_from_is_err_and}
use Rattle.sqlite.specs.Held.{state}
use Rattle.sqlite.specs.Order.{Row}
use Rattle.stable_store.specs.Held.{held}
use Rattle.store_tables.specs.Tables.{stable_schema}
use Rattle.store_tables.specs.Answered.{answered, queries, rows_of}
use Rattle.store_tables.specs.Holds.{Holds, tables_of}
use Rattle.store_tables.proofs.Viewed.{held_by}
use Rattle.sql_store.specs.Reading.{AreAnswered}
use Rattle.sql_store.proofs.Queries.{are_queries, views}
use Rattle.sql_store.proofs.Sequences.{then_reads, failed_reads, ok_leads}
use Rattle.sql_store.proofs.Outside.{stays_any, stays_err}
use Rattle.store_tables.proofs.Told.{told_by}
use Rattle.sql_store.proofs.Loads.{quiets}
use Rattle.sql_store.proofs.Recognized.{content_told}
use Rattle.sql_store.specs.Reading.{AreAnswersOf}
use Rattle.sql_store.proofs.Beside.{quiets_beside, beside_read, beside_told}
use Rattle.sql_store.proofs.Failing.{failed_by, no_failure}
use Rattle.sql_store.proofs.asking.read_content.Goals as goal

pub returns-in_err-answers-clause-looks : goal.returns-in_err-answers-clause-looks
returns-in_err-answers-clause-looks g c quiet =
    let p = err_from_is_err_and c.from_residual.result c.from_residual.ensures.1 in
    failed_reads (state g.A.Store c.args.conn.now) (state g.A.Store c.answers.new.conn) (λ d (all : Vec (Vec Row Global) Global). AreAnswered d queries (rows_of all.items))
    (λ d kept. Holds 1 (tables_of d.trees) (held kept)) _ p.0 c.from_residual.result p.1 (c.in_err-answers.ensures.looks stable_schema are_queries quiet)

pub returns-clause-looks : goal.returns-clause-looks
returns-clause-looks g c quiet =
    let same : c.deref.result.now ≡ c.in_ok-answers.field-0.items = search rules in
    let old = state g.A.Store c.args.conn.now in
    let new = state g.A.Store c.answers.new.conn in
    then_reads old new (λ d (all : Vec (Vec Row Global) Global). AreAnswered d queries (rows_of all.items)) (λ d kept. Holds 1 (tables_of d.trees) (held kept))
    c.in_ok-answers.field-0 c.content_of.result quiet (c.in_ok-answers.ensures.looks stable_schema are_queries quiet)
    (λ q shown. ok_leads c.content_of.result (λ k. Holds 0 (answered (rows_of c.in_ok-answers.field-0.items)) (held k)) (λ k. Holds 1 (tables_of old.now.trees) (held k))
    (λ k h. held_by (answered (rows_of c.in_ok-answers.field-0.items)) old.now.trees (held k) (views old.now (rows_of c.in_ok-answers.field-0.items) shown) h)
    (subst (λ xs. IfOk c.content_of.result (λ k. Holds 0 (answered (rows_of xs)) (held k))) same c.content_of.ensures.found))

pub returns-in_err-answers-clause-outside : goal.returns-in_err-answers-clause-outside
returns-in_err-answers-clause-outside g c =
    let p = err_from_is_err_and c.from_residual.result c.from_residual.ensures.1 in
    stays_err (state g.A.Store c.args.conn.now) (state g.A.Store c.answers.new.conn) (Err c.in_err-answers.field-0.0) p.0 c.from_residual.result p.1 c.in_err-answers.ensures.outside

pub returns-clause-outside : goal.returns-clause-outside
returns-clause-outside g c = stays_any (state g.A.Store c.args.conn.now) (state g.A.Store c.answers.new.conn) c.in_ok-answers.field-0 c.content_of.result c.in_ok-answers.ensures.outside

pub returns-in_err-answers-clause-recognized : goal.returns-in_err-answers-clause-recognized
returns-in_err-answers-clause-recognized g c is clean k stands =
    c.in_err-answers.ensures.told (told_by c.from_residual.result c.in_err-answers.field-0.0 c.from_residual.ensures.1 is)

pub returns-clause-recognized : goal.returns-clause-recognized
returns-clause-recognized g c is clean k stands =
    let same : c.deref.result.now ≡ c.in_ok-answers.field-0.items = search rules in
    let old = state g.A.Store c.args.conn.now in
    let new = state g.A.Store c.answers.new.conn in
    content_told old new k c.in_ok-answers.field-0 c.deref.result.now same clean stands (c.in_ok-answers.ensures.looks stable_schema are_queries (quiets old k stands))
    (λ six keyed. c.content_of.ensures.told is six keyed k)

-- ---- tables beside others

pub returns-in_err-answers-clause-beside : goal.returns-in_err-answers-clause-beside
returns-in_err-answers-clause-beside g c k it =
    let p = err_from_is_err_and c.from_residual.result c.from_residual.ensures.1 in
    failed_reads (state g.A.Store c.args.conn.now) (state g.A.Store c.answers.new.conn) (λ d (all : Vec (Vec Row Global) Global). AreAnswersOf it.tables d queries (rows_of all.items))
    (λ _ kept. held kept ≡ k) _ p.0 c.from_residual.result p.1
    (c.in_err-answers.ensures.looks it.tables it.beside.asked (quiets_beside (state g.A.Store c.args.conn.now) k it))

pub returns-clause-beside : goal.returns-clause-beside
returns-clause-beside g c k it =
    let same : c.deref.result.now ≡ c.in_ok-answers.field-0.items = search rules in
    let old = state g.A.Store c.args.conn.now in
    let new = state g.A.Store c.answers.new.conn in
    beside_read old new k it c.in_ok-answers.field-0 (c.in_ok-answers.ensures.looks it.tables it.beside.asked (quiets_beside old k it)) c.one_content_is_held.ensures c.content_of.result
    (subst (λ xs. IfOk c.content_of.result (λ h. Holds 0 (answered (rows_of xs)) (held h))) same c.content_of.ensures.found)

pub returns-in_err-answers-clause-recognized_beside : goal.returns-in_err-answers-clause-recognized_beside
returns-in_err-answers-clause-recognized_beside g c is clean k it =
    c.in_err-answers.ensures.told (told_by c.from_residual.result c.in_err-answers.field-0.0 c.from_residual.ensures.1 is)

pub returns-clause-recognized_beside : goal.returns-clause-recognized_beside
returns-clause-recognized_beside g c is clean k it =
    let same : c.deref.result.now ≡ c.in_ok-answers.field-0.items = search rules in
    let old = state g.A.Store c.args.conn.now in
    let new = state g.A.Store c.answers.new.conn in
    beside_told old new k it c.in_ok-answers.field-0 (c.in_ok-answers.ensures.looks it.tables it.beside.asked (quiets_beside old k it)) c.deref.result.now same clean
    (λ six keyed. c.content_of.ensures.told is six keyed k)

-- ---- failures

pub returns-in_err-answers-clause-failed : goal.returns-in_err-answers-clause-failed
returns-in_err-answers-clause-failed g c is clean =
    c.in_err-answers.ensures.failed (failed_by c.from_residual.result c.in_err-answers.field-0.0 c.from_residual.ensures.1 is) clean

pub returns-clause-failed : goal.returns-clause-failed
returns-clause-failed g c is clean = absurd (no_failure c.content_of.result c.content_of.ensures.ours is)
