use Rattle.std.proofs.Common.{◌≡◌, codes, Vec, Global, IfOk, Ok, Err, rules, subst}
use Rattle.std.proofs.lemmas.Result.{err_from_is_err_and}
use Rattle.sqlite.specs.Effect.{Database}
use Rattle.sqlite.specs.Held.{state}
use Rattle.sqlite.specs.Order.{Row}
use Rattle.stable_store.specs.Held.{held}
use Rattle.store_tables.specs.Tables.{first_schema}
use Rattle.store_tables.specs.Answered.{rows_of}
use Rattle.store_tables.specs.First.{first_answered, HoldsFirst}
use Rattle.store_tables.proofs.Told.{told_by}
use Rattle.sql_store.specs.Reading.{AreAnswersOf, IsNumberOf}
use Rattle.sql_store.proofs.Sequences.{failed_reads, and_reads}
use Rattle.sql_store.proofs.FirstQueries.{are_first_queries, first_text, first_count, number_there}
use Rattle.sql_store.proofs.FirstRead.{first_quiets, first_still, content_read, first_told}
use Rattle.std.specs.Prelude.{[], ◌∷◌}
use Rattle.sql_store.specs.Failing.{count_query, first_queries}
use Rattle.sql_store.proofs.Failing.{failed_by, no_failure, first_failed, failed_later}
use Rattle.sql_store.proofs.asking.read_first.Goals as goal

abbrev answered : Database → Vec (Vec Row Global) Global → Type 0
answered d all = AreAnswersOf first_schema d first_queries (rows_of all.items)

pub returns-in_err-count-clause-looks : goal.returns-in_err-count-clause-looks
returns-in_err-count-clause-looks g c k first =
    let a = state g.A.Store c.args.conn.now in
    let p = err_from_is_err_and c.from_residual.result c.from_residual.ensures.1 in
    failed_reads a (state g.A.Store c.number_named.new.conn) (IsNumberOf first_schema count_query) (λ _ kept. held kept ≡ k) _ p.0 c.from_residual.result p.1
    (c.in_err-count.ensures.looks first_schema (first_text _ _ first_count) (first_quiets a k first))

pub returns-in_err-answers-clause-looks : goal.returns-in_err-answers-clause-looks
returns-in_err-answers-clause-looks g c k first =
    let a = state g.A.Store c.args.conn.now in
    let b = state g.A.Store c.number_named.new.conn in
    let d = state g.A.Store c.answers.new.conn in
    let number = c.in_ok-count.ensures.looks first_schema (first_text _ _ first_count) (first_quiets a k first) in
    let mid = first_still a b k (IsNumberOf first_schema count_query) (Ok c.in_ok-count.count) first number in
    let p = err_from_is_err_and c.from_residual-in_err-answers.result c.from_residual-in_err-answers.ensures.1 in
    failed_reads a d _ (λ _ kept. held kept ≡ k) _ p.0 c.from_residual-in_err-answers.result p.1
    (and_reads a b d (IsNumberOf first_schema count_query) answered c.in_ok-count.count (Err c.in_err-answers.field-0.0) number
    (c.in_err-answers.ensures.looks first_schema are_first_queries (first_quiets b k mid)))

pub returns-clause-looks : goal.returns-clause-looks
returns-clause-looks g c k first =
    let same : c.deref.result.now ≡ c.in_ok-answers.field-0.items = search rules in
    let a = state g.A.Store c.args.conn.now in
    let b = state g.A.Store c.number_named.new.conn in
    let d = state g.A.Store c.answers.new.conn in
    let n = c.in_ok-count.count in
    let number = c.in_ok-count.ensures.looks first_schema (first_text _ _ first_count) (first_quiets a k first) in
    let mid = first_still a b k (IsNumberOf first_schema count_query) (Ok n) first number in
    content_read a b d k first n number c.in_ok-answers.field-0 c.one_part_spelling.ensures c.first_content_of.result
    (c.in_ok-answers.ensures.looks first_schema are_first_queries (first_quiets b k mid))
    (subst (λ xs. IfOk c.first_content_of.result (λ kept. HoldsFirst 0 (first_answered (rows_of xs)) n (held kept))) same c.first_content_of.ensures.found)

pub returns-in_err-count-clause-recognized : goal.returns-in_err-count-clause-recognized
returns-in_err-count-clause-recognized g c is clean k first =
    let a = state g.A.Store c.args.conn.now in
    c.in_err-count.ensures.told (told_by c.from_residual.result c.in_err-count.field-0.0 c.from_residual.ensures.1 is) clean first_schema (first_text _ _ first_count) (first_quiets a k first)
    (λ up. number_there count_query (codes "count") first_count a.now k.count (first (c.number_named.ensures.clean clean) up).store.count)

pub returns-in_err-answers-clause-recognized : goal.returns-in_err-answers-clause-recognized
returns-in_err-answers-clause-recognized g c is clean k first =
    c.in_err-answers.ensures.told (told_by c.from_residual-in_err-answers.result c.in_err-answers.field-0.0 c.from_residual-in_err-answers.ensures.1 is)

pub returns-clause-recognized : goal.returns-clause-recognized
returns-clause-recognized g c is clean k first =
    let same : c.deref.result.now ≡ c.in_ok-answers.field-0.items = search rules in
    let a = state g.A.Store c.args.conn.now in
    let b = state g.A.Store c.number_named.new.conn in
    let d = state g.A.Store c.answers.new.conn in
    let n = c.in_ok-count.count in
    let number = c.in_ok-count.ensures.looks first_schema (first_text _ _ first_count) (first_quiets a k first) in
    let mid = first_still a b k (IsNumberOf first_schema count_query) (Ok n) first number in
    first_told a b d k first n number c.in_ok-answers.field-0 c.deref.result.now same clean
    (c.in_ok-answers.ensures.looks first_schema are_first_queries (first_quiets b k mid))
    (λ four keyed. c.first_content_of.ensures.told is four keyed k)

-- ---- failures

pub returns-in_err-count-clause-failed : goal.returns-in_err-count-clause-failed
returns-in_err-count-clause-failed g c is clean =
    first_failed g.A.Store count_query first_queries c.args.conn.now (state g.A.Store c.number_named.new.conn)
    (c.in_err-count.ensures.failed (failed_by c.from_residual.result c.in_err-count.field-0.0 c.from_residual.ensures.1 is) clean)

pub returns-in_err-answers-clause-failed : goal.returns-in_err-answers-clause-failed
returns-in_err-answers-clause-failed g c is clean =
    failed_later g.A.Store (count_query ∷ []) first_queries (state g.A.Store c.args.conn.now) (state g.A.Store c.number_named.new.conn) (state g.A.Store c.answers.new.conn) c.in_ok-count.count
    c.in_ok-count.ensures.outside c.number_named.ensures.track
    (c.in_err-answers.ensures.failed (failed_by c.from_residual-in_err-answers.result c.in_err-answers.field-0.0 c.from_residual-in_err-answers.ensures.1 is) clean)

pub returns-clause-failed : goal.returns-clause-failed
returns-clause-failed g c is clean = absurd (no_failure c.first_content_of.result c.first_content_of.ensures.ours is)
