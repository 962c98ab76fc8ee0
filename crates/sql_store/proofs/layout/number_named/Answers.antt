use Rattle.std.proofs.Common.{◌≡◌, Vec, Global, IfOk, rules, sym, subst}
use Rattle.std.proofs.lemmas.Result.{err_from_is_err_and}
use Rattle.sqlite.specs.Held.{state}
use Rattle.sqlite.specs.Order.{Row}
use Rattle.store_tables.proofs.Told.{told_by}
use Rattle.sql_store.specs.Reading.{IsAnswerOf, IsOnlyNumber, IsNumberOf}
use Rattle.sql_store.proofs.Sequences.{failed_reads, then_reads, ok_leads}
use Rattle.std.proofs.Common.{Err}
use Rattle.sql_store.proofs.Outside.{stays_any, stays_err}
use Rattle.sql_store.proofs.Failing.{failed_by, no_failure}
use Rattle.sql_store.proofs.layout.number_named.Goals as goal

pub returns-in_err-rows-clause-looks : goal.returns-in_err-rows-clause-looks
returns-in_err-rows-clause-looks g c tables text quiet =
    let p = err_from_is_err_and c.from_residual.result c.from_residual.ensures.1 in
    failed_reads (state g.A.Store c.args.conn.now) (state g.A.Store c.answer.new.conn) (λ d (rows : Vec Row Global). IsAnswerOf tables d c.args.query.now rows.items)
    (IsNumberOf tables c.args.query.now) _ p.0 c.from_residual.result p.1 (c.in_err-rows.ensures.looks tables text quiet)

pub returns-clause-looks : goal.returns-clause-looks
returns-clause-looks g c tables text quiet =
    let same : c.deref.result.now ≡ c.in_ok-rows.rows.items = search rules in
    let sql = c.args.query.now in
    let found : IfOk c.only_number.result (IsOnlyNumber c.in_ok-rows.rows.items) = subst (λ xs. IfOk c.only_number.result (IsOnlyNumber xs)) same c.only_number.ensures.number in
    then_reads (state g.A.Store c.args.conn.now) (state g.A.Store c.answer.new.conn) (λ d (rows : Vec Row Global). IsAnswerOf tables d sql rows.items)
    (IsNumberOf tables sql) c.in_ok-rows.rows c.only_number.result quiet (c.in_ok-rows.ensures.looks tables text quiet)
    (λ q shown. ok_leads c.only_number.result (IsOnlyNumber c.in_ok-rows.rows.items) (IsNumberOf tables sql (state g.A.Store c.args.conn.now).now)
    (λ n one. (c.in_ok-rows.rows.items, shown, one)) found)

pub returns-in_err-rows-clause-told : goal.returns-in_err-rows-clause-told
returns-in_err-rows-clause-told g c is clean tables text quiet counted =
    c.in_err-rows.ensures.told (told_by c.from_residual.result c.in_err-rows.field-0.0 c.from_residual.ensures.1 is)

pub returns-clause-told : goal.returns-clause-told
returns-clause-told g c is clean tables text quiet counted =
    let same : c.deref.result.now ≡ c.in_ok-rows.rows.items = search rules in
    let looked = (c.in_ok-rows.ensures.looks tables text quiet).ok clean in
    let one = counted looked.0.was_open c.in_ok-rows.rows.items looked.1 in
    c.only_number.ensures.told is one.0 (subst (λ xs. IsOnlyNumber xs one.0) (sym same) one.1)

pub returns-in_err-rows-clause-outside : goal.returns-in_err-rows-clause-outside
returns-in_err-rows-clause-outside g c =
    let p = err_from_is_err_and c.from_residual.result c.from_residual.ensures.1 in
    stays_err (state g.A.Store c.args.conn.now) (state g.A.Store c.answer.new.conn) (Err c.in_err-rows.field-0.0) p.0 c.from_residual.result p.1 c.in_err-rows.ensures.outside

pub returns-clause-outside : goal.returns-clause-outside
returns-clause-outside g c = stays_any (state g.A.Store c.args.conn.now) (state g.A.Store c.answer.new.conn) c.in_ok-rows.rows c.only_number.result c.in_ok-rows.ensures.outside

pub returns-in_err-rows-clause-failed : goal.returns-in_err-rows-clause-failed
returns-in_err-rows-clause-failed g c is clean =
    c.in_err-rows.ensures.failed (failed_by c.from_residual.result c.in_err-rows.field-0.0 c.from_residual.ensures.1 is) clean

pub returns-clause-failed : goal.returns-clause-failed
returns-clause-failed g c is clean = absurd (no_failure c.only_number.result c.only_number.ensures.ours is)
