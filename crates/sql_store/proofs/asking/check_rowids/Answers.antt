use Rattle.std.proofs.Common.{◌≡◌, Vec, Global, Ok, Err, rules, subst, sym, ◌∙◌, true≢false}
use Rattle.std.proofs.lemmas.Result.{err_from_is_err_and}
use Rattle.stable_store.specs.declared.fault.StoreFault.TheVariants.{NotOurs}
use Rattle.std.specs.List.{AllByRecursion}
use Rattle.sqlite_trees.specs.View.{IsShaped}
use Rattle.sqlite_trees.specs.declared.store.Shape.TheVariants.{Table}
use Rattle.sqlite.specs.Held.{state}
use Rattle.sqlite.specs.Order.{Row}
use Rattle.store_tables.specs.Tables.{stable_schema}
use Rattle.store_tables.specs.Answered.{rows_of}
use Rattle.store_tables.specs.Rows.{HaveRowids}
use Rattle.sql_store.specs.Reading.{AreAnswered}
use Rattle.sql_store.proofs.Rowids.{are_rowids_queries, all_keyed}
use Rattle.sql_store.proofs.Sequences.{then_reads, failed_reads}
use Rattle.sql_store.proofs.Outside.{stays_any, stays_err}
use Rattle.store_tables.proofs.Told.{told_by}
use Rattle.sql_store.specs.Failing.{rowid_queries}
use Rattle.sql_store.proofs.Loads.{quiets}
use Rattle.sql_store.proofs.Recognized.{rowids_told}
use Rattle.sql_store.proofs.Failing.{failed_by}
use Rattle.sql_store.proofs.asking.check_rowids.Goals as goal

pub returns-in_err-answers-clause-looks : goal.returns-in_err-answers-clause-looks
returns-in_err-answers-clause-looks g c quiet =
    let p = err_from_is_err_and c.from_residual.result c.from_residual.ensures.1 in
    failed_reads (state g.A.Store c.args.conn.now) (state g.A.Store c.answers.new.conn) (λ d (all : Vec (Vec Row Global) Global). AreAnswered d rowid_queries (rows_of all.items))
    (λ d _. HaveRowids d.trees) _ p.0 c.from_residual.result p.1 (c.in_err-answers.ensures.looks stable_schema are_rowids_queries quiet)

pub returns-in-true-clause-looks : goal.returns-in-true-clause-looks
returns-in-true-clause-looks g c quiet =
    let same : c.deref.result.now ≡ c.in_ok-answers.field-0.items = search rules in
    let old = state g.A.Store c.args.conn.now in
    let new = state g.A.Store c.answers.new.conn in
    then_reads old new (λ d (all : Vec (Vec Row Global) Global). AreAnswered d rowid_queries (rows_of all.items)) (λ d _. HaveRowids d.trees)
    c.in_ok-answers.field-0 (Ok tt) quiet (c.in_ok-answers.ensures.looks stable_schema are_rowids_queries quiet)
    (λ q shown. all_keyed old.now (rows_of c.in_ok-answers.field-0.items) shown
    (subst (λ xs. AllByRecursion (IsShaped Table) (rows_of xs)) same (c.all_rise.ensures.rises c.in-true.is)))

pub returns-clause-looks : goal.returns-clause-looks
returns-clause-looks g c quiet =
    let old = state g.A.Store c.args.conn.now in
    let new = state g.A.Store c.answers.new.conn in
    then_reads old new (λ d (all : Vec (Vec Row Global) Global). AreAnswered d rowid_queries (rows_of all.items)) (λ d (_ : Unit {0}). HaveRowids d.trees)
    c.in_ok-answers.field-0 (Err NotOurs) quiet (c.in_ok-answers.ensures.looks stable_schema are_rowids_queries quiet) (λ q shown. tt)

pub returns-in_err-answers-clause-outside : goal.returns-in_err-answers-clause-outside
returns-in_err-answers-clause-outside g c =
    let p = err_from_is_err_and c.from_residual.result c.from_residual.ensures.1 in
    stays_err (state g.A.Store c.args.conn.now) (state g.A.Store c.answers.new.conn) (Err c.in_err-answers.field-0.0) p.0 c.from_residual.result p.1 c.in_err-answers.ensures.outside

pub returns-in-true-clause-outside : goal.returns-in-true-clause-outside
returns-in-true-clause-outside g c = stays_any (state g.A.Store c.args.conn.now) (state g.A.Store c.answers.new.conn) c.in_ok-answers.field-0 (Ok tt) c.in_ok-answers.ensures.outside

pub returns-clause-outside : goal.returns-clause-outside
returns-clause-outside g c = stays_any (state g.A.Store c.args.conn.now) (state g.A.Store c.answers.new.conn) c.in_ok-answers.field-0 (Err NotOurs) c.in_ok-answers.ensures.outside

pub returns-in_err-answers-clause-recognized : goal.returns-in_err-answers-clause-recognized
returns-in_err-answers-clause-recognized g c is clean k stands =
    c.in_err-answers.ensures.told (told_by c.from_residual.result c.in_err-answers.field-0.0 c.from_residual.ensures.1 is)

pub returns-clause-recognized : goal.returns-clause-recognized
returns-clause-recognized g c is clean k stands =
    let same : c.deref.result.now ≡ c.in_ok-answers.field-0.items = search rules in
    let old = state g.A.Store c.args.conn.now in
    let new = state g.A.Store c.answers.new.conn in
    let rise = rowids_told old new k c.in_ok-answers.field-0 c.deref.result.now same clean stands (c.in_ok-answers.ensures.looks stable_schema are_rowids_queries (quiets old k stands)) in
    true≢false (sym (c.all_rise.ensures.found rise) ∙ c.in-false.is)

pub returns-in_err-answers-clause-failed : goal.returns-in_err-answers-clause-failed
returns-in_err-answers-clause-failed g c is clean =
    c.in_err-answers.ensures.failed (failed_by c.from_residual.result c.in_err-answers.field-0.0 c.from_residual.ensures.1 is) clean
