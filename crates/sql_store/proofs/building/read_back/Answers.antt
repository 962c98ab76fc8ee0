use Rattle.std.proofs.Common.{◌≡◌, Vec, Global, IfOk, Err, rules, sym, subst, ◌∙◌}
use Rattle.std.proofs.lemmas.Result.{err_from_is_err_and}
use Rattle.std.specs.List.{AllByRecursion}
use Rattle.sqlite_trees.specs.View.{IsShaped}
use Rattle.sqlite_trees.specs.declared.store.Shape.TheVariants.{Table}
use Rattle.sqlite.specs.Held.{state}
use Rattle.sqlite.specs.Order.{Row}
use Rattle.stable_store.specs.declared.fault.StoreFault.TheVariants.{NotOurs}
use Rattle.stable_store.specs.declared.kept.Kept.{Kept}
use Rattle.stable_store.specs.Held.{held}
use Rattle.store_tables.specs.Answered.{answered, queries, rows_of}
use Rattle.store_tables.specs.Holds.{Holds, IsLaidOut}
use Rattle.sql_store.specs.Reading.{AreAnswered, Looks}
use Rattle.sql_store.specs.Failing.{rowid_queries}
use Rattle.sql_store.proofs.Looking.{clean_before, looks_err, then_looks}
use Rattle.sql_store.proofs.Queries.{are_queries}
use Rattle.sql_store.proofs.Rowids.{are_rowids_queries}
use Rattle.sql_store.proofs.ReadBack.{laid_seen}
use Rattle.sql_store.proofs.Schemas.{on_ok}
use Rattle.sql_store.proofs.building.read_back.Goals as goal

pub returns-in_err-answers-clause-looks : goal.returns-in_err-answers-clause-looks
returns-in_err-answers-clause-looks g c clean within =
    let a = state g.A.Store c.args.tx.now.conn.now in
    let b = state g.A.Store c.answers.new.tx.conn.now in
    let laid : Kept → Type 0 = λ kept. IsLaidOut b.now.trees (held kept) in
    let p = err_from_is_err_and c.from_residual.result c.from_residual.ensures.1 in
    subst (Looks a b laid) (sym p.1)
    (looks_err a b (λ (all : Vec (Vec Row Global) Global). AreAnswered a.now rowid_queries (rows_of all.items)) laid (Err c.in_err-answers.field-0.0) p.0
    (c.in_err-answers.ensures.looks clean within are_rowids_queries))

pub returns-then-not-all_rise-clause-looks : goal.returns-then-not-all_rise-clause-looks
returns-then-not-all_rise-clause-looks g c clean within =
    let a = state g.A.Store c.args.tx.now.conn.now in
    let b = state g.A.Store c.answers.new.tx.conn.now in
    looks_err a b (λ (all : Vec (Vec Row Global) Global). AreAnswered a.now rowid_queries (rows_of all.items)) (λ kept. IsLaidOut b.now.trees (held kept)) _ NotOurs
    (c.in_ok-answers.ensures.looks clean within are_rowids_queries)

pub returns-in_err-answers-2-clause-looks : goal.returns-in_err-answers-2-clause-looks
returns-in_err-answers-2-clause-looks g c clean within =
    let a = state g.A.Store c.args.tx.now.conn.now in
    let b = state g.A.Store c.answers.new.tx.conn.now in
    let d = state g.A.Store c.answers-2.new.tx.conn.now in
    let laid : Kept → Type 0 = λ kept. IsLaidOut d.now.trees (held kept) in
    let p = err_from_is_err_and c.from_residual-in_err-answers-2.result c.from_residual-in_err-answers-2.ensures.1 in
    subst (Looks a d laid) (sym p.1)
    (then_looks a b d (λ (all : Vec (Vec Row Global) Global). AreAnswered a.now rowid_queries (rows_of all.items)) laid c.in_ok-answers.field-0 (Err p.0) within
    (c.in_ok-answers.ensures.looks (clean_before b d _ c.answers-2.ensures.survives clean) within are_rowids_queries)
    (λ w. looks_err b d (λ (all : Vec (Vec Row Global) Global). AreAnswered b.now queries (rows_of all.items))
    (λ kept. b.now ≡ a.now → AreAnswered a.now rowid_queries (rows_of c.in_ok-answers.field-0.items) → laid kept) (Err c.in_err-answers-2.field-0.0) p.0
    (c.in_err-answers-2.ensures.looks clean w are_queries)))

pub returns-clause-looks : goal.returns-clause-looks
returns-clause-looks g c clean within =
    let a = state g.A.Store c.args.tx.now.conn.now in
    let b = state g.A.Store c.answers.new.tx.conn.now in
    let d = state g.A.Store c.answers-2.new.tx.conn.now in
    let ids : c.deref.result.now ≡ c.in_ok-answers.field-0.items = search rules in
    let rows : c.deref-2.result.now ≡ c.in_ok-answers-2.field-0.items = search rules in
    laid_seen a b d c.in_ok-answers.field-0 c.in_ok-answers-2.field-0 c.content_of.result within
    (c.in_ok-answers.ensures.looks (clean_before b d _ c.answers-2.ensures.survives clean) within are_rowids_queries)
    (λ w. c.in_ok-answers-2.ensures.looks clean w are_queries)
    (subst (λ xs. AllByRecursion (IsShaped Table) (rows_of xs)) ids (c.all_rise.ensures.rises c.if-not-all_rise.false))
    (subst (λ xs. IfOk c.content_of.result (λ k. Holds 0 (answered (rows_of xs)) (held k))) rows c.content_of.ensures.found)

pub returns-clause-schema : goal.returns-clause-schema
returns-clause-schema g c clean =
    let b = state g.A.Store c.answers.new.tx.conn.now in
    let d = state g.A.Store c.answers-2.new.tx.conn.now in
    on_ok c.content_of.result _ (c.in_ok-answers-2.ensures.schema clean ∙ c.in_ok-answers.ensures.schema (clean_before b d _ c.answers-2.ensures.survives clean))
