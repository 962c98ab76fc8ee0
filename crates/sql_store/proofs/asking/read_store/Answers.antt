use Rattle.std.proofs.Common.{Ok, Err, sym, ◌∙◌, true≢false}
use Rattle.std.proofs.lemmas.Result.{err_from_is_err_and}
use Rattle.sqlite.specs.Held.{state}
use Rattle.stable_store.specs.declared.kept.Kept.{Kept}
use Rattle.stable_store.specs.Held.{held}
use Rattle.store_tables.specs.Holds.{Holds, IsLaidOut, tables_of}
use Rattle.store_tables.specs.Rows.{HaveRowids}
use Rattle.sql_store.proofs.Sequences.{weaker_reads, and_checks, failed_reads}
use Rattle.sql_store.proofs.Outside.{stays_self, stays_then, stays_err}
use Rattle.store_tables.proofs.Told.{told_by}
use Rattle.sql_store.proofs.Loads.{quiets}
use Rattle.sql_store.proofs.Found.{stands_still}
use Rattle.store_tables.specs.Answered.{queries}
use Rattle.sql_store.specs.Failing.{rowid_queries}
use Rattle.sql_store.proofs.Failing.{failed_by, failed_early, failed_later, tracks_self}
use Rattle.sql_store.proofs.asking.read_store.Goals as goal

pub returns-in_err-check_rowids-clause-looks : goal.returns-in_err-check_rowids-clause-looks
returns-in_err-check_rowids-clause-looks g c known quiet =
    let p = err_from_is_err_and c.from_residual.result c.from_residual.ensures.1 in
    failed_reads (state g.A.Store c.args.conn.now) (state g.A.Store c.check_rowids.new.conn) (λ d (_ : Unit {0}). HaveRowids d.trees)
    (λ d kept. IsLaidOut d.trees (held kept)) _ p.0 c.from_residual.result p.1 (c.in_err-check_rowids.ensures.looks quiet)

pub returns-clause-looks : goal.returns-clause-looks
returns-clause-looks g c known quiet =
    let old = state g.A.Store c.args.conn.now in
    let mid = state g.A.Store c.check_rowids.new.conn in
    let new = state g.A.Store c.read_content-2.new.conn in
    weaker_reads old new (λ d (k : Kept). HaveRowids d.trees × Holds 1 (tables_of d.trees) (held k)) (λ d k. IsLaidOut d.trees (held k)) c.read_content-2.result (λ d k h. h)
    (and_checks old mid new (λ d (_ : Unit {0}). HaveRowids d.trees) (λ d k. Holds 1 (tables_of d.trees) (held k)) c.in_ok-check_rowids.field-0 c.read_content-2.result quiet (c.in_ok-check_rowids.ensures.looks quiet) c.read_content-2.ensures.looks)

pub returns-then-not-is_known-clause-looks : goal.returns-then-not-is_known-clause-looks
returns-then-not-is_known-clause-looks g c known quiet = absurd (true≢false (sym known ∙ c.if-not-is_known.true))

pub returns-in_err-check_rowids-clause-outside : goal.returns-in_err-check_rowids-clause-outside
returns-in_err-check_rowids-clause-outside g c =
    let p = err_from_is_err_and c.from_residual.result c.from_residual.ensures.1 in
    stays_err (state g.A.Store c.args.conn.now) (state g.A.Store c.check_rowids.new.conn) (Err c.in_err-check_rowids.field-0.0) p.0 c.from_residual.result p.1 c.in_err-check_rowids.ensures.outside

pub returns-clause-outside : goal.returns-clause-outside
returns-clause-outside g c =
    stays_then (state g.A.Store c.args.conn.now) (state g.A.Store c.check_rowids.new.conn) (state g.A.Store c.read_content-2.new.conn) c.in_ok-check_rowids.field-0 c.read_content-2.result
    c.in_ok-check_rowids.ensures.outside c.read_content-2.ensures.outside

pub returns-in_err-check_rowids-clause-recognized : goal.returns-in_err-check_rowids-clause-recognized
returns-in_err-check_rowids-clause-recognized g c is clean k stands =
    c.in_err-check_rowids.ensures.recognized (told_by c.from_residual.result c.in_err-check_rowids.field-0.0 c.from_residual.ensures.1 is) clean k stands

pub returns-clause-recognized : goal.returns-clause-recognized
returns-clause-recognized g c is clean k stands =
    let old = state g.A.Store c.args.conn.now in
    let mid = state g.A.Store c.check_rowids.new.conn in
    c.read_content-2.ensures.recognized is clean k
    (stands_still old mid k (λ d (_ : Unit {0}). HaveRowids d.trees) (Ok c.in_ok-check_rowids.field-0) stands (c.in_ok-check_rowids.ensures.looks (quiets old k stands)))

-- ---- tables beside others

pub returns-in_err-check_rowids-clause-beside : goal.returns-in_err-check_rowids-clause-beside
returns-in_err-check_rowids-clause-beside g c other k it = absurd (true≢false (sym c.if-not-is_known.false ∙ other))

pub returns-clause-beside : goal.returns-clause-beside
returns-clause-beside g c other k it = absurd (true≢false (sym c.if-not-is_known.false ∙ other))

pub returns-in_err-check_rowids-clause-recognized_beside : goal.returns-in_err-check_rowids-clause-recognized_beside
returns-in_err-check_rowids-clause-recognized_beside g c other is clean k it = absurd (true≢false (sym c.if-not-is_known.false ∙ other))

pub returns-clause-recognized_beside : goal.returns-clause-recognized_beside
returns-clause-recognized_beside g c other is clean k it = absurd (true≢false (sym c.if-not-is_known.false ∙ other))

-- ---- failures

pub returns-in_err-check_rowids-clause-failed : goal.returns-in_err-check_rowids-clause-failed
returns-in_err-check_rowids-clause-failed g c is clean =
    failed_early g.A.Store rowid_queries queries (state g.A.Store c.args.conn.now) (state g.A.Store c.check_rowids.new.conn)
    (c.in_err-check_rowids.ensures.failed (failed_by c.from_residual.result c.in_err-check_rowids.field-0.0 c.from_residual.ensures.1 is) clean)

pub returns-clause-failed : goal.returns-clause-failed
returns-clause-failed g c is clean =
    failed_later g.A.Store rowid_queries queries (state g.A.Store c.args.conn.now) (state g.A.Store c.check_rowids.new.conn) (state g.A.Store c.read_content-2.new.conn) c.in_ok-check_rowids.field-0
    c.in_ok-check_rowids.ensures.outside c.check_rowids.ensures.track (c.read_content-2.ensures.failed is clean)

pub returns-then-not-is_known-clause-failed : goal.returns-then-not-is_known-clause-failed
returns-then-not-is_known-clause-failed g c is clean =
    let old = state g.A.Store c.args.conn.now in
    failed_later g.A.Store {T = Unit {0}} rowid_queries queries old old (state g.A.Store c.read_content.new.conn) tt (stays_self old tt) (tracks_self old) (c.read_content.ensures.failed is clean)
