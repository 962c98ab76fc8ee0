use Rattle.std.proofs.Common.{◌≡◌, codes, IfOk, IsTrue, Ok, Err, Some, option_map, refl, ap, subst, ◌∙◌}
use Rattle.sqlite.specs.Effect.{Database}
use Rattle.sqlite.specs.Held.{state}
use Rattle.stable_store.specs.Held.{held}
use Rattle.store_tables.specs.Tables.{first_schema}
use Rattle.store_tables.proofs.Told.{told_by}
use Rattle.sql_store.specs.Reading.{IsNumberOf, StopLeaves}
use Rattle.sql_store.proofs.Found.{on_err, err_leads}
use Rattle.sql_store.proofs.Numbers.{version_text}
use Rattle.sql_store.proofs.FirstQueries.{first_text, first_version, number_there}
use Rattle.sql_store.proofs.FirstRead.{first_quiets, first_still, version_is}
use Rattle.sql_store.proofs.Stops.{stop_looked, stop_after}
use Rattle.sql_store.proofs.opening.migrate.Goals as goal

pub returns-in_err-number_named-clause-recognized : goal.returns-in_err-number_named-clause-recognized
returns-in_err-number_named-clause-recognized g c is clean k first =
    let a = state g.A.Store c.args.conn.now in
    c.in_err-number_named.ensures.told (told_by c.from_residual.result c.in_err-number_named.field-0.0 c.from_residual.ensures.1 is) clean first_schema (first_text _ _ first_version)
    (first_quiets a k first)
    (λ up. number_there version_text (codes "version") first_version a.now 1 (first (c.number_named.ensures.clean clean) up).store.version)

pub returns-in_err-number_named-clause-refused : goal.returns-in_err-number_named-clause-refused
returns-in_err-number_named-clause-refused g c clean k first =
    let a = state g.A.Store c.args.conn.now in
    let b = state g.A.Store c.number_named.new.conn in
    on_err c.from_residual.result (IsTrue b.is_open → b.now ≡ a.now)
    (λ up. ((c.in_err-number_named.ensures.looks first_schema (first_text _ _ first_version) (first_quiets a k first)).err clean up).now)

pub returns-then-branch-ne1-clause-recognized : goal.returns-then-branch-ne1-clause-recognized
returns-then-branch-ne1-clause-recognized g c is clean k first =
    let a = state g.A.Store c.args.conn.now in
    let looked = c.in_ok-number_named.ensures.looks first_schema (first_text _ _ first_version) (first_quiets a k first) in
    let ok = looked.ok clean in
    let rest = first (looked.clean clean) ok.0.was_open in
    c.if-branch-ne1.true (version_is a.now k c.in_ok-number_named.field-0 rest.store ok.1)

pub returns-then-branch-ne1-clause-refused : goal.returns-then-branch-ne1-clause-refused
returns-then-branch-ne1-clause-refused g c clean k first up =
    let a = state g.A.Store c.args.conn.now in
    ((c.in_ok-number_named.ensures.looks first_schema (first_text _ _ first_version) (first_quiets a k first)).ok clean).0.now

pub returns-in-Ok-clause-migrates : goal.returns-in-Ok-clause-migrates
returns-in-Ok-clause-migrates g c clean k first =
    let a = state g.A.Store c.args.conn.now in
    let b = state g.A.Store c.number_named.new.conn in
    let looked = c.in_ok-number_named.ensures.looks first_schema (first_text _ _ first_version) (first_quiets a k first) in
    let mid = first_still a b k (IsNumberOf first_schema version_text) (Ok c.in_ok-number_named.field-0) first looked in
    let same = ((c.in-Ok.ensures.looks k mid).ok (c.lay_out.ensures.clean clean)).1 in
    subst (λ x. IfOk c.lay_out.result (λ it. option_map held it.kept ≡ Some x)) same (c.lay_out.ensures.as_given (λ e. cc))

pub returns-in-Ok-clause-recognized : goal.returns-in-Ok-clause-recognized
returns-in-Ok-clause-recognized g c is clean k first = c.lay_out.ensures.told (λ e. cc) is

pub returns-in-Ok-clause-refused : goal.returns-in-Ok-clause-refused
returns-in-Ok-clause-refused g c clean k first =
    let a = state g.A.Store c.args.conn.now in
    let b = state g.A.Store c.number_named.new.conn in
    let d = state g.A.Store c.read_first.new.conn in
    let e = state g.A.Store c.lay_out.new.conn in
    let looked = c.in_ok-number_named.ensures.looks first_schema (first_text _ _ first_version) (first_quiets a k first) in
    let mid = first_still a b k (IsNumberOf first_schema version_text) (Ok c.in_ok-number_named.field-0) first looked in
    let read = c.in-Ok.ensures.looks k mid in
    let before = c.lay_out.ensures.clean clean in
    let same = (read.ok before).0.now ∙ (looked.ok (read.clean before)).0.now in
    err_leads c.lay_out.result (IsTrue e.is_open → e.now ≡ d.now) (IsTrue e.is_open → e.now ≡ a.now) (λ h up. h up ∙ same) (c.lay_out.ensures.refused clean)

pub returns-in-Err-NotOurs-clause-migrates : goal.returns-in-Err-NotOurs-clause-migrates
returns-in-Err-NotOurs-clause-migrates g c clean k first =
    let a = state g.A.Store c.args.conn.now in
    let b = state g.A.Store c.number_named.new.conn in
    let looked = c.in_ok-number_named.ensures.looks first_schema (first_text _ _ first_version) (first_quiets a k first) in
    let mid = first_still a b k (IsNumberOf first_schema version_text) (Ok c.in_ok-number_named.field-0) first looked in
    absurd (c.in-Err-NotOurs.ensures.recognized (ap Err c.in-Err-NotOurs.field-0-is) clean k mid)

pub returns-in-Err-clause-recognized : goal.returns-in-Err-clause-recognized
returns-in-Err-clause-recognized g c is clean k first =
    let a = state g.A.Store c.args.conn.now in
    let b = state g.A.Store c.number_named.new.conn in
    let looked = c.in_ok-number_named.ensures.looks first_schema (first_text _ _ first_version) (first_quiets a k first) in
    let mid = first_still a b k (IsNumberOf first_schema version_text) (Ok c.in_ok-number_named.field-0) first looked in
    c.in-Err.ensures.recognized (told_by (Err c.in-Err.fault) c.in-Err.fault refl is) clean k mid

pub returns-in-Err-clause-refused : goal.returns-in-Err-clause-refused
returns-in-Err-clause-refused g c clean k first up =
    let a = state g.A.Store c.args.conn.now in
    let b = state g.A.Store c.number_named.new.conn in
    let looked = c.in_ok-number_named.ensures.looks first_schema (first_text _ _ first_version) (first_quiets a k first) in
    let mid = first_still a b k (IsNumberOf first_schema version_text) (Ok c.in_ok-number_named.field-0) first looked in
    let read = c.in-Err.ensures.looks k mid in
    (read.err clean up).now ∙ (looked.ok (read.clean clean)).0.now

-- ---- the schema

pub returns-in-Ok-clause-makes : goal.returns-in-Ok-clause-makes
returns-in-Ok-clause-makes g c clean k first =
    let a = state g.A.Store c.args.conn.now in
    let b = state g.A.Store c.number_named.new.conn in
    let looked = c.in_ok-number_named.ensures.looks first_schema (first_text _ _ first_version) (first_quiets a k first) in
    let mid = first_still a b k (IsNumberOf first_schema version_text) (Ok c.in_ok-number_named.field-0) first looked in
    let read = c.in-Ok.ensures.looks k mid in
    let before = c.lay_out.ensures.clean clean in
    let was = looked.ok (read.clean before) in
    let same = (read.ok before).0.now ∙ was.0.now in
    c.lay_out.ensures.lays_out clean (ap (λ (d : Database). d.schema) same ∙ (first (looked.clean (read.clean before)) was.0.was_open).schema)

pub returns-in-Err-NotOurs-clause-makes : goal.returns-in-Err-NotOurs-clause-makes
returns-in-Err-NotOurs-clause-makes g c clean k first =
    let a = state g.A.Store c.args.conn.now in
    let b = state g.A.Store c.number_named.new.conn in
    let looked = c.in_ok-number_named.ensures.looks first_schema (first_text _ _ first_version) (first_quiets a k first) in
    let mid = first_still a b k (IsNumberOf first_schema version_text) (Ok c.in_ok-number_named.field-0) first looked in
    absurd (c.in-Err-NotOurs.ensures.recognized (ap Err c.in-Err-NotOurs.field-0-is) clean k mid)

-- ---- what a stop leaves

pub returns-in_err-number_named-clause-leaves : goal.returns-in_err-number_named-clause-leaves
returns-in_err-number_named-clause-leaves g c k first =
    let a = state g.A.Store c.args.conn.now in
    let b = state g.A.Store c.number_named.new.conn in
    stop_looked a b (IsNumberOf first_schema version_text) _ k
    (c.in_err-number_named.ensures.looks first_schema (first_text _ _ first_version) (first_quiets a k first))

pub returns-then-branch-ne1-clause-leaves : goal.returns-then-branch-ne1-clause-leaves
returns-then-branch-ne1-clause-leaves g c k first =
    let a = state g.A.Store c.args.conn.now in
    let b = state g.A.Store c.number_named.new.conn in
    stop_looked a b (IsNumberOf first_schema version_text) _ k
    (c.in_ok-number_named.ensures.looks first_schema (first_text _ _ first_version) (first_quiets a k first))

pub returns-in-Ok-clause-leaves : goal.returns-in-Ok-clause-leaves
returns-in-Ok-clause-leaves g c k first clean =
    let a = state g.A.Store c.args.conn.now in
    let b = state g.A.Store c.number_named.new.conn in
    let d = state g.A.Store c.read_first.new.conn in
    let e = state g.A.Store c.lay_out.new.conn in
    let looked = c.in_ok-number_named.ensures.looks first_schema (first_text _ _ first_version) (first_quiets a k first) in
    let mid = first_still a b k (IsNumberOf first_schema version_text) (Ok c.in_ok-number_named.field-0) first looked in
    let read = c.in-Ok.ensures.looks k mid in
    let before = c.lay_out.ensures.clean clean in
    let was = looked.ok (read.clean before) in
    let same = (read.ok before).0.now ∙ was.0.now in
    let schema = ap (λ (x : Database). x.schema) same ∙ (first (looked.clean (read.clean before)) was.0.was_open).schema in
    let made : StopLeaves d e k = subst (StopLeaves d e) (read.ok before).1 (c.lay_out.ensures.leaves (λ is. cc) schema) in
    stop_after a b e (IsNumberOf first_schema version_text) _ k looked (λ h. read.clean (c.lay_out.ensures.clean h))
    (stop_after b d e (λ _ kept. held kept ≡ k) _ k read c.lay_out.ensures.clean made) clean

pub returns-in-Err-NotOurs-clause-leaves : goal.returns-in-Err-NotOurs-clause-leaves
returns-in-Err-NotOurs-clause-leaves g c k first clean =
    let a = state g.A.Store c.args.conn.now in
    let b = state g.A.Store c.number_named.new.conn in
    let looked = c.in_ok-number_named.ensures.looks first_schema (first_text _ _ first_version) (first_quiets a k first) in
    let mid = first_still a b k (IsNumberOf first_schema version_text) (Ok c.in_ok-number_named.field-0) first looked in
    absurd (c.in-Err-NotOurs.ensures.recognized (ap Err c.in-Err-NotOurs.field-0-is) clean k mid)

pub returns-in-Err-clause-leaves : goal.returns-in-Err-clause-leaves
returns-in-Err-clause-leaves g c k first =
    let a = state g.A.Store c.args.conn.now in
    let b = state g.A.Store c.number_named.new.conn in
    let d = state g.A.Store c.read_first.new.conn in
    let looked = c.in_ok-number_named.ensures.looks first_schema (first_text _ _ first_version) (first_quiets a k first) in
    let mid = first_still a b k (IsNumberOf first_schema version_text) (Ok c.in_ok-number_named.field-0) first looked in
    let read = c.in-Err.ensures.looks k mid in
    stop_after a b d (IsNumberOf first_schema version_text) _ k looked read.clean (stop_looked b d (λ _ kept. held kept ≡ k) _ k read)
