use Rattle.std.proofs.Common.{◌≡◌, inl, inr, Some, Err, IsTrue, ap, ◌∙◌}
use Rattle.std.proofs.lemmas.Bool.{cases_Bool}
use Rattle.sqlite.specs.Effect.{Database}
use Rattle.sqlite.specs.Held.{state}
use Rattle.stable_store.specs.Held.{held}
use Rattle.store_tables.specs.Holds.{IsLaidOut}
use Rattle.sql_store.proofs.Opens.{read_alone, quiet_alone}
use Rattle.sql_store.proofs.Outside.{knows_still}
use Rattle.sql_store.proofs.Loads.{quiets}
use Rattle.sql_store.proofs.Found.{not_read}
use Rattle.sql_store.proofs.Layouts.{looked_ok}
use Rattle.sql_store.proofs.FirstRead.{then_seen}
use Rattle.sql_store.proofs.Beside.{not_alone, stands_not}
use Rattle.sql_store.proofs.opening.take.Goals as goal

pub returns-in-Ok-clause-stands : goal.returns-in-Ok-clause-stands
returns-in-Ok-clause-stands g c known =
    let old = state g.A.Store c.args.conn.now in
    let new = state g.A.Store c.read_store.new.conn in
    let alone = c.is_alone-is_known.ensures.alone known in
    read_alone old new c.in-Ok.kept alone (c.in-Ok.ensures.looks known (quiet_alone old alone))

pub returns-in-Ok-clause-known : goal.returns-in-Ok-clause-known
returns-in-Ok-clause-known g c mode =
    let old = state g.A.Store c.args.conn.now in
    let new = state g.A.Store c.read_store.new.conn in
    knows_still old new c.is_alone-is_known.result c.in-Ok.kept mode c.is_alone-is_known.ensures.alone c.is_alone-is_known.ensures.found
    (λ known clean up.
    let alone = c.is_alone-is_known.ensures.alone known in
    let same = ((c.in-Ok.ensures.looks known (quiet_alone old alone)).ok clean).0 in
    ap (λ (d : Database). d.schema) same.now ∙ (alone.quiet same.was_open).schema)
    c.in-Ok.ensures.outside

pub returns-in-Ok-clause-reads : goal.returns-in-Ok-clause-reads
returns-in-Ok-clause-reads g c clean up k stands =
    let old = state g.A.Store c.args.conn.now in
    let new = state g.A.Store c.read_store.new.conn in
    let rest = stands (c.in-Ok.ensures.outside.clean clean) up in
    let known : IsTrue c.is_alone-is_known.result = c.is_alone-is_known.ensures.found rest.mode rest.schema in
    looked_ok old new (λ d kept. IsLaidOut d.trees (held kept)) _ c.in-Ok.kept _ (c.in-Ok.ensures.looks known (quiets old k stands))
    (λ h. ap (λ x. Some x) (c.one_content_is_held.ensures 1 _ (held c.in-Ok.kept) k h.1 rest.store.holds))

pub returns-in-Err-NotOurs-clause-reads : goal.returns-in-Err-NotOurs-clause-reads
returns-in-Err-NotOurs-clause-reads g c clean up k stands = absurd (c.in-Err-NotOurs.ensures.recognized (ap Err c.in-Err-NotOurs.field-0-is) (c.take_others.ensures.clean clean) k stands)

pub returns-in-Err-NotOurs-clause-recognized : goal.returns-in-Err-NotOurs-clause-recognized
returns-in-Err-NotOurs-clause-recognized g c is clean k stands = c.in-Err-NotOurs.ensures.recognized (ap Err c.in-Err-NotOurs.field-0-is) (c.take_others.ensures.clean clean) k stands

pub returns-in-Err-clause-reads : goal.returns-in-Err-clause-reads
returns-in-Err-clause-reads g c clean up k stands =
    let old = state g.A.Store c.args.conn.now in
    let new = state g.A.Store c.read_store.new.conn in
    let rest = stands (c.in-Err.ensures.outside.clean clean) up in
    let known : IsTrue c.is_alone-is_known.result = c.is_alone-is_known.ensures.found rest.mode rest.schema in
    not_read old new (λ d kept. IsLaidOut d.trees (held kept)) _ _ _ (c.in-Err.ensures.looks known (quiets old k stands))

-- ---- tables beside others

pub returns-in-Ok-clause-beside : goal.returns-in-Ok-clause-beside
returns-in-Ok-clause-beside g c clean k it =
    let old = state g.A.Store c.args.conn.now in
    let new = state g.A.Store c.read_store.new.conn in
    elim (cases_Bool c.is_alone-is_known.result) [
      | inl known ↦
          let alone = c.is_alone-is_known.ensures.alone known in
          then_seen old new (λ d kept. IsLaidOut d.trees (held kept)) _ c.in-Ok.kept _ (c.in-Ok.ensures.looks known (quiet_alone old alone))
          (λ was up seen. absurd (not_alone old k it alone was up))
      | inr other ↦ looked_ok old new (λ _ kept. held kept ≡ k) _ c.in-Ok.kept _ (c.in-Ok.ensures.beside other k it) (λ h. ap (λ x. Some x) h)
    ]

pub returns-in-Err-NotOurs-clause-beside : goal.returns-in-Err-NotOurs-clause-beside
returns-in-Err-NotOurs-clause-beside g c clean k it =
    let old = state g.A.Store c.args.conn.now in
    let told = ap Err c.in-Err-NotOurs.field-0-is in
    let before = c.take_others.ensures.clean clean in
    elim (cases_Bool c.is_alone-is_known.result) [
      | inl known ↦ absurd (c.in-Err-NotOurs.ensures.recognized told before k (stands_not old k it (c.is_alone-is_known.ensures.alone known)))
      | inr other ↦ absurd (c.in-Err-NotOurs.ensures.recognized_beside other told before k it)
    ]

pub returns-in-Err-NotOurs-clause-recognized_beside : goal.returns-in-Err-NotOurs-clause-recognized_beside
returns-in-Err-NotOurs-clause-recognized_beside g c is clean k it =
    let old = state g.A.Store c.args.conn.now in
    let told = ap Err c.in-Err-NotOurs.field-0-is in
    let before = c.take_others.ensures.clean clean in
    elim (cases_Bool c.is_alone-is_known.result) [
      | inl known ↦ absurd (c.in-Err-NotOurs.ensures.recognized told before k (stands_not old k it (c.is_alone-is_known.ensures.alone known)))
      | inr other ↦ absurd (c.in-Err-NotOurs.ensures.recognized_beside other told before k it)
    ]

pub returns-in-Err-clause-beside : goal.returns-in-Err-clause-beside
returns-in-Err-clause-beside g c clean k it =
    let old = state g.A.Store c.args.conn.now in
    let new = state g.A.Store c.read_store.new.conn in
    elim (cases_Bool c.is_alone-is_known.result) [
      | inl known ↦ not_read old new (λ d kept. IsLaidOut d.trees (held kept)) _ _ _ (c.in-Err.ensures.looks known (quiet_alone old (c.is_alone-is_known.ensures.alone known)))
      | inr other ↦ not_read old new (λ _ kept. held kept ≡ k) _ _ _ (c.in-Err.ensures.beside other k it)
    ]
