use Rattle.std.proofs.Common.{◌≡◌, Ok, Err, refl, sym, ap, subst, ◌∙◌}
use Rattle.sqlite.specs.Held.{state}
use Rattle.sqlite.specs.State.{HasCleanDisk}
use Rattle.sqlite.specs.declared.connection.Connection.{Connection}
use Rattle.stable_store.specs.Stored.{empty}
use Rattle.stable_store.specs.Held.{held}
use Rattle.stable_store.specs.declared.fault.StoreFault.{StoreFault}
use Rattle.store_writing.specs.Steps.{Stands, Carries}
use Rattle.sql_store.specs.declared.store.SqlStable.{SqlStable}
use Rattle.sql_store.proofs.Loads.{was_read, was_not_read}
use Rattle.sql_store.proofs.Made.{at_rest}
use Rattle.sql_store.proofs.Opens.{found_stands}
use Rattle.sql_store.specs.Reading.{StopLeaves}
use Rattle.sql_store.specs.Beside.{Keeps}
use Rattle.sql_store.proofs.Beside.{keeps}
use Rattle.store_tables.specs.Tables.{stable_schema}
use Rattle.sql_store.proofs.store.SqlStable.new.Goals as goal

pub returns-in-Ok-clause-rests : goal.returns-in-Ok-clause-rests
returns-in-Ok-clause-rests g c trusted up left may =
    let at = g.A.Store in
    let s = c.over.result in
    let stands = subst (λ h. Stands (state at h) (held s.kept)) (sym c.over.ensures.conn) (c.over.ensures.known trusted.known up.1) in
    at_rest at c.one_content_is_held.ensures (λ h open_ db found. g.met.A.Store.settled h.store db open_ found) s.conn (held s.kept) up.0 (stands trusted.honest.0 up.0) left may

pub returns-in-Ok-clause-makes : goal.returns-in-Ok-clause-makes
returns-in-Ok-clause-makes g c clean schema =
    subst (λ h. (state g.A.Store h).now.schema ≡ stable_schema) (sym c.over.ensures.conn)
    (c.in-Ok.ensures.makes (subst (λ h. HasCleanDisk (state g.A.Store h)) c.over.ensures.conn clean) schema)

pub returns-in-Ok-clause-fresh : goal.returns-in-Ok-clause-fresh
returns-in-Ok-clause-fresh g c clean schema =
    c.over.ensures.content ∙ c.in-Ok.ensures.fresh (subst (λ h. HasCleanDisk (state g.A.Store h)) c.over.ensures.conn clean) schema

pub returns-in-Ok-clause-held : goal.returns-in-Ok-clause-held
returns-in-Ok-clause-held g c clean k stands =
    let reads = c.in-Ok.ensures.reads (subst (λ h. HasCleanDisk (state g.A.Store h)) c.over.ensures.conn clean) k stands in
    c.over.ensures.content ∙ (reads.ok (subst (λ h. HasCleanDisk (state g.A.Store h)) c.over.ensures.conn clean)).1

pub returns-in-Ok-clause-carries : goal.returns-in-Ok-clause-carries
returns-in-Ok-clause-carries g c clean k stands =
    let at = g.A.Store in
    let a = c.args.conn in
    let reads = c.in-Ok.ensures.reads (subst (λ h. HasCleanDisk (state at h)) c.over.ensures.conn clean) k stands in
    subst (λ h. Carries {T = SqlStable g.row.A.Denot} {E = StoreFault × Connection g.row.A.Denot} (state at a) (state at h) k k (Ok c.over.result)) (sym c.over.ensures.conn)
    (was_read (state at a) (state at c.open.new.conn) k (λ up db may. g.met.A.Store.settled a.store db up may) stands _ _ reads (Ok c.over.result))

pub returns-in-Err-clause-carries_back : goal.returns-in-Err-clause-carries_back
returns-in-Err-clause-carries_back g c clean k stands =
    let at = g.A.Store in
    let a = c.args.conn in
    was_not_read (state at a) (state at c.open.new.conn) k (λ up db may. g.met.A.Store.settled a.store db up may) stands _ c.in-Err.fault _ _ refl (c.in-Err.ensures.reads clean k stands)

pub returns-in-Err-clause-recognized : goal.returns-in-Err-clause-recognized
returns-in-Err-clause-recognized g c is clean k stands = c.in-Err.ensures.recognized (ap Err is) clean k stands

pub returns-in-Ok-clause-migrates : goal.returns-in-Ok-clause-migrates
returns-in-Ok-clause-migrates g c clean k first =
    c.over.ensures.content ∙ c.in-Ok.ensures.migrates (subst (λ h. HasCleanDisk (state g.A.Store h)) c.over.ensures.conn clean) k first

pub returns-in-Err-clause-recognized_first : goal.returns-in-Err-clause-recognized_first
returns-in-Err-clause-recognized_first g c is clean k first = c.in-Err.ensures.recognized_first (ap Err is) clean k first

pub returns-in-Ok-clause-makes_anew : goal.returns-in-Ok-clause-makes_anew
returns-in-Ok-clause-makes_anew g c clean k first =
    subst (λ h. (state g.A.Store h).now.schema ≡ stable_schema) (sym c.over.ensures.conn)
    (c.in-Ok.ensures.makes_anew (subst (λ h. HasCleanDisk (state g.A.Store h)) c.over.ensures.conn clean) k first)

-- ---- the store that is there then

pub returns-in-Ok-clause-stands : goal.returns-in-Ok-clause-stands
returns-in-Ok-clause-stands g c schema =
    subst (λ h. Stands (state g.A.Store h) empty) (sym c.over.ensures.conn)
    (found_stands (state g.A.Store c.open.new.conn) c.in-Ok.opened.kept c.in-Ok.opened.is_known empty c.in-Ok.ensures.known c.in-Ok.ensures.stands
    (λ clean. c.in-Ok.ensures.fresh clean schema) (λ clean. c.in-Ok.ensures.makes clean schema))

pub returns-in-Ok-clause-stands_first : goal.returns-in-Ok-clause-stands_first
returns-in-Ok-clause-stands_first g c k first =
    subst (λ h. Stands (state g.A.Store h) k) (sym c.over.ensures.conn)
    (found_stands (state g.A.Store c.open.new.conn) c.in-Ok.opened.kept c.in-Ok.opened.is_known k c.in-Ok.ensures.known c.in-Ok.ensures.stands
    (λ clean. c.in-Ok.ensures.migrates clean k first) (λ clean. c.in-Ok.ensures.makes_anew clean k first))

-- ---- what a stop leaves

pub returns-in-Ok-clause-leaves : goal.returns-in-Ok-clause-leaves
returns-in-Ok-clause-leaves g c schema =
    let at = g.A.Store in
    subst (λ h. StopLeaves (state at c.args.conn) (state at h) empty) (sym c.over.ensures.conn) (c.open.ensures.leaves schema)

pub returns-in-Ok-clause-leaves_first : goal.returns-in-Ok-clause-leaves_first
returns-in-Ok-clause-leaves_first g c k first =
    let at = g.A.Store in
    subst (λ h. StopLeaves (state at c.args.conn) (state at h) k) (sym c.over.ensures.conn) (c.open.ensures.leaves_first k first)

-- ---- tables beside others

pub returns-in-Ok-clause-beside : goal.returns-in-Ok-clause-beside
returns-in-Ok-clause-beside g c clean k it =
    let was = subst (λ h. HasCleanDisk (state g.A.Store h)) c.over.ensures.conn clean in
    c.over.ensures.content ∙ ((c.in-Ok.ensures.beside was k it).ok was).1

pub returns-in-Err-clause-recognized_beside : goal.returns-in-Err-clause-recognized_beside
returns-in-Err-clause-recognized_beside g c is clean k it = c.in-Err.ensures.recognized_beside (ap Err is) clean k it

pub returns-in-Ok-clause-keeps_beside : goal.returns-in-Ok-clause-keeps_beside
returns-in-Ok-clause-keeps_beside g c clean k it =
    let at = g.A.Store in
    let was = subst (λ h. HasCleanDisk (state at h)) c.over.ensures.conn clean in
    subst (λ h. Keeps (state at c.args.conn) (state at h)) (sym c.over.ensures.conn)
    (keeps (state at c.args.conn) (state at c.open.new.conn) _ _ (c.in-Ok.ensures.beside was k it) was)

pub returns-in-Err-clause-keeps_beside_back : goal.returns-in-Err-clause-keeps_beside_back
returns-in-Err-clause-keeps_beside_back g c clean k it =
    let at = g.A.Store in
    keeps (state at c.args.conn) (state at c.open.new.conn) _ _ (c.in-Err.ensures.beside clean k it) clean
