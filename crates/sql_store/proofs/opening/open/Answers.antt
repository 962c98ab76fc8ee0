use Rattle.std.proofs.Common.{◌≡◌, IfOk, IsTrue, Some, option_map, Ok, sym, ap, subst, ◌∙◌}
use Rattle.std.proofs.lemmas.Result.{err_from_is_err_and}
use Rattle.sqlite.specs.Effect.{Database}
use Rattle.sqlite.specs.Held.{state}
use Rattle.stable_store.specs.Stored.{empty}
use Rattle.stable_store.specs.Held.{held}
use Rattle.sql_store.specs.declared.layout.Layout.{Layout}
use Rattle.sql_store.specs.declared.layout.Layout.TheVariants.{Nothing, First, Second, Others}
use Rattle.sql_store.specs.Layouts.{IsLayout}
use Rattle.sql_store.specs.Reading.{StopLeaves}
use Rattle.store_tables.proofs.Told.{told_by}
use Rattle.sql_store.proofs.Sequences.{failed_reads, and_reads, weaker_reads}
use Rattle.sql_store.proofs.Found.{settled_alone, is_new, is_second, stands_still, untouched, on_err, err_leads}
use Rattle.sql_store.proofs.FirstRead.{first_still, is_first}
use Rattle.sql_store.proofs.Beside.{beside_still, is_beside}
use Rattle.sql_store.proofs.Stops.{stop_none, stop_looked, stop_after}
use Rattle.sql_store.proofs.opening.open.Goals as goal

pub returns-in-Nothing-clause-makes : goal.returns-in-Nothing-clause-makes
returns-in-Nothing-clause-makes g c clean schema =
    let a = state g.A.Store c.args.conn.now in
    let b = state g.A.Store c.layout_of.new.conn in
    let settled = settled_alone a c.is_autocommit.result c.is_autocommit.ensures.value c.if-not-is_autocommit.false c.is_autocommit.ensures.settled in
    let same = ((c.in_ok-layout_of.ensures.looks settled).ok (c.lay_out.ensures.clean clean)).0.now in
    c.lay_out.ensures.lays_out clean (ap (λ (d : Database). d.schema) same ∙ schema)

pub returns-in-First-clause-makes : goal.returns-in-First-clause-makes
returns-in-First-clause-makes g c clean schema =
    let a = state g.A.Store c.args.conn.now in
    let b = state g.A.Store c.layout_of.new.conn in
    let settled = settled_alone a c.is_autocommit.result c.is_autocommit.ensures.value c.if-not-is_autocommit.false c.is_autocommit.ensures.settled in
    let new = is_new a b c.in_ok-layout_of.field-0 (c.in_ok-layout_of.ensures.looks settled) (c.migrate.ensures.clean clean) schema in
    absurd (let e : ◌≡◌ {A = Layout} First Nothing = sym c.in-First.is ∙ new in cc)

pub returns-in-Second-clause-makes : goal.returns-in-Second-clause-makes
returns-in-Second-clause-makes g c clean schema =
    let a = state g.A.Store c.args.conn.now in
    let b = state g.A.Store c.layout_of.new.conn in
    let settled = settled_alone a c.is_autocommit.result c.is_autocommit.ensures.value c.if-not-is_autocommit.false c.is_autocommit.ensures.settled in
    let new = is_new a b c.in_ok-layout_of.field-0 (c.in_ok-layout_of.ensures.looks settled) (c.take.ensures.clean clean) schema in
    absurd (let e : ◌≡◌ {A = Layout} Second Nothing = sym c.in-Second.is ∙ new in cc)

pub returns-in-Nothing-clause-fresh : goal.returns-in-Nothing-clause-fresh
returns-in-Nothing-clause-fresh g c clean schema =
    subst (λ k. IfOk c.lay_out.result (λ it. option_map held it.kept ≡ Some k)) c.new.ensures (c.lay_out.ensures.as_given (λ e. cc))

pub returns-in-First-clause-fresh : goal.returns-in-First-clause-fresh
returns-in-First-clause-fresh g c clean schema =
    let a = state g.A.Store c.args.conn.now in
    let b = state g.A.Store c.layout_of.new.conn in
    let settled = settled_alone a c.is_autocommit.result c.is_autocommit.ensures.value c.if-not-is_autocommit.false c.is_autocommit.ensures.settled in
    let new = is_new a b c.in_ok-layout_of.field-0 (c.in_ok-layout_of.ensures.looks settled) (c.migrate.ensures.clean clean) schema in
    absurd (let e : ◌≡◌ {A = Layout} First Nothing = sym c.in-First.is ∙ new in cc)

pub returns-in-Second-clause-fresh : goal.returns-in-Second-clause-fresh
returns-in-Second-clause-fresh g c clean schema =
    let a = state g.A.Store c.args.conn.now in
    let b = state g.A.Store c.layout_of.new.conn in
    let settled = settled_alone a c.is_autocommit.result c.is_autocommit.ensures.value c.if-not-is_autocommit.false c.is_autocommit.ensures.settled in
    let new = is_new a b c.in_ok-layout_of.field-0 (c.in_ok-layout_of.ensures.looks settled) (c.take.ensures.clean clean) schema in
    absurd (let e : ◌≡◌ {A = Layout} Second Nothing = sym c.in-Second.is ∙ new in cc)

pub returns-then-not-is_autocommit-clause-reads : goal.returns-then-not-is_autocommit-clause-reads
returns-then-not-is_autocommit-clause-reads g c clean k stands = untouched (state g.A.Store c.args.conn.now) _ _

pub returns-in_err-layout_of-clause-reads : goal.returns-in_err-layout_of-clause-reads
returns-in_err-layout_of-clause-reads g c clean k stands =
    let a = state g.A.Store c.args.conn.now in
    let b = state g.A.Store c.layout_of.new.conn in
    let settled = settled_alone a c.is_autocommit.result c.is_autocommit.ensures.value c.if-not-is_autocommit.false c.is_autocommit.ensures.settled in
    let p = err_from_is_err_and c.from_residual.result c.from_residual.ensures.1 in
    failed_reads a b (λ d l. IsLayout d.schema l) _ c.in_err-layout_of.field-0.0 p.0 c.from_residual.result p.1 (c.in_err-layout_of.ensures.looks settled)

pub returns-in_err-layout_of-clause-recognized : goal.returns-in_err-layout_of-clause-recognized
returns-in_err-layout_of-clause-recognized g c is clean k stands =
    c.in_err-layout_of.ensures.told (told_by c.from_residual.result c.in_err-layout_of.field-0.0 c.from_residual.ensures.1 is)

pub returns-in-Nothing-clause-reads : goal.returns-in-Nothing-clause-reads
returns-in-Nothing-clause-reads g c clean k stands =
    let a = state g.A.Store c.args.conn.now in
    let b = state g.A.Store c.layout_of.new.conn in
    let settled = settled_alone a c.is_autocommit.result c.is_autocommit.ensures.value c.if-not-is_autocommit.false c.is_autocommit.ensures.settled in
    let second = is_second a b c.in_ok-layout_of.field-0 (c.in_ok-layout_of.ensures.looks settled) (c.lay_out.ensures.clean clean) k stands in
    absurd (let e : ◌≡◌ {A = Layout} Nothing Second = sym c.in-Nothing.is ∙ second in cc)

pub returns-in-Nothing-clause-recognized : goal.returns-in-Nothing-clause-recognized
returns-in-Nothing-clause-recognized g c is clean k stands =
    let a = state g.A.Store c.args.conn.now in
    let b = state g.A.Store c.layout_of.new.conn in
    let settled = settled_alone a c.is_autocommit.result c.is_autocommit.ensures.value c.if-not-is_autocommit.false c.is_autocommit.ensures.settled in
    let second = is_second a b c.in_ok-layout_of.field-0 (c.in_ok-layout_of.ensures.looks settled) (c.lay_out.ensures.clean clean) k stands in
    absurd (let e : ◌≡◌ {A = Layout} Nothing Second = sym c.in-Nothing.is ∙ second in cc)

pub returns-in-First-clause-reads : goal.returns-in-First-clause-reads
returns-in-First-clause-reads g c clean k stands =
    let a = state g.A.Store c.args.conn.now in
    let b = state g.A.Store c.layout_of.new.conn in
    let settled = settled_alone a c.is_autocommit.result c.is_autocommit.ensures.value c.if-not-is_autocommit.false c.is_autocommit.ensures.settled in
    let second = is_second a b c.in_ok-layout_of.field-0 (c.in_ok-layout_of.ensures.looks settled) (c.migrate.ensures.clean clean) k stands in
    absurd (let e : ◌≡◌ {A = Layout} First Second = sym c.in-First.is ∙ second in cc)

pub returns-in-First-clause-recognized : goal.returns-in-First-clause-recognized
returns-in-First-clause-recognized g c is clean k stands =
    let a = state g.A.Store c.args.conn.now in
    let b = state g.A.Store c.layout_of.new.conn in
    let settled = settled_alone a c.is_autocommit.result c.is_autocommit.ensures.value c.if-not-is_autocommit.false c.is_autocommit.ensures.settled in
    let second = is_second a b c.in_ok-layout_of.field-0 (c.in_ok-layout_of.ensures.looks settled) (c.migrate.ensures.clean clean) k stands in
    absurd (let e : ◌≡◌ {A = Layout} First Second = sym c.in-First.is ∙ second in cc)

pub returns-in-Others-clause-reads : goal.returns-in-Others-clause-reads
returns-in-Others-clause-reads g c clean k stands =
    let a = state g.A.Store c.args.conn.now in
    let b = state g.A.Store c.layout_of.new.conn in
    let settled = settled_alone a c.is_autocommit.result c.is_autocommit.ensures.value c.if-not-is_autocommit.false c.is_autocommit.ensures.settled in
    let second = is_second a b c.in_ok-layout_of.field-0 (c.in_ok-layout_of.ensures.looks settled) clean k stands in
    absurd (let e : ◌≡◌ {A = Layout} Others Second = sym c.in-Others.is ∙ second in cc)

pub returns-in-Others-clause-recognized : goal.returns-in-Others-clause-recognized
returns-in-Others-clause-recognized g c is clean k stands =
    let a = state g.A.Store c.args.conn.now in
    let b = state g.A.Store c.layout_of.new.conn in
    let settled = settled_alone a c.is_autocommit.result c.is_autocommit.ensures.value c.if-not-is_autocommit.false c.is_autocommit.ensures.settled in
    let second = is_second a b c.in_ok-layout_of.field-0 (c.in_ok-layout_of.ensures.looks settled) clean k stands in
    absurd (let e : ◌≡◌ {A = Layout} Others Second = sym c.in-Others.is ∙ second in cc)

pub returns-in-Second-clause-reads : goal.returns-in-Second-clause-reads
returns-in-Second-clause-reads g c clean k stands =
    let a = state g.A.Store c.args.conn.now in
    let b = state g.A.Store c.layout_of.new.conn in
    let settled = settled_alone a c.is_autocommit.result c.is_autocommit.ensures.value c.if-not-is_autocommit.false c.is_autocommit.ensures.settled in
    let d = state g.A.Store c.take.new.conn in
    let looked = c.in_ok-layout_of.ensures.looks settled in
    let mid = stands_still a b k (λ x l. IsLayout x.schema l) (Ok c.in_ok-layout_of.field-0) stands looked in
    let up = (looked.ok (c.take.ensures.clean clean)).0.is_open in
    weaker_reads a d _ (λ _ it. option_map held it.kept ≡ Some k) c.take.result (λ db it h. h.1.1)
    (and_reads a b d (λ x l. IsLayout x.schema l) (λ _ it. option_map held it.kept ≡ Some k) c.in_ok-layout_of.field-0 c.take.result looked
    (c.take.ensures.reads clean up k mid))

pub returns-in-Second-clause-recognized : goal.returns-in-Second-clause-recognized
returns-in-Second-clause-recognized g c is clean k stands =
    let a = state g.A.Store c.args.conn.now in
    let b = state g.A.Store c.layout_of.new.conn in
    let settled = settled_alone a c.is_autocommit.result c.is_autocommit.ensures.value c.if-not-is_autocommit.false c.is_autocommit.ensures.settled in
    let mid = stands_still a b k (λ x l. IsLayout x.schema l) (Ok c.in_ok-layout_of.field-0) stands (c.in_ok-layout_of.ensures.looks settled) in
    c.take.ensures.recognized is clean k mid

pub returns-in_err-layout_of-clause-refused : goal.returns-in_err-layout_of-clause-refused
returns-in_err-layout_of-clause-refused g c clean schema =
    let a = state g.A.Store c.args.conn.now in
    let b = state g.A.Store c.layout_of.new.conn in
    let settled = settled_alone a c.is_autocommit.result c.is_autocommit.ensures.value c.if-not-is_autocommit.false c.is_autocommit.ensures.settled in
    on_err c.from_residual.result (IsTrue b.is_open → b.now ≡ a.now) (λ up. ((c.in_err-layout_of.ensures.looks settled).err clean up).now)

pub returns-in-Nothing-clause-refused : goal.returns-in-Nothing-clause-refused
returns-in-Nothing-clause-refused g c clean schema =
    let a = state g.A.Store c.args.conn.now in
    let b = state g.A.Store c.layout_of.new.conn in
    let d = state g.A.Store c.lay_out.new.conn in
    let settled = settled_alone a c.is_autocommit.result c.is_autocommit.ensures.value c.if-not-is_autocommit.false c.is_autocommit.ensures.settled in
    let same = ((c.in_ok-layout_of.ensures.looks settled).ok (c.lay_out.ensures.clean clean)).0.now in
    err_leads c.lay_out.result (IsTrue d.is_open → d.now ≡ b.now) (IsTrue d.is_open → d.now ≡ a.now) (λ h up. h up ∙ same) (c.lay_out.ensures.refused clean)

pub returns-in-First-clause-refused : goal.returns-in-First-clause-refused
returns-in-First-clause-refused g c clean schema =
    let a = state g.A.Store c.args.conn.now in
    let b = state g.A.Store c.layout_of.new.conn in
    let settled = settled_alone a c.is_autocommit.result c.is_autocommit.ensures.value c.if-not-is_autocommit.false c.is_autocommit.ensures.settled in
    let new = is_new a b c.in_ok-layout_of.field-0 (c.in_ok-layout_of.ensures.looks settled) (c.migrate.ensures.clean clean) schema in
    absurd (let e : ◌≡◌ {A = Layout} First Nothing = sym c.in-First.is ∙ new in cc)

pub returns-in-Second-clause-refused : goal.returns-in-Second-clause-refused
returns-in-Second-clause-refused g c clean schema =
    let a = state g.A.Store c.args.conn.now in
    let b = state g.A.Store c.layout_of.new.conn in
    let settled = settled_alone a c.is_autocommit.result c.is_autocommit.ensures.value c.if-not-is_autocommit.false c.is_autocommit.ensures.settled in
    let new = is_new a b c.in_ok-layout_of.field-0 (c.in_ok-layout_of.ensures.looks settled) (c.take.ensures.clean clean) schema in
    absurd (let e : ◌≡◌ {A = Layout} Second Nothing = sym c.in-Second.is ∙ new in cc)

pub returns-in-Others-clause-refused : goal.returns-in-Others-clause-refused
returns-in-Others-clause-refused g c clean schema up =
    let a = state g.A.Store c.args.conn.now in
    let settled = settled_alone a c.is_autocommit.result c.is_autocommit.ensures.value c.if-not-is_autocommit.false c.is_autocommit.ensures.settled in
    ((c.in_ok-layout_of.ensures.looks settled).ok clean).0.now

-- ---- a database of version 1

pub returns-in_err-layout_of-clause-recognized_first : goal.returns-in_err-layout_of-clause-recognized_first
returns-in_err-layout_of-clause-recognized_first g c is clean k first =
    c.in_err-layout_of.ensures.told (told_by c.from_residual.result c.in_err-layout_of.field-0.0 c.from_residual.ensures.1 is)

pub returns-in_err-layout_of-clause-refused_first : goal.returns-in_err-layout_of-clause-refused_first
returns-in_err-layout_of-clause-refused_first g c clean k first =
    let a = state g.A.Store c.args.conn.now in
    let b = state g.A.Store c.layout_of.new.conn in
    let settled = settled_alone a c.is_autocommit.result c.is_autocommit.ensures.value c.if-not-is_autocommit.false c.is_autocommit.ensures.settled in
    on_err c.from_residual.result (IsTrue b.is_open → b.now ≡ a.now) (λ up. ((c.in_err-layout_of.ensures.looks settled).err clean up).now)

pub returns-in-Nothing-clause-migrates : goal.returns-in-Nothing-clause-migrates
returns-in-Nothing-clause-migrates g c clean k first =
    let a = state g.A.Store c.args.conn.now in
    let b = state g.A.Store c.layout_of.new.conn in
    let settled = settled_alone a c.is_autocommit.result c.is_autocommit.ensures.value c.if-not-is_autocommit.false c.is_autocommit.ensures.settled in
    let older = is_first a b c.in_ok-layout_of.field-0 (c.in_ok-layout_of.ensures.looks settled) (c.lay_out.ensures.clean clean) k first in
    absurd (let e : ◌≡◌ {A = Layout} Nothing First = sym c.in-Nothing.is ∙ older in cc)

pub returns-in-Nothing-clause-recognized_first : goal.returns-in-Nothing-clause-recognized_first
returns-in-Nothing-clause-recognized_first g c is clean k first =
    let a = state g.A.Store c.args.conn.now in
    let b = state g.A.Store c.layout_of.new.conn in
    let settled = settled_alone a c.is_autocommit.result c.is_autocommit.ensures.value c.if-not-is_autocommit.false c.is_autocommit.ensures.settled in
    let older = is_first a b c.in_ok-layout_of.field-0 (c.in_ok-layout_of.ensures.looks settled) (c.lay_out.ensures.clean clean) k first in
    absurd (let e : ◌≡◌ {A = Layout} Nothing First = sym c.in-Nothing.is ∙ older in cc)

pub returns-in-Nothing-clause-refused_first : goal.returns-in-Nothing-clause-refused_first
returns-in-Nothing-clause-refused_first g c clean k first =
    let a = state g.A.Store c.args.conn.now in
    let b = state g.A.Store c.layout_of.new.conn in
    let settled = settled_alone a c.is_autocommit.result c.is_autocommit.ensures.value c.if-not-is_autocommit.false c.is_autocommit.ensures.settled in
    let older = is_first a b c.in_ok-layout_of.field-0 (c.in_ok-layout_of.ensures.looks settled) (c.lay_out.ensures.clean clean) k first in
    absurd (let e : ◌≡◌ {A = Layout} Nothing First = sym c.in-Nothing.is ∙ older in cc)

pub returns-in-Second-clause-migrates : goal.returns-in-Second-clause-migrates
returns-in-Second-clause-migrates g c clean k first =
    let a = state g.A.Store c.args.conn.now in
    let b = state g.A.Store c.layout_of.new.conn in
    let settled = settled_alone a c.is_autocommit.result c.is_autocommit.ensures.value c.if-not-is_autocommit.false c.is_autocommit.ensures.settled in
    let older = is_first a b c.in_ok-layout_of.field-0 (c.in_ok-layout_of.ensures.looks settled) (c.take.ensures.clean clean) k first in
    absurd (let e : ◌≡◌ {A = Layout} Second First = sym c.in-Second.is ∙ older in cc)

pub returns-in-Second-clause-recognized_first : goal.returns-in-Second-clause-recognized_first
returns-in-Second-clause-recognized_first g c is clean k first =
    let a = state g.A.Store c.args.conn.now in
    let b = state g.A.Store c.layout_of.new.conn in
    let settled = settled_alone a c.is_autocommit.result c.is_autocommit.ensures.value c.if-not-is_autocommit.false c.is_autocommit.ensures.settled in
    let older = is_first a b c.in_ok-layout_of.field-0 (c.in_ok-layout_of.ensures.looks settled) (c.take.ensures.clean clean) k first in
    absurd (let e : ◌≡◌ {A = Layout} Second First = sym c.in-Second.is ∙ older in cc)

pub returns-in-Second-clause-refused_first : goal.returns-in-Second-clause-refused_first
returns-in-Second-clause-refused_first g c clean k first =
    let a = state g.A.Store c.args.conn.now in
    let b = state g.A.Store c.layout_of.new.conn in
    let settled = settled_alone a c.is_autocommit.result c.is_autocommit.ensures.value c.if-not-is_autocommit.false c.is_autocommit.ensures.settled in
    let older = is_first a b c.in_ok-layout_of.field-0 (c.in_ok-layout_of.ensures.looks settled) (c.take.ensures.clean clean) k first in
    absurd (let e : ◌≡◌ {A = Layout} Second First = sym c.in-Second.is ∙ older in cc)

pub returns-in-Others-clause-recognized_first : goal.returns-in-Others-clause-recognized_first
returns-in-Others-clause-recognized_first g c is clean k first =
    let a = state g.A.Store c.args.conn.now in
    let b = state g.A.Store c.layout_of.new.conn in
    let settled = settled_alone a c.is_autocommit.result c.is_autocommit.ensures.value c.if-not-is_autocommit.false c.is_autocommit.ensures.settled in
    let older = is_first a b c.in_ok-layout_of.field-0 (c.in_ok-layout_of.ensures.looks settled) (clean) k first in
    absurd (let e : ◌≡◌ {A = Layout} Others First = sym c.in-Others.is ∙ older in cc)

pub returns-in-Others-clause-refused_first : goal.returns-in-Others-clause-refused_first
returns-in-Others-clause-refused_first g c clean k first up =
    let a = state g.A.Store c.args.conn.now in
    let settled = settled_alone a c.is_autocommit.result c.is_autocommit.ensures.value c.if-not-is_autocommit.false c.is_autocommit.ensures.settled in
    ((c.in_ok-layout_of.ensures.looks settled).ok clean).0.now

pub returns-in-First-clause-migrates : goal.returns-in-First-clause-migrates
returns-in-First-clause-migrates g c clean k first =
    let a = state g.A.Store c.args.conn.now in
    let b = state g.A.Store c.layout_of.new.conn in
    let settled = settled_alone a c.is_autocommit.result c.is_autocommit.ensures.value c.if-not-is_autocommit.false c.is_autocommit.ensures.settled in
    let mid = first_still a b k (λ x l. IsLayout x.schema l) (Ok c.in_ok-layout_of.field-0) first (c.in_ok-layout_of.ensures.looks settled) in
    c.migrate.ensures.migrates clean k mid

pub returns-in-First-clause-recognized_first : goal.returns-in-First-clause-recognized_first
returns-in-First-clause-recognized_first g c is clean k first =
    let a = state g.A.Store c.args.conn.now in
    let b = state g.A.Store c.layout_of.new.conn in
    let settled = settled_alone a c.is_autocommit.result c.is_autocommit.ensures.value c.if-not-is_autocommit.false c.is_autocommit.ensures.settled in
    let mid = first_still a b k (λ x l. IsLayout x.schema l) (Ok c.in_ok-layout_of.field-0) first (c.in_ok-layout_of.ensures.looks settled) in
    c.migrate.ensures.recognized is clean k mid

pub returns-in-First-clause-refused_first : goal.returns-in-First-clause-refused_first
returns-in-First-clause-refused_first g c clean k first =
    let a = state g.A.Store c.args.conn.now in
    let b = state g.A.Store c.layout_of.new.conn in
    let settled = settled_alone a c.is_autocommit.result c.is_autocommit.ensures.value c.if-not-is_autocommit.false c.is_autocommit.ensures.settled in
    let d = state g.A.Store c.migrate.new.conn in
    let looked = c.in_ok-layout_of.ensures.looks settled in
    let mid = first_still a b k (λ x l. IsLayout x.schema l) (Ok c.in_ok-layout_of.field-0) first looked in
    let same = (looked.ok (c.migrate.ensures.clean clean)).0.now in
    err_leads c.migrate.result (IsTrue d.is_open → d.now ≡ b.now) (IsTrue d.is_open → d.now ≡ a.now) (λ h up. h up ∙ same) (c.migrate.ensures.refused clean k mid)

-- ---- the schema of a database of version 1

pub returns-in-Nothing-clause-makes_anew : goal.returns-in-Nothing-clause-makes_anew
returns-in-Nothing-clause-makes_anew g c clean k first =
    let a = state g.A.Store c.args.conn.now in
    let b = state g.A.Store c.layout_of.new.conn in
    let settled = settled_alone a c.is_autocommit.result c.is_autocommit.ensures.value c.if-not-is_autocommit.false c.is_autocommit.ensures.settled in
    let older = is_first a b c.in_ok-layout_of.field-0 (c.in_ok-layout_of.ensures.looks settled) (c.lay_out.ensures.clean clean) k first in
    absurd (let e : ◌≡◌ {A = Layout} Nothing First = sym c.in-Nothing.is ∙ older in cc)

pub returns-in-Second-clause-makes_anew : goal.returns-in-Second-clause-makes_anew
returns-in-Second-clause-makes_anew g c clean k first =
    let a = state g.A.Store c.args.conn.now in
    let b = state g.A.Store c.layout_of.new.conn in
    let settled = settled_alone a c.is_autocommit.result c.is_autocommit.ensures.value c.if-not-is_autocommit.false c.is_autocommit.ensures.settled in
    let older = is_first a b c.in_ok-layout_of.field-0 (c.in_ok-layout_of.ensures.looks settled) (c.take.ensures.clean clean) k first in
    absurd (let e : ◌≡◌ {A = Layout} Second First = sym c.in-Second.is ∙ older in cc)

pub returns-in-First-clause-makes_anew : goal.returns-in-First-clause-makes_anew
returns-in-First-clause-makes_anew g c clean k first =
    let a = state g.A.Store c.args.conn.now in
    let b = state g.A.Store c.layout_of.new.conn in
    let settled = settled_alone a c.is_autocommit.result c.is_autocommit.ensures.value c.if-not-is_autocommit.false c.is_autocommit.ensures.settled in
    let mid = first_still a b k (λ x l. IsLayout x.schema l) (Ok c.in_ok-layout_of.field-0) first (c.in_ok-layout_of.ensures.looks settled) in
    c.migrate.ensures.makes clean k mid

-- ---- what a stop leaves

pub returns-then-not-is_autocommit-clause-leaves : goal.returns-then-not-is_autocommit-clause-leaves
returns-then-not-is_autocommit-clause-leaves g c schema = stop_none (state g.A.Store c.args.conn.now) empty

pub returns-in_err-layout_of-clause-leaves : goal.returns-in_err-layout_of-clause-leaves
returns-in_err-layout_of-clause-leaves g c schema =
    let a = state g.A.Store c.args.conn.now in
    let b = state g.A.Store c.layout_of.new.conn in
    let settled = settled_alone a c.is_autocommit.result c.is_autocommit.ensures.value c.if-not-is_autocommit.false c.is_autocommit.ensures.settled in
    stop_looked a b (λ d l. IsLayout d.schema l) _ empty (c.in_err-layout_of.ensures.looks settled)

pub returns-in-Nothing-clause-leaves : goal.returns-in-Nothing-clause-leaves
returns-in-Nothing-clause-leaves g c schema clean =
    let a = state g.A.Store c.args.conn.now in
    let b = state g.A.Store c.layout_of.new.conn in
    let settled = settled_alone a c.is_autocommit.result c.is_autocommit.ensures.value c.if-not-is_autocommit.false c.is_autocommit.ensures.settled in
    let d = state g.A.Store c.lay_out.new.conn in
    let looked = c.in_ok-layout_of.ensures.looks settled in
    let same = (looked.ok (c.lay_out.ensures.clean clean)).0.now in
    stop_after a b d (λ x l. IsLayout x.schema l) _ empty looked c.lay_out.ensures.clean
    (subst (StopLeaves b d) c.new.ensures (c.lay_out.ensures.leaves (λ is. cc) (ap (λ (x : Database). x.schema) same ∙ schema))) clean

pub returns-in-Others-clause-leaves : goal.returns-in-Others-clause-leaves
returns-in-Others-clause-leaves g c schema =
    let a = state g.A.Store c.args.conn.now in
    let b = state g.A.Store c.layout_of.new.conn in
    let settled = settled_alone a c.is_autocommit.result c.is_autocommit.ensures.value c.if-not-is_autocommit.false c.is_autocommit.ensures.settled in
    stop_looked a b (λ d l. IsLayout d.schema l) _ empty (c.in_ok-layout_of.ensures.looks settled)

pub returns-in-First-clause-leaves : goal.returns-in-First-clause-leaves
returns-in-First-clause-leaves g c schema clean =
    let a = state g.A.Store c.args.conn.now in
    let b = state g.A.Store c.layout_of.new.conn in
    let settled = settled_alone a c.is_autocommit.result c.is_autocommit.ensures.value c.if-not-is_autocommit.false c.is_autocommit.ensures.settled in
    let new = is_new a b c.in_ok-layout_of.field-0 (c.in_ok-layout_of.ensures.looks settled) (c.migrate.ensures.clean clean) schema in
    absurd (let e : ◌≡◌ {A = Layout} First Nothing = sym c.in-First.is ∙ new in cc)

pub returns-in-Second-clause-leaves : goal.returns-in-Second-clause-leaves
returns-in-Second-clause-leaves g c schema clean =
    let a = state g.A.Store c.args.conn.now in
    let b = state g.A.Store c.layout_of.new.conn in
    let settled = settled_alone a c.is_autocommit.result c.is_autocommit.ensures.value c.if-not-is_autocommit.false c.is_autocommit.ensures.settled in
    let new = is_new a b c.in_ok-layout_of.field-0 (c.in_ok-layout_of.ensures.looks settled) (c.take.ensures.clean clean) schema in
    absurd (let e : ◌≡◌ {A = Layout} Second Nothing = sym c.in-Second.is ∙ new in cc)

pub returns-then-not-is_autocommit-clause-leaves_first : goal.returns-then-not-is_autocommit-clause-leaves_first
returns-then-not-is_autocommit-clause-leaves_first g c k first = stop_none (state g.A.Store c.args.conn.now) k

pub returns-in_err-layout_of-clause-leaves_first : goal.returns-in_err-layout_of-clause-leaves_first
returns-in_err-layout_of-clause-leaves_first g c k first =
    let a = state g.A.Store c.args.conn.now in
    let b = state g.A.Store c.layout_of.new.conn in
    let settled = settled_alone a c.is_autocommit.result c.is_autocommit.ensures.value c.if-not-is_autocommit.false c.is_autocommit.ensures.settled in
    stop_looked a b (λ d l. IsLayout d.schema l) _ k (c.in_err-layout_of.ensures.looks settled)

pub returns-in-First-clause-leaves_first : goal.returns-in-First-clause-leaves_first
returns-in-First-clause-leaves_first g c k first =
    let a = state g.A.Store c.args.conn.now in
    let b = state g.A.Store c.layout_of.new.conn in
    let settled = settled_alone a c.is_autocommit.result c.is_autocommit.ensures.value c.if-not-is_autocommit.false c.is_autocommit.ensures.settled in
    let looked = c.in_ok-layout_of.ensures.looks settled in
    let mid = first_still a b k (λ x l. IsLayout x.schema l) (Ok c.in_ok-layout_of.field-0) first looked in
    stop_after a b (state g.A.Store c.migrate.new.conn) (λ x l. IsLayout x.schema l) _ k looked c.migrate.ensures.clean (c.migrate.ensures.leaves k mid)

pub returns-in-Others-clause-leaves_first : goal.returns-in-Others-clause-leaves_first
returns-in-Others-clause-leaves_first g c k first =
    let a = state g.A.Store c.args.conn.now in
    let b = state g.A.Store c.layout_of.new.conn in
    let settled = settled_alone a c.is_autocommit.result c.is_autocommit.ensures.value c.if-not-is_autocommit.false c.is_autocommit.ensures.settled in
    stop_looked a b (λ d l. IsLayout d.schema l) _ k (c.in_ok-layout_of.ensures.looks settled)

pub returns-in-Nothing-clause-leaves_first : goal.returns-in-Nothing-clause-leaves_first
returns-in-Nothing-clause-leaves_first g c k first clean =
    let a = state g.A.Store c.args.conn.now in
    let b = state g.A.Store c.layout_of.new.conn in
    let settled = settled_alone a c.is_autocommit.result c.is_autocommit.ensures.value c.if-not-is_autocommit.false c.is_autocommit.ensures.settled in
    let older = is_first a b c.in_ok-layout_of.field-0 (c.in_ok-layout_of.ensures.looks settled) (c.lay_out.ensures.clean clean) k first in
    absurd (let e : ◌≡◌ {A = Layout} Nothing First = sym c.in-Nothing.is ∙ older in cc)

pub returns-in-Second-clause-leaves_first : goal.returns-in-Second-clause-leaves_first
returns-in-Second-clause-leaves_first g c k first clean =
    let a = state g.A.Store c.args.conn.now in
    let b = state g.A.Store c.layout_of.new.conn in
    let settled = settled_alone a c.is_autocommit.result c.is_autocommit.ensures.value c.if-not-is_autocommit.false c.is_autocommit.ensures.settled in
    let older = is_first a b c.in_ok-layout_of.field-0 (c.in_ok-layout_of.ensures.looks settled) (c.take.ensures.clean clean) k first in
    absurd (let e : ◌≡◌ {A = Layout} Second First = sym c.in-Second.is ∙ older in cc)

-- ---- tables beside others

pub returns-then-not-is_autocommit-clause-beside : goal.returns-then-not-is_autocommit-clause-beside
returns-then-not-is_autocommit-clause-beside g c clean k it = untouched (state g.A.Store c.args.conn.now) _ _

pub returns-in_err-layout_of-clause-beside : goal.returns-in_err-layout_of-clause-beside
returns-in_err-layout_of-clause-beside g c clean k it =
    let a = state g.A.Store c.args.conn.now in
    let b = state g.A.Store c.layout_of.new.conn in
    let settled = settled_alone a c.is_autocommit.result c.is_autocommit.ensures.value c.if-not-is_autocommit.false c.is_autocommit.ensures.settled in
    let p = err_from_is_err_and c.from_residual.result c.from_residual.ensures.1 in
    failed_reads a b (λ d l. IsLayout d.schema l) _ c.in_err-layout_of.field-0.0 p.0 c.from_residual.result p.1 (c.in_err-layout_of.ensures.looks settled)

pub returns-in_err-layout_of-clause-recognized_beside : goal.returns-in_err-layout_of-clause-recognized_beside
returns-in_err-layout_of-clause-recognized_beside g c is clean k it =
    c.in_err-layout_of.ensures.told (told_by c.from_residual.result c.in_err-layout_of.field-0.0 c.from_residual.ensures.1 is)

pub returns-in-Second-clause-beside : goal.returns-in-Second-clause-beside
returns-in-Second-clause-beside g c clean k it =
    let a = state g.A.Store c.args.conn.now in
    let b = state g.A.Store c.layout_of.new.conn in
    let settled = settled_alone a c.is_autocommit.result c.is_autocommit.ensures.value c.if-not-is_autocommit.false c.is_autocommit.ensures.settled in
    let d = state g.A.Store c.take.new.conn in
    let looked = c.in_ok-layout_of.ensures.looks settled in
    let mid = beside_still a b k (λ x l. IsLayout x.schema l) (Ok c.in_ok-layout_of.field-0) it looked in
    weaker_reads a d _ (λ _ o. option_map held o.kept ≡ Some k) c.take.result (λ db o h. h.1.1)
    (and_reads a b d (λ x l. IsLayout x.schema l) (λ _ o. option_map held o.kept ≡ Some k) c.in_ok-layout_of.field-0 c.take.result looked
    (c.take.ensures.beside clean k mid))

pub returns-in-Second-clause-recognized_beside : goal.returns-in-Second-clause-recognized_beside
returns-in-Second-clause-recognized_beside g c is clean k it =
    let a = state g.A.Store c.args.conn.now in
    let b = state g.A.Store c.layout_of.new.conn in
    let settled = settled_alone a c.is_autocommit.result c.is_autocommit.ensures.value c.if-not-is_autocommit.false c.is_autocommit.ensures.settled in
    let mid = beside_still a b k (λ x l. IsLayout x.schema l) (Ok c.in_ok-layout_of.field-0) it (c.in_ok-layout_of.ensures.looks settled) in
    c.take.ensures.recognized_beside is clean k mid

pub returns-in-Nothing-clause-beside : goal.returns-in-Nothing-clause-beside
returns-in-Nothing-clause-beside g c clean k it =
    let a = state g.A.Store c.args.conn.now in
    let b = state g.A.Store c.layout_of.new.conn in
    let settled = settled_alone a c.is_autocommit.result c.is_autocommit.ensures.value c.if-not-is_autocommit.false c.is_autocommit.ensures.settled in
    let second = is_beside a b c.in_ok-layout_of.field-0 (c.in_ok-layout_of.ensures.looks settled) (c.lay_out.ensures.clean clean) k it in
    absurd (let e : ◌≡◌ {A = Layout} Nothing Second = sym c.in-Nothing.is ∙ second in cc)

pub returns-in-Nothing-clause-recognized_beside : goal.returns-in-Nothing-clause-recognized_beside
returns-in-Nothing-clause-recognized_beside g c is clean k it =
    let a = state g.A.Store c.args.conn.now in
    let b = state g.A.Store c.layout_of.new.conn in
    let settled = settled_alone a c.is_autocommit.result c.is_autocommit.ensures.value c.if-not-is_autocommit.false c.is_autocommit.ensures.settled in
    let second = is_beside a b c.in_ok-layout_of.field-0 (c.in_ok-layout_of.ensures.looks settled) (c.lay_out.ensures.clean clean) k it in
    absurd (let e : ◌≡◌ {A = Layout} Nothing Second = sym c.in-Nothing.is ∙ second in cc)

pub returns-in-First-clause-beside : goal.returns-in-First-clause-beside
returns-in-First-clause-beside g c clean k it =
    let a = state g.A.Store c.args.conn.now in
    let b = state g.A.Store c.layout_of.new.conn in
    let settled = settled_alone a c.is_autocommit.result c.is_autocommit.ensures.value c.if-not-is_autocommit.false c.is_autocommit.ensures.settled in
    let second = is_beside a b c.in_ok-layout_of.field-0 (c.in_ok-layout_of.ensures.looks settled) (c.migrate.ensures.clean clean) k it in
    absurd (let e : ◌≡◌ {A = Layout} First Second = sym c.in-First.is ∙ second in cc)

pub returns-in-First-clause-recognized_beside : goal.returns-in-First-clause-recognized_beside
returns-in-First-clause-recognized_beside g c is clean k it =
    let a = state g.A.Store c.args.conn.now in
    let b = state g.A.Store c.layout_of.new.conn in
    let settled = settled_alone a c.is_autocommit.result c.is_autocommit.ensures.value c.if-not-is_autocommit.false c.is_autocommit.ensures.settled in
    let second = is_beside a b c.in_ok-layout_of.field-0 (c.in_ok-layout_of.ensures.looks settled) (c.migrate.ensures.clean clean) k it in
    absurd (let e : ◌≡◌ {A = Layout} First Second = sym c.in-First.is ∙ second in cc)

pub returns-in-Others-clause-beside : goal.returns-in-Others-clause-beside
returns-in-Others-clause-beside g c clean k it =
    let a = state g.A.Store c.args.conn.now in
    let b = state g.A.Store c.layout_of.new.conn in
    let settled = settled_alone a c.is_autocommit.result c.is_autocommit.ensures.value c.if-not-is_autocommit.false c.is_autocommit.ensures.settled in
    let second = is_beside a b c.in_ok-layout_of.field-0 (c.in_ok-layout_of.ensures.looks settled) clean k it in
    absurd (let e : ◌≡◌ {A = Layout} Others Second = sym c.in-Others.is ∙ second in cc)

pub returns-in-Others-clause-recognized_beside : goal.returns-in-Others-clause-recognized_beside
returns-in-Others-clause-recognized_beside g c is clean k it =
    let a = state g.A.Store c.args.conn.now in
    let b = state g.A.Store c.layout_of.new.conn in
    let settled = settled_alone a c.is_autocommit.result c.is_autocommit.ensures.value c.if-not-is_autocommit.false c.is_autocommit.ensures.settled in
    let second = is_beside a b c.in_ok-layout_of.field-0 (c.in_ok-layout_of.ensures.looks settled) clean k it in
    absurd (let e : ◌≡◌ {A = Layout} Others Second = sym c.in-Others.is ∙ second in cc)
