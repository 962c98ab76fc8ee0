use Rattle.std.proofs.Common.{Ok, Err, ◌≡◌}
use Rattle.std.proofs.lemmas.Result.{err_from_is_err_and}
use Rattle.sqlite.specs.Effect.{Database}
use Rattle.sqlite.specs.Held.{state}
use Rattle.sql_store.specs.declared.layout.Layout.{Layout}
use Rattle.sql_store.specs.declared.layout.Presence.{Presence}
use Rattle.sql_store.specs.Layouts.{presence_in, IsPresence, IsLayout}
use Rattle.sql_store.proofs.Sequences.{failed_reads, and_reads}
use Rattle.sql_store.proofs.Layouts.{settled_after, looked_ok, layout_is, first_columns, delta_columns}
use Rattle.sql_store.proofs.layout.layout_of.Goals as goal

abbrev first_is : Database → Presence → Type 0
first_is d found = IsPresence d.schema first_columns found

abbrev deltas_are : Database → Presence → Type 0
deltas_are d found = found ≡ presence_in d.schema delta_columns

abbrev is_layout : Database → Layout → Type 0
is_layout d layout = IsLayout d.schema layout

pub returns-in_err-first-clause-looks : goal.returns-in_err-first-clause-looks
returns-in_err-first-clause-looks g c settled =
    let p = err_from_is_err_and c.from_residual.result c.from_residual.ensures.1 in
    failed_reads (state g.A.Store c.args.conn.now) (state g.A.Store c.presence_of_all.new.conn) first_is is_layout _ p.0 c.from_residual.result p.1 (c.in_err-first.ensures.looks settled)

pub returns-in_err-deltas-clause-looks : goal.returns-in_err-deltas-clause-looks
returns-in_err-deltas-clause-looks g c settled =
    let a = state g.A.Store c.args.conn.now in
    let b = state g.A.Store c.presence_of_all.new.conn in
    let d = state g.A.Store c.presence_of.new.conn in
    let one = c.in_ok-first.ensures.looks settled in
    let p = err_from_is_err_and c.from_residual-in_err-deltas.result c.from_residual-in_err-deltas.ensures.1 in
    failed_reads a d _ is_layout _ p.0 c.from_residual-in_err-deltas.result p.1
    (and_reads a b d first_is deltas_are c.in_ok-first.first (Err c.in_err-deltas.field-0.0) one
    (c.in_err-deltas.ensures.looks (settled_after a b first_is c.in_ok-first.first settled c.presence_of_all.ensures.mode one)))

pub returns-clause-looks : goal.returns-clause-looks
returns-clause-looks g c settled =
    let a = state g.A.Store c.args.conn.now in
    let b = state g.A.Store c.presence_of_all.new.conn in
    let d = state g.A.Store c.presence_of.new.conn in
    let one = c.in_ok-first.ensures.looks settled in
    looked_ok a d _ is_layout c.in_ok-deltas.deltas c.layout_by.result
    (and_reads a b d first_is deltas_are c.in_ok-first.first (Ok c.in_ok-deltas.deltas) one
    (c.in_ok-deltas.ensures.looks (settled_after a b first_is c.in_ok-first.first settled c.presence_of_all.ensures.mode one)))
    (λ h. layout_is a.now.schema c.in_ok-first.first c.in_ok-deltas.deltas c.layout_by.result h.1.0 h.1.1 c.layout_by.ensures.new c.layout_by.ensures.first c.layout_by.ensures.second)
