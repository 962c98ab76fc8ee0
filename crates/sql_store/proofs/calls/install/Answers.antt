use Rattle.std.proofs.Common.{◌≡◌, Some, None, option_map, Ok, Err, sym, ap, subst, ◌∙◌}
use Rattle.std.specs.FinMap.{get, remove}
use Rattle.sqlite.specs.Held.{state}
use Rattle.sqlite.specs.declared.error.Error.{Error}
use Rattle.stable_store.specs.Stored.{installed}
use Rattle.stable_store.specs.Held.{held, record_of, parts_in}
use Rattle.stable_store.specs.Calls.{Changes}
use Rattle.store_writing.specs.Steps.{Carries}
use Rattle.stable_store.proofs.Maps.{taken_seen}
use Rattle.sql_store.proofs.Back.{record_found}
use Rattle.sql_store.proofs.Installs.{install_is, parts_above}
use Rattle.sql_store.proofs.Made.{as_ok, as_err}
use Rattle.sql_store.proofs.calls.install.Goals as goal

pub returns-in_default-clause-changes : goal.returns-in_default-clause-changes
returns-in_default-clause-changes g c =
    let s = held c.args.kept.now in
    let none : get s.prepared c.args.top ≡ None =
    record_found c.args.kept.now.prepared.entries c.args.top ∙ ap (option_map record_of) (sym c.in_default.ensures.value) in
    subst (λ a. Changes s a (held c.discard.new.kept) c.discard.result) (ap (λ r. record s { base = installed r s.base; prepared = remove s.prepared c.args.top }) (sym none)) c.discard.ensures.changes

pub returns-in_default-clause-carries : goal.returns-in_default-clause-carries
returns-in_default-clause-carries g c stands =
    let s = held c.args.kept.now in
    let none : get s.prepared c.args.top ≡ None =
    record_found c.args.kept.now.prepared.entries c.args.top ∙ ap (option_map record_of) (sym c.in_default.ensures.value) in
    subst (λ a. Carries (state g.A.Store c.args.conn.now) (state g.A.Store c.discard.new.conn) s a c.discard.result) (ap (λ r. record s { base = installed r s.base; prepared = remove s.prepared c.args.top }) (sym none)) (c.discard.ensures.carries stands)

pub returns-in-Ok-install-clause-changes : goal.returns-in-Ok-install-clause-changes
returns-in-Ok-install-clause-changes g c =
    let s = held c.args.kept.now in
    let found : get s.prepared c.args.top ≡ Some (record_of c.in-Some.record.now) =
    record_found c.args.kept.now.prepared.entries c.args.top ∙ ap (option_map record_of) (sym c.in-Some.ensures.value) in
    let base : parts_in c.lay.new.base ≡ installed (get s.prepared c.args.top) s.base =
    c.in-Ok-lay.ensures.ok ∙ sym (ap (λ r. installed r s.base) found) in
    let prepared = taken_seen record_of _ _ c.args.top c.remove.ensures.updates.0 in
    λ i. record s { base = base i; prepared = prepared i }

pub returns-in-Ok-install-clause-carries : goal.returns-in-Ok-install-clause-carries
returns-in-Ok-install-clause-carries g c stands =
    let s = held c.args.kept.now in
    let found : get s.prepared c.args.top ≡ Some (record_of c.in-Some.record.now) =
    record_found c.args.kept.now.prepared.entries c.args.top ∙ ap (option_map record_of) (sym c.in-Some.ensures.value) in
    let old = state g.A.Store c.args.conn.now in
    as_ok (subst (λ a. Carries {T = Unit {0}} {E = Error} old (state g.A.Store c.install.new.conn) s a (Ok c.in-Ok-install.field-0))
    (install_is s c.args.top (record_of c.in-Some.record.now) found c.in-Ok.installed.entries c.in-Ok.ensures.put)
    (c.in-Ok-install.ensures.carries s (parts_above s c.args.top (record_of c.in-Some.record.now) found c.in-Ok.installed.entries c.in-Ok.ensures.put old stands c.in-Ok.ensures.above) stands))

pub returns-clause-carries : goal.returns-clause-carries
returns-clause-carries g c stands =
    let s = held c.args.kept.now in
    let found : get s.prepared c.args.top ≡ Some (record_of c.in-Some.record.now) =
    record_found c.args.kept.now.prepared.entries c.args.top ∙ ap (option_map record_of) (sym c.in-Some.ensures.value) in
    let old = state g.A.Store c.args.conn.now in
    as_err (subst (λ a. Carries {T = Unit {0}} {E = Error} old (state g.A.Store c.install.new.conn) s a (Err c.in-Err.error))
    (install_is s c.args.top (record_of c.in-Some.record.now) found c.in-Ok.installed.entries c.in-Ok.ensures.put)
    (c.in-Err.ensures.carries s (parts_above s c.args.top (record_of c.in-Some.record.now) found c.in-Ok.installed.entries c.in-Ok.ensures.put old stands c.in-Ok.ensures.above) stands))
