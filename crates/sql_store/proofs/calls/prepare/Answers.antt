use Rattle.std.proofs.Common.{◌≡◌, option_map, IsSome, Ok, Err, max, ◌+◌, sym, ap, subst, ◌∙◌, refl, rules}
use Rattle.std.specs.FinMap.{get, from_entries}
use Rattle.sqlite.specs.Held.{state}
use Rattle.sqlite.specs.declared.error.Error.{Error}
use Rattle.stable_store.specs.declared.kept.Prepared.{Prepared}
use Rattle.stable_store.specs.Stored.{after_prepare}
use Rattle.stable_store.specs.Held.{held, record_of, records_of}
use Rattle.sql_store.specs.Mirror.{record_back as back_to}
use Rattle.store_writing.specs.Steps.{Carries}
use Rattle.stable_store.proofs.Maps.{given_seen, found_inserted}
use Rattle.sql_store.proofs.Back.{record_back, record_found, put_found, same_some}
use Rattle.sql_store.proofs.Made.{as_ok, as_err}
use Rattle.sql_store.proofs.calls.prepare.Goals as goal

pub put_record_back-requires : goal.put_record_back-requires
put_record_back-requires g c =
    subst (λ m. IsSome (get m c.args.top)) (sym (given_seen record_of c.args.kept.now.prepared.entries _ c.args.top _ c.in-Ok.ensures.updates.0)) (found_inserted _ c.args.top _)

pub returns-in-Ok-prepare-clause-carries : goal.returns-in-Ok-prepare-clause-carries
returns-in-Ok-prepare-clause-carries g c stands =
    let put : Prepared = record { home = c.args.home; parts = c.args.parts } in
    let same : c.in-Some.record.now ≡ put =
    same_some _ _ (c.in-Some.ensures.value ∙ put_found c.args.kept.now.prepared.entries _ c.args.top put c.in-Ok.ensures.updates.0) in
    let s = held c.args.kept.now in
    as_ok (subst (λ (p : Prepared). Carries {T = Unit {0}} {E = Error} (state g.A.Store c.args.conn.now) (state g.A.Store c.prepare.new.conn) s (after_prepare c.args.top p.home p.parts.entries s) (Ok c.in-Ok-prepare.field-0)) same
    (c.in-Ok-prepare.ensures.carries s refl stands))

pub returns-in-Err-clause-changes : goal.returns-in-Err-clause-changes
returns-in-Err-clause-changes g c =
    let old = c.args.kept.now.prepared.entries in
    let before = option_map record_of c.in-Ok.before in
    ap (λ p. record (held c.args.kept.now) { prepared = p })
    (c.put_record_back.ensures
    ∙ (ap (back_to c.args.top before) (given_seen record_of old _ c.args.top _ c.in-Ok.ensures.updates.0)
    ∙ record_back (from_entries (records_of old)) c.args.top _ before (ap (option_map record_of) c.in-Ok.ensures.old ∙ sym (record_found old c.args.top))))

pub returns-in-Err-clause-carries : goal.returns-in-Err-clause-carries
returns-in-Err-clause-carries g c stands =
    let put : Prepared = record { home = c.args.home; parts = c.args.parts } in
    let same : c.in-Some.record.now ≡ put =
    same_some _ _ (c.in-Some.ensures.value ∙ put_found c.args.kept.now.prepared.entries _ c.args.top put c.in-Ok.ensures.updates.0) in
    let s = held c.args.kept.now in
    as_err (subst (λ (p : Prepared). Carries {T = Unit {0}} {E = Error} (state g.A.Store c.args.conn.now) (state g.A.Store c.prepare.new.conn) s (after_prepare c.args.top p.home p.parts.entries s) (Err c.in-Err.error)) same
    (c.in-Err.ensures.carries s refl stands))

pub returns-in-Ok-prepare-clause-changes : goal.returns-in-Ok-prepare-clause-changes
returns-in-Ok-prepare-clause-changes g c =
    let prepared = given_seen record_of c.args.kept.now.prepared.entries _ c.args.top (record { home = c.args.home; parts = c.args.parts }) c.in-Ok.ensures.updates.0 in
    let next : c.max-kept.result ≡ max c.args.kept.now.next_top (c.args.top + 1) = search rules in
    λ i. record (held c.args.kept.now) { prepared = prepared i; next_top = next i }
