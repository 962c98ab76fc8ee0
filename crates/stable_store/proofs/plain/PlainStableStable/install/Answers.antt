use Rattle.std.proofs.Common.{◌≡◌, ℕ, List, nat_cmp, Some, None, option_map, cond, sym, ap, ◌∙◌}
use Rattle.std.specs.FinMap.{FinMap, get, remove, from_entries}
use Rattle.std.specs.Map.{lookup}
use Rattle.std.specs.BTreeMap.{is_at}
use Rattle.atomic_types.specs.declared.part.Part.{Part}
use Rattle.stable_store.specs.declared.kept.Kept.{Kept}
use Rattle.stable_store.specs.declared.kept.Prepared.{Prepared}
use Rattle.stable_store.specs.Stored.{installed, laid, after_install}
use Rattle.stable_store.specs.Held.{held, record_of, records_of, parts_in}
use Rattle.stable_store.proofs.Maps.{get_is, lookup-seen, absent, taken_seen}
use Rattle.stable_store.proofs.Made.{made}
use Rattle.stable_store.proofs.plain.PlainStableStable.install.Goals as goal

-- the record that is found is that of the maps
record_found : (records : List (ℕ × Prepared)) (top : ℕ)
    → get (from_entries {R = nat_cmp} (records_of records)) top ≡ option_map record_of (lookup (is_at (nat_cmp top)) records)
record_found records top = get_is (records_of records) top ∙ lookup-seen record_of _ records

pub returns-in_default-clause-makes : goal.returns-in_default-clause-makes
returns-in_default-clause-makes c =
    let s = held c.args.self.now.kept in
    let records = c.args.self.now.kept.prepared.entries in
    let none : get s.prepared c.args.top ≡ None =
    record_found records c.args.top ∙ ap (option_map record_of) (sym c.in_default.ensures.value) in
    let base : s.base ≡ installed (get s.prepared c.args.top) s.base = sym (ap (λ r. installed r s.base) none) in
    let prepared : s.prepared ≡ remove s.prepared c.args.top = sym (absent s.prepared c.args.top none) in
    let is : s ≡ after_install c.args.top s = λ i. record s { base = base i; prepared = prepared i } in
    made tt _ _ _ _ _ is

-- with the record's parts laid over the base, and the record taken out, the content is that of an installation
installs : (k : Kept) (top : ℕ) (r : Prepared) (base : FinMap nat_cmp Part) (rest : List (ℕ × Prepared))
    → Some r ≡ lookup (is_at (nat_cmp top)) k.prepared.entries → base ≡ laid r.parts.entries (parts_in k.base)
    → ((q : ℕ) → lookup (is_at (nat_cmp q)) rest ≡ cond (is_at (nat_cmp top) q) None (lookup (is_at (nat_cmp q)) k.prepared.entries))
    → record (held k) { base = base; prepared = from_entries (records_of rest) } ≡ after_install top (held k)
installs k top r base rest there is_laid taken =
    let s = held k in
    let found : get s.prepared top ≡ Some (record_of r) = record_found k.prepared.entries top ∙ ap (option_map record_of) (sym there) in
    let installs_it : base ≡ installed (get s.prepared top) s.base = is_laid ∙ sym (ap (λ x. installed x s.base) found) in
    let prepared = taken_seen record_of k.prepared.entries rest top taken in
    λ i. record s { base = installs_it i; prepared = prepared i }

pub returns-clause-makes : goal.returns-clause-makes
returns-clause-makes c =
    made tt _ _ _ _ _
    (installs c.args.self.now.kept c.args.top c.in-Some.record.now _ _ c.in-Some.ensures.value c.in_ok-lay.ensures.ok c.remove-2.ensures.updates.0)

pub returns-in-Some-remove-clause-makes : goal.returns-in-Some-remove-clause-makes
returns-in-Some-remove-clause-makes c =
    made tt _ _ _ _ _
    (installs c.args.self.now.kept c.args.top c.in-Some-remove.record _ _ c.in-Some-remove.ensures.value c.move_over.ensures c.remove.ensures.updates.0)
