use Rattle.std.proofs.Common.{◌≡◌, refl, rules, subst, sym}
use Rattle.std.proofs.lemmas.Bool.{false≢true}
use Rattle.serde_json.specs.View.{view}
use Rattle.stable_store.specs.Held.{records_of}
use Rattle.store_texts.specs.Texts.{AreRecords, AreRising, list_data, record_data}
use Rattle.store_texts.proofs.Items.{other_refused}
use Rattle.store_texts.proofs.Maps.{kept_rise, records_rise}
use Rattle.store_texts.proofs.Parts.{record_from_data}
use Rattle.store_texts.proofs.reading.records_of.Goals as goal

pub returns-then-not-entries_rise-clause-refused : goal.returns-then-not-entries_rise-clause-refused
returns-then-not-entries_rise-clause-refused c = λ unfit rs fits.
    let read : view c.args.json.now ≡ list_data record_data (records_of c.in_ok-records.records.items) = search rules in
    other_refused record_data record_from_data AreRising (view c.args.json.now) (records_of c.in_ok-records.records.items) read
    (λ rising. false≢true (c.if-not-entries_rise.ensures.1 (subst AreRising (sym c.as_slice.ensures.value) (kept_rise c.in_ok-records.records.items rising)))) rs fits.0

pub returns-clause-found : goal.returns-clause-found
returns-clause-found c =
    let items = c.in_ok-records.records.items in
    let rising : AreRising items = subst AreRising c.as_slice.ensures.value (c.if-not-entries_rise.ensures.0 refl) in
    let read : view c.args.json.now ≡ list_data record_data (records_of items) = search rules in
    subst (λ es. AreRecords (records_of es) × (view c.args.json.now ≡ list_data record_data (records_of es))) (sym c.in_ok-map_of.ensures)
    ((records_rise items rising, c.in_ok-records.ensures.found.0), read)
