use Rattle.std.proofs.Common.{◌≡◌, rules, subst, sym}
use Rattle.std.proofs.lemmas.Bool.{false≢true}
use Rattle.serde_json.specs.View.{view}
use Rattle.store_texts.specs.Texts.{AreRising, entry_data, list_data}
use Rattle.store_texts.proofs.Items.{other_refused}
use Rattle.store_texts.proofs.Parts.{entry_from_data}
use Rattle.store_texts.proofs.reading.parts_of.Goals as goal

pub returns-then-not-entries_rise-clause-refused : goal.returns-then-not-entries_rise-clause-refused
returns-then-not-entries_rise-clause-refused c = λ unfit es fits.
    let read : view c.args.json.now ≡ list_data entry_data c.in_ok-entries.entries.items = search rules in
    other_refused entry_data entry_from_data AreRising (view c.args.json.now) c.in_ok-entries.entries.items read
    (λ rising. false≢true (c.if-not-entries_rise.ensures.1 (subst AreRising (sym c.as_slice.ensures.value) rising))) es fits.0
