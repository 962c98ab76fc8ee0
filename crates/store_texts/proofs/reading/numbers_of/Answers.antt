use Rattle.std.proofs.Common.{◌≡◌, rules, subst, sym}
use Rattle.std.proofs.lemmas.Bool.{false≢true}
use Rattle.std.specs.List.Sorted.{IsStrictlySortedBy}
use Rattle.std.specs.Ordering.{nat_cmp}
use Rattle.serde_json.specs.View.{view}
use Rattle.store_texts.specs.Texts.{list_data, number_data}
use Rattle.store_texts.proofs.Items.{other_refused}
use Rattle.store_texts.proofs.Parts.{number_from_data}
use Rattle.store_texts.proofs.reading.numbers_of.Goals as goal

pub returns-then-not-numbers_rise-clause-refused : goal.returns-then-not-numbers_rise-clause-refused
returns-then-not-numbers_rise-clause-refused c = λ unfit ns fits.
    let read : view c.args.json.now ≡ list_data number_data c.in_ok-numbers.numbers.items = search rules in
    other_refused number_data number_from_data (IsStrictlySortedBy nat_cmp) (view c.args.json.now) c.in_ok-numbers.numbers.items read
    (λ sorted. false≢true (c.if-not-numbers_rise.ensures.1 (subst (IsStrictlySortedBy nat_cmp) (sym c.as_slice.ensures.value) sorted))) ns fits.0
