use Rattle.std.proofs.Common.{◌≡◌, ◌++◌, List, ℕ}
use Rattle.std.specs.List.{AllByRecursion}
use Rattle.stable_store.specs.Stored.{Record}
use Rattle.stable_store.specs.Held.{records_of}
use Rattle.store_texts.specs.Texts.{IsRecord, record_data}
use Rattle.store_texts.proofs.Items.{elements}
use Rattle.store_texts.proofs.writing.write_records.Given as goal

-- with what is left to be written, the tokens are those of the whole
abbrev pub invariant-loop-top : goal.invariant-loop-top
invariant-loop-top l = record {
  tokens : l.out.tokens ++ elements record_data (records_of l.top-iterator) ≡ l.initial.out.tokens ++ elements record_data (records_of l.records.entries);
  before : l.out.before ≡ l.initial.out.before;
  fit : (done : List (ℕ × Record)) × (done ++ records_of l.top-iterator ≡ records_of l.records.entries) × AllByRecursion IsRecord done;
}
