use Rattle.std.proofs.Common.{◌≡◌, ◌++◌, List, ℕ}
use Rattle.std.specs.List.{AllByRecursion}
use Rattle.store_texts.specs.Texts.{IsNumber, number_data}
use Rattle.store_texts.proofs.Items.{elements}
use Rattle.store_texts.proofs.writing.write_numbers.Given as goal

-- with what is left to be written, the tokens are those of the whole
abbrev pub invariant-loop-number : goal.invariant-loop-number
invariant-loop-number l = record {
  tokens : l.out.tokens ++ elements number_data l.number-iterator ≡ l.initial.out.tokens ++ elements number_data l.numbers.keys;
  before : l.out.before ≡ l.initial.out.before;
  fit : (done : List ℕ) × (done ++ l.number-iterator ≡ l.numbers.keys) × AllByRecursion IsNumber done;
}
