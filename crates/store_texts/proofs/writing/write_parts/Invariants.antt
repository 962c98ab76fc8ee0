use Rattle.std.proofs.Common.{◌≡◌, ◌++◌, List, ℕ}
use Rattle.std.specs.List.{AllByRecursion}
use Rattle.atomic_types.specs.declared.part.Part.{Part}
use Rattle.store_texts.specs.Texts.{IsEntry, entry_data}
use Rattle.store_texts.proofs.Items.{elements}
use Rattle.store_texts.proofs.writing.write_parts.Given as goal

-- with what is left to be written, the tokens are those of the whole
abbrev pub invariant-loop-object : goal.invariant-loop-object
invariant-loop-object l = record {
  tokens : l.out.tokens ++ elements entry_data l.object-iterator ≡ l.initial.out.tokens ++ elements entry_data l.parts.entries;
  before : l.out.before ≡ l.initial.out.before;
  fit : (done : List (ℕ × Part)) × (done ++ l.object-iterator ≡ l.parts.entries) × AllByRecursion IsEntry done;
}
