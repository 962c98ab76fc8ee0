use Rattle.std.proofs.Common.{take}
use Rattle.store_texts.specs.Texts.{IsNumber, number_data}
use Rattle.store_texts.proofs.Items.{ReadsItems}
use Rattle.store_texts.proofs.reading.read_numbers.Given as goal

abbrev pub invariant-loop-document : goal.invariant-loop-document
invariant-loop-document l = ReadsItems number_data IsNumber (take l.document-index l.documents) l.numbers.items
