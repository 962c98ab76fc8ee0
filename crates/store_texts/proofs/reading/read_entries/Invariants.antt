use Rattle.std.proofs.Common.{take}
use Rattle.store_texts.specs.Texts.{IsEntry, entry_data}
use Rattle.store_texts.proofs.Items.{ReadsItems}
use Rattle.store_texts.proofs.reading.read_entries.Given as goal

abbrev pub invariant-loop-document : goal.invariant-loop-document
invariant-loop-document l = ReadsItems entry_data IsEntry (take l.document-index l.documents) l.entries.items
