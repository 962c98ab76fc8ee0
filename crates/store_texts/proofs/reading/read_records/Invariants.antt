use Rattle.std.proofs.Common.{take}
use Rattle.stable_store.specs.Held.{records_of}
use Rattle.store_texts.specs.Texts.{IsRecord, record_data}
use Rattle.store_texts.proofs.Items.{ReadsItems}
use Rattle.store_texts.proofs.reading.read_records.Given as goal

abbrev pub invariant-loop-document : goal.invariant-loop-document
invariant-loop-document l = ReadsItems record_data IsRecord (take l.document-index l.documents) (records_of l.records.items)
