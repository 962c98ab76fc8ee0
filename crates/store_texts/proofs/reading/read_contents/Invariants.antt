use Rattle.std.proofs.Common.{take, map}
use Rattle.store_texts.specs.Texts.{IsContent, lists_data, lists_of}
use Rattle.store_texts.proofs.Items.{ReadsItems}
use Rattle.store_texts.proofs.reading.read_contents.Given as goal

abbrev pub invariant-loop-document : goal.invariant-loop-document
invariant-loop-document l = ReadsItems lists_data IsContent (take l.document-index l.documents) (map lists_of l.contents.items)
