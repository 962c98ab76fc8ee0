use Rattle.std.proofs.Common.{◌≡◌, Err, ap, map, rules}
use Rattle.values.specs.declared.words.ValueFault.TheVariants.{Unfit}
use Rattle.store_texts.specs.Texts.{IsContent, lists_data, lists_of}
use Rattle.store_texts.proofs.Items.{items_at, one_more, map_push}
use Rattle.store_texts.proofs.reading.read_contents.Goals as goal

pub returns-in_err-content_of-clause-refused : goal.returns-in_err-content_of-clause-refused
returns-in_err-content_of-clause-refused c = λ unfit items each same.
    let is : c.in_err-content_of.field-0.0 ≡ Unfit = search rules in
    let x = items_at lists_data IsContent c.args.documents.now items c.loop-document.document-index c.document-item.result same each c.loop-document-test.true c.document-item.is in
    c.in_err-content_of.ensures.refused (ap Err is) x.0 x.1 x.2

pub loop-document-preserved : goal.loop-document-preserved
loop-document-preserved c =
    one_more lists_data IsContent c.args.documents.now (map lists_of c.loop-document.contents.items) (map lists_of c.push.new.self.items) c.loop-document.document-index c.document-item.result
    (lists_of c.in_ok-content_of.field-0) c.loop-document.invariant c.loop-document-test.true c.document-item.is c.in_ok-content_of.ensures.found
    (map_push lists_of _ _ _ c.in_ok-push.ensures.items)
