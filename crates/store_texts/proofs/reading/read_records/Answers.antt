use Rattle.std.proofs.Common.{◌≡◌, Err, ap, rules}
use Rattle.values.specs.declared.words.ValueFault.TheVariants.{Unfit}
use Rattle.stable_store.specs.Held.{record_of, records_of}
use Rattle.store_texts.specs.Texts.{IsRecord, record_data}
use Rattle.store_texts.proofs.Items.{items_at, one_more, map_push}
use Rattle.store_texts.proofs.reading.read_records.Goals as goal

pub returns-in_err-record_of-clause-refused : goal.returns-in_err-record_of-clause-refused
returns-in_err-record_of-clause-refused c = λ unfit items each same.
    let is : c.in_err-record_of.field-0.0 ≡ Unfit = search rules in
    let x = items_at record_data IsRecord c.args.documents.now items c.loop-document.document-index c.document-item.result same each c.loop-document-test.true c.document-item.is in
    c.in_err-record_of.ensures.refused (ap Err is) x.0 x.1 x.2

pub loop-document-preserved : goal.loop-document-preserved
loop-document-preserved c =
    one_more record_data IsRecord c.args.documents.now (records_of c.loop-document.records.items) (records_of c.push.new.self.items) c.loop-document.document-index c.document-item.result
    _ c.loop-document.invariant c.loop-document-test.true c.document-item.is c.in_ok-record_of.ensures.found
    (map_push (λ e. (e.0, record_of e.1)) _ _ _ c.in_ok-push.ensures.items)
