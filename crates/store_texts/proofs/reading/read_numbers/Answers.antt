use Rattle.std.proofs.Common.{◌≡◌, Err, ap, rules}
use Rattle.values.specs.declared.words.ValueFault.TheVariants.{Unfit}
use Rattle.store_texts.specs.Texts.{IsNumber, number_data}
use Rattle.store_texts.proofs.Items.{items_at, one_more}
use Rattle.store_texts.proofs.reading.read_numbers.Goals as goal

pub returns-in_err-number_of-clause-refused : goal.returns-in_err-number_of-clause-refused
returns-in_err-number_of-clause-refused c = λ unfit items each same.
    let is : c.in_err-number_of.field-0.0 ≡ Unfit = search rules in
    let x = items_at number_data IsNumber c.args.documents.now items c.loop-document.document-index c.document-item.result same each c.loop-document-test.true c.document-item.is in
    c.in_err-number_of.ensures.refused (ap Err is) x.0 x.1 x.2

pub loop-document-preserved : goal.loop-document-preserved
loop-document-preserved c =
    one_more number_data IsNumber c.args.documents.now c.loop-document.numbers.items c.push.new.self.items c.loop-document.document-index c.document-item.result
    c.in_ok-number_of.field-0 c.loop-document.invariant c.loop-document-test.true c.document-item.is c.in_ok-number_of.ensures.found
    c.in_ok-push.ensures.items
