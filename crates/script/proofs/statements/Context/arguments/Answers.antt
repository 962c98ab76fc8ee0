use Rattle.std.proofs.Common.{arith, rules}
use Rattle.serde_json.specs.View.{view}
use Rattle.script_parts.specs.Places.{pointer}
use Rattle.script.proofs.StatementLists.{arguments_are, arguments_end, items_at}
use Rattle.script.proofs.statements.Context.arguments.Goals as goal

pub returns-in_err-ask : goal.returns-in_err-ask
returns-in_err-ask c =
    let a = c.args in
    rw (arguments_are a.scope.now (view a.handler.now) (view a.json.now) (pointer a.place.now) c.in_ok-documents.documents.now c.takes_count-fits.result
    c.in_ok-documents.ensures c.takes_count-fits.ensures) (search rules)

pub returns-in_err-expr : goal.returns-in_err-expr
returns-in_err-expr c =
    let a = c.args in
    let vs = c.in_ok-documents.documents.now in
    let read = arguments_are a.scope.now (view a.handler.now) (view a.json.now) (pointer a.place.now) vs c.takes_count-fits.result c.in_ok-documents.ensures c.takes_count-fits.ensures in
    let at = items_at vs c.loop-i.i c.index-documents-i.result (omega arith) c.index-documents-i.is in
    rw (read, c.in_ok-ask.ensures, c.loop-i.invariant, at, ← c.item.ensures) (search rules)

pub returns : goal.returns
returns c =
    let a = c.args in
    let vs = c.in_ok-documents.documents.now in
    let read = arguments_are a.scope.now (view a.handler.now) (view a.json.now) (pointer a.place.now) vs c.takes_count-fits.result c.in_ok-documents.ensures c.takes_count-fits.ensures in
    rw (read, c.in_ok-ask.ensures, c.loop-i.invariant) (arguments_end a.scope.now (view a.handler.now) vs c.loop-i.i (pointer a.place.now) c.loop-i.ints c.loop-i.texts (omega arith))
