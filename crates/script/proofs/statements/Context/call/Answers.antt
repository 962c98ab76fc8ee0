use Rattle.std.proofs.Common.{Err, rules, refl, ap, sym, ◌∙◌}
use Rattle.serde_json.specs.View.{view}
use Rattle.script_model.specs.declared.fault.FaultKind.TheVariants as is
use Rattle.script_model.specs.declared.fault.ScriptFault.TheVariants.{Bad}
use Rattle.script_model.specs.Shapes.{the_string}
use Rattle.script_model.specs.StatementReading.{guardian_numbered}
use Rattle.script_parts.specs.Places.{pointer}
use Rattle.script.proofs.StatementCalls.{call_are, call_at, call_lost, call_found}
use Rattle.script.proofs.statements.Context.call.Goals as goal

pub returns-in_err-index : goal.returns-in_err-index
returns-in_err-index c =
    let a = c.args in
    let p = c.in_ok-number in
    let read = call_are a.self.now.handlers.now a.scope.now (view a.json.now) (pointer a.place.now) (view p.number.now) (view p.name.now) (view p.arguments.now) c.guardians-count.result
    p.ensures c.guardians-count.ensures in
    rw (read, ← c.item.ensures) (search rules)

pub returns-in_err-name : goal.returns-in_err-name
returns-in_err-name c =
    let a = c.args in
    let p = c.in_ok-number in
    let read = call_are a.self.now.handlers.now a.scope.now (view a.json.now) (pointer a.place.now) (view p.number.now) (view p.name.now) (view p.arguments.now) c.guardians-count.result
    p.ensures c.guardians-count.ensures in
    rw (read, ← c.item.ensures, c.in_ok-index.ensures, ← c.item-place_of_name.ensures) (search rules)

pub returns-in_default : goal.returns-in_default
returns-in_default c = λ told.
    let a = c.args in
    let p = c.in_ok-number in
    let hs = a.self.now.handlers.now in
    let place = pointer a.place.now in
    let index = ap (guardian_numbered c.guardians-count.result (view p.number.now)) (sym c.item.ensures) ∙ c.in_ok-index.ensures in
    let name = ap (the_string (view p.name.now)) (sym c.item-place_of_name.ensures) ∙ c.in_ok-name.ensures in
    let read = call_at hs a.scope.now (view a.json.now) place (view p.number.now) (view p.name.now) (view p.arguments.now) c.guardians-count.result c.in_ok-index.index c.in_ok-name.name.now
    p.ensures c.guardians-count.ensures index name in
    read ∙ call_lost hs a.scope.now (view p.arguments.now) place c.in_ok-index.index c.in_ok-name.name.now c.in_default.ensures
    ∙ ap (λ at. Err (Bad is.Handler at)) (sym c.item-place_of_name.ensures) ∙ ap Err (sym (c.fault.ensures told))

pub returns-in_err-ints : goal.returns-in_err-ints
returns-in_err-ints c =
    let a = c.args in
    let p = c.in_ok-number in
    let hs = a.self.now.handlers.now in
    let place = pointer a.place.now in
    let index = ap (guardian_numbered c.guardians-count.result (view p.number.now)) (sym c.item.ensures) ∙ c.in_ok-index.ensures in
    let name = ap (the_string (view p.name.now)) (sym c.item-place_of_name.ensures) ∙ c.in_ok-name.ensures in
    let read = call_at hs a.scope.now (view a.json.now) place (view p.number.now) (view p.name.now) (view p.arguments.now) c.guardians-count.result c.in_ok-index.index c.in_ok-name.name.now
    p.ensures c.guardians-count.ensures index name in
    let found = call_found hs a.scope.now (view p.arguments.now) place c.in_ok-index.index c.in_ok-name.name.now c.in-Some.handler (view c.in-Some.document.now) c.in-Some.ensures in
    rw (read ∙ found, ← c.item-2.ensures) (search rules)

pub returns : goal.returns
returns c =
    let a = c.args in
    let p = c.in_ok-number in
    let hs = a.self.now.handlers.now in
    let place = pointer a.place.now in
    let index = ap (guardian_numbered c.guardians-count.result (view p.number.now)) (sym c.item.ensures) ∙ c.in_ok-index.ensures in
    let name = ap (the_string (view p.name.now)) (sym c.item-place_of_name.ensures) ∙ c.in_ok-name.ensures in
    let read = call_at hs a.scope.now (view a.json.now) place (view p.number.now) (view p.name.now) (view p.arguments.now) c.guardians-count.result c.in_ok-index.index c.in_ok-name.name.now
    p.ensures c.guardians-count.ensures index name in
    let found = call_found hs a.scope.now (view p.arguments.now) place c.in_ok-index.index c.in_ok-name.name.now c.in-Some.handler (view c.in-Some.document.now) c.in-Some.ensures in
    rw (read ∙ found, ← c.item-2.ensures, c.in_ok-ints.ensures, c.sort_given.ensures, c.handler_gives.ensures) refl
