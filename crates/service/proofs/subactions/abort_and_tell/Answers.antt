use Rattle.std.proofs.Common.{Option, ap, subst, sym, ◌∙◌}
use Rattle.std.specs.Option.{option_or}
use Rattle.service.specs.Transacting.{EndedAndTold, Settles, settles}
use Rattle.service.specs.declared.fault.CallFault.{CallFault}
use Rattle.service.proofs.Concluded.{abort_then_told, unaborted}
use Rattle.service.proofs.subactions.abort_and_tell.Goals as goal

pub returns-in-Ok : goal.returns-in-Ok
returns-in-Ok g c =
    let run = g.W.MakesOwnSteps.run in
    let action = c.args.action.now in
    let old = c.args.service.now.world in
    let new = c.tell.new.self.world in
    subst (λ (is : Option CallFault). Settles g.W.MakesOwnSteps.sees (settles action) (run old) (run new) c.args.left is (EndedAndTold action c.args.guardian (run new)))
    (sym (c.or.ensures ∙ ap (λ (o : Option CallFault). option_or c.args.left o) c.err.ensures.value))
    (abort_then_told run g.W.MakesOwnSteps.sees g.W.MakesOwnSteps.leaves action c.args.guardian old c.abort.new.self.world new c.tell.result c.args.left c.in-Ok.ensures
    c.tell.ensures)

pub returns-in-Err : goal.returns-in-Err
returns-in-Err g c =
    let run = g.W.MakesOwnSteps.run in
    let action = c.args.action.now in
    let old = c.args.service.now.world in
    let new = c.abort.new.self.world in
    subst (λ (is : Option CallFault). Settles g.W.MakesOwnSteps.sees (settles action) (run old) (run new) c.args.left is (EndedAndTold action c.args.guardian (run new)))
    (sym c.or-in-Err.ensures) (unaborted run g.W.MakesOwnSteps.sees g.W.MakesOwnSteps.leaves action c.args.guardian old new c.in-Err.fault c.args.left c.in-Err.ensures)
