use Rattle.std.proofs.Common.{Option, ap, subst, sym, ◌∙◌}
use Rattle.std.specs.Option.{option_or}
use Rattle.service.specs.Transacting.{EndedAndTold, Settles, finishes}
use Rattle.service.specs.declared.fault.CallFault.{CallFault}
use Rattle.service.proofs.Concluded.{commit_then_told, committed_then, uncommitted_then, uncommitted_undone}
use Rattle.service.proofs.subactions.commit_and_tell.Goals as goal

pub returns-in-Ok-clause-ends : goal.returns-in-Ok-clause-ends
returns-in-Ok-clause-ends g c =
    let run = g.W.MakesOwnSteps.run in
    let action = c.args.action.now in
    let old = c.args.service.now.world in
    let new = c.tell-told.new.self.world in
    subst (λ (is : Option CallFault). Settles g.W.MakesOwnSteps.sees (finishes action) (run old) (run new) c.args.left is (EndedAndTold action c.args.guardian (run new)))
    (sym (c.or.ensures ∙ ap (λ (o : Option CallFault). option_or c.args.left o) c.err.ensures.value))
    (commit_then_told run g.W.MakesOwnSteps.sees g.W.MakesOwnSteps.leaves action c.args.guardian old c.commit.new.self.world new c.tell-told.result c.args.left c.in-Ok.ensures
    c.tell-told.ensures)

pub returns-in-Ok-clause-committed : goal.returns-in-Ok-clause-committed
returns-in-Ok-clause-committed g c =
    committed_then g.W.MakesOwnSteps.run g.W.MakesOwnSteps.sees g.W.MakesOwnSteps.leaves c.args.action.now c.args.guardian c.args.service.now.world c.commit.new.self.world
    c.tell-told.new.self.world c.tell-told.result c.in-Ok.ensures c.tell-told.ensures

pub returns-in-Err-clause-ends : goal.returns-in-Err-clause-ends
returns-in-Err-clause-ends g c =
    uncommitted_then g.W.MakesOwnSteps.run g.W.MakesOwnSteps.sees g.W.MakesOwnSteps.leaves c.args.action.now c.args.guardian c.args.service.now.world c.commit.new.self.world
    c.abort_and_tell.new.service.world _ c.args.left c.abort_and_tell.result c.in-Err.ensures c.abort_and_tell.ensures

pub returns-in-Err-clause-undone : goal.returns-in-Err-clause-undone
returns-in-Err-clause-undone g c =
    uncommitted_undone g.W.MakesOwnSteps.run g.W.MakesOwnSteps.sees g.W.MakesOwnSteps.leaves c.args.action.now c.args.guardian c.args.service.now.world c.commit.new.self.world
    c.abort_and_tell.new.service.world _ c.args.left c.abort_and_tell.result c.in-Err.ensures c.abort_and_tell.ensures
