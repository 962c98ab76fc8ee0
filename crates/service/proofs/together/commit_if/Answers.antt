use Rattle.std.proofs.Common.{ap, subst, sym}
use Rattle.std.specs.Result.{is_ok}
use Rattle.run_model.specs.declared.step.Step.TheVariants as steps
use Rattle.service.specs.Calling.{ComesToNothing}
use Rattle.service.specs.Transacting.{EndedAndTold, finishes, settles}
use Rattle.service.specs.declared.fault.CallFault.{CallFault}
use Rattle.service.proofs.ArmEnds.{if_value}
use Rattle.service.proofs.Going.{settles_finishes, settles_wider}
use Rattle.service.proofs.together.commit_if.Goals as goal

pub returns-in-Ok-clause-room : goal.returns-in-Ok-clause-room
returns-in-Ok-clause-room g c = if_value c.commit_and_tell.result.0 _ (ap (λ room. is_ok room) c.in-Ok.is)

pub returns-in-Err-clause-ends : goal.returns-in-Err-clause-ends
returns-in-Err-clause-ends g c =
    let new = g.W.MakesOwnSteps.run c.abort_and_tell.new.service.world in
    settles_wider (settles c.args.action.now) (finishes c.args.action.now) (g.W.MakesOwnSteps.run c.args.service.now.world) new c.args.left
    c.abort_and_tell.result (EndedAndTold c.args.action.now c.args.guardian new) (settles_finishes c.args.action.now) c.abort_and_tell.ensures

pub returns-in-Err-clause-undone : goal.returns-in-Err-clause-undone
returns-in-Err-clause-undone g c = c.abort_and_tell.ensures.goes

pub returns-in-Err-clause-stopped : goal.returns-in-Err-clause-stopped
returns-in-Err-clause-stopped g c =
    subst (λ (fault : CallFault). ComesToNothing g.W.MakesOwnSteps.sees (g.W.MakesOwnSteps.run c.args.service.now.world) (steps.Commit c.args.action.now) fault)
    (sym c.from.ensures) tt
