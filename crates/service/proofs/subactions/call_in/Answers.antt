use Rattle.std.proofs.Common.{Err, Ok, inl, refl, subst, sym, true, ◌≡◌}
use Rattle.run_model.specs.declared.step.Step.TheVariants as steps
use Rattle.run_laws.proofs.Names.{eqb_self}
use Rattle.run_model.specs.Actions.{is_committed}
use Rattle.service.specs.Calling.{ComesToNothing}
use Rattle.service.specs.Transacting.{began_at, finishes, settles}
use Rattle.service.proofs.Calls.{began_there, begins_by, sub_aborted, sub_worked, works_start}
use Rattle.service.proofs.Undone.{if_error, none_committed_same, sub_undone}
use Rattle.service.proofs.Going.{goes_wider, settles_finishes}
use Rattle.service.proofs.Working.{failed_of, sub_ran}
use Rattle.service.proofs.subactions.call_in.Goals as goal

pub returns-in_err-sub-clause-works : goal.returns-in_err-sub-clause-works
returns-in_err-sub-clause-works g c =
    works_start c.args.at.now.action (g.W.MakesOwnSteps.run c.args.service.now.world) (g.W.MakesOwnSteps.run c.begin_sub.new.service.world)
    c.args.at.now.left c.begin_sub.new.at.left (sym c.in_err-sub.ensures.call.same) (sym c.in_err-sub.ensures.err)

pub returns-in_err-sub-clause-undone : goal.returns-in_err-sub-clause-undone
returns-in_err-sub-clause-undone g c =
    if_error c.from_residual.result _
    (none_committed_same c.args.at.now.action (g.W.MakesOwnSteps.run c.args.service.now.world) (g.W.MakesOwnSteps.run c.begin_sub.new.service.world)
    c.in_err-sub.ensures.call.same)

pub work_in-requires-clause-run : goal.work_in-requires-clause-run
work_in-requires-clause-run g c = refl

pub work_in-requires-clause-action : goal.work_in-requires-clause-action
work_in-requires-clause-action g c = refl

pub work_in-requires-clause-home : goal.work_in-requires-clause-home
work_in-requires-clause-home g c = refl

pub work_in-requires-clause-there : goal.work_in-requires-clause-there
work_in-requires-clause-there g c =
    let run = g.W.MakesOwnSteps.run in
    let begun = c.begin_sub.new.service.world in
    subst (λ h. began_at h c.in_ok-sub.sub.action (run begun).past ≡ true) (sym c.in_ok-sub.ensures.there)
    (began_there run g.W.MakesOwnSteps.sees g.W.MakesOwnSteps.leaves (steps.Call c.args.at.now.action c.args.guardian) c.args.guardian c.args.service.now.world begun
    c.in_ok-sub.sub c.in_ok-sub.ensures.call (eqb_self c.args.guardian))

pub work_in-requires-clause-reached : goal.work_in-requires-clause-reached
work_in-requires-clause-reached g c = refl

pub work_in-requires-clause-left : goal.work_in-requires-clause-left
work_in-requires-clause-left g c = refl

pub returns-in_err-commit_sub-in-Ok-clause-works : goal.returns-in_err-commit_sub-in-Ok-clause-works
returns-in_err-commit_sub-in-Ok-clause-works g c =
    sub_worked g.W.MakesOwnSteps.run g.W.MakesOwnSteps.sees g.W.MakesOwnSteps.leaves c.args.at.now.action c.work_in.new.at.action c.args.guardian c.args.service.now.world
    c.begin_sub.new.service.world (g.W.MakesOwnSteps.run c.work_in.new.service.world) (g.W.MakesOwnSteps.run c.commit_sub.new.service.world)
    c.in_ok-sub.sub c.args.at.now.left c.work_in.new.at.left c.commit_sub.new.at.left c.in_ok-sub.ensures.call c.in_ok-sub.ensures.left
    c.work_in.ensures.action c.work_in.ensures.works c.commit_sub.ensures.ends

pub returns-in_err-commit_sub-in-Ok-clause-undone : goal.returns-in_err-commit_sub-in-Ok-clause-undone
returns-in_err-commit_sub-in-Ok-clause-undone g c =
    if_error c.from_residual-in_err-commit_sub-in-Ok.result _
    (sub_undone g.W.MakesOwnSteps.run g.W.MakesOwnSteps.sees g.W.MakesOwnSteps.leaves c.args.at.now.action c.work_in.new.at.action c.args.guardian c.args.service.now.world
    c.begin_sub.new.service.world (g.W.MakesOwnSteps.run c.work_in.new.service.world) (g.W.MakesOwnSteps.run c.commit_sub.new.service.world)
    c.in_ok-sub.sub _ c.work_in.new.at.left c.in_ok-sub.ensures.call c.work_in.ensures.action c.work_in.ensures.works
    c.in_err-commit_sub-in-Ok.ensures.undone)

pub returns-in_ok-commit_sub-in-Ok-clause-works : goal.returns-in_ok-commit_sub-in-Ok-clause-works
returns-in_ok-commit_sub-in-Ok-clause-works g c =
    sub_worked g.W.MakesOwnSteps.run g.W.MakesOwnSteps.sees g.W.MakesOwnSteps.leaves c.args.at.now.action c.work_in.new.at.action c.args.guardian c.args.service.now.world
    c.begin_sub.new.service.world (g.W.MakesOwnSteps.run c.work_in.new.service.world) (g.W.MakesOwnSteps.run c.commit_sub.new.service.world)
    c.in_ok-sub.sub c.args.at.now.left c.work_in.new.at.left c.commit_sub.new.at.left c.in_ok-sub.ensures.call c.in_ok-sub.ensures.left
    c.work_in.ensures.action c.work_in.ensures.works c.commit_sub.ensures.ends

pub returns-in_ok-commit_sub-in-Ok-clause-committed : goal.returns-in_ok-commit_sub-in-Ok-clause-committed
returns-in_ok-commit_sub-in-Ok-clause-committed g c =
    let run = g.W.MakesOwnSteps.run in
    let begun = c.begin_sub.new.service.world in
    record {
      sub = c.in_ok-sub.sub.action;
      begun = run begun;
      begins =
          begins_by run g.W.MakesOwnSteps.sees g.W.MakesOwnSteps.leaves (steps.Call c.args.at.now.action c.args.guardian) c.args.service.now.world begun
          c.in_ok-sub.sub c.in_ok-sub.ensures.call;
      committed =
          subst (λ a. is_committed a (run c.commit_sub.new.service.world).past ≡ true) c.work_in.ensures.action
          c.in_ok-commit_sub-in-Ok.ensures.committed;
    }

pub returns-in-Err-clause-works : goal.returns-in-Err-clause-works
returns-in-Err-clause-works g c =
    sub_aborted g.W.MakesOwnSteps.run g.W.MakesOwnSteps.sees g.W.MakesOwnSteps.leaves c.args.at.now.action c.work_in.new.at.action c.args.guardian c.args.service.now.world
    c.begin_sub.new.service.world (g.W.MakesOwnSteps.run c.work_in.new.service.world) (g.W.MakesOwnSteps.run c.abort_sub.new.service.world)
    c.in_ok-sub.sub c.args.at.now.left c.work_in.new.at.left c.abort_sub.new.at.left c.in_ok-sub.ensures.call c.in_ok-sub.ensures.left
    c.work_in.ensures.action c.work_in.ensures.works c.abort_sub.ensures.ends

pub returns-in-Err-clause-undone : goal.returns-in-Err-clause-undone
returns-in-Err-clause-undone g c =
    sub_undone g.W.MakesOwnSteps.run g.W.MakesOwnSteps.sees g.W.MakesOwnSteps.leaves c.args.at.now.action c.work_in.new.at.action c.args.guardian c.args.service.now.world
    c.begin_sub.new.service.world (g.W.MakesOwnSteps.run c.work_in.new.service.world) (g.W.MakesOwnSteps.run c.abort_sub.new.service.world)
    c.in_ok-sub.sub _ c.work_in.new.at.left c.in_ok-sub.ensures.call c.work_in.ensures.action c.work_in.ensures.works c.abort_sub.ensures.ends.goes

pub returns-in_err-sub-clause-once : goal.returns-in_err-sub-clause-once
returns-in_err-sub-clause-once g c =
    inl (c.in_err-sub.field-0.0, c.from_residual.ensures.1, c.in_err-sub.ensures.call.why, c.in_err-sub.ensures.call.same, refl)

pub returns-in_err-commit_sub-in-Ok-clause-once : goal.returns-in_err-commit_sub-in-Ok-clause-once
returns-in_err-commit_sub-in-Ok-clause-once g c =
    let run = g.W.MakesOwnSteps.run in
    let worked = run c.work_in.new.service.world in
    let s = c.work_in.new.at.action in
    let result = c.from_residual-in_err-commit_sub-in-Ok.result in
    sub_ran run g.W.MakesOwnSteps.sees g.W.MakesOwnSteps.leaves g.J.Work.does g.J.Error.From.from_gives c.args.at.now.action c.args.guardian
    c.args.service.now.world c.begin_sub.new.service.world worked (run c.commit_sub.new.service.world) c.in_ok-sub.sub s c.args.work.now c.work_in.new.work
    c.work_in.result (Ok c.in-Ok.value) result c.in_ok-sub.ensures.call c.work_in.ensures.action c.in-Ok.is c.work_in.ensures.does
    c.commit_sub.ensures.ends.goes
    (failed_of g.J.Error.From.from_gives (ComesToNothing g.W.MakesOwnSteps.sees worked (steps.Commit s)) c.in-Ok.value result
    c.in_err-commit_sub-in-Ok.field-0.0 c.from_residual-in_err-commit_sub-in-Ok.ensures.1 c.in_err-commit_sub-in-Ok.ensures.stopped)

pub returns-in_ok-commit_sub-in-Ok-clause-once : goal.returns-in_ok-commit_sub-in-Ok-clause-once
returns-in_ok-commit_sub-in-Ok-clause-once g c =
    let run = g.W.MakesOwnSteps.run in
    sub_ran run g.W.MakesOwnSteps.sees g.W.MakesOwnSteps.leaves g.J.Work.does g.J.Error.From.from_gives c.args.at.now.action c.args.guardian
    c.args.service.now.world c.begin_sub.new.service.world (run c.work_in.new.service.world) (run c.commit_sub.new.service.world) c.in_ok-sub.sub
    c.work_in.new.at.action c.args.work.now c.work_in.new.work c.work_in.result (Ok c.in-Ok.value) (Ok c.in-Ok.value) c.in_ok-sub.ensures.call
    c.work_in.ensures.action c.in-Ok.is c.work_in.ensures.does c.commit_sub.ensures.ends.goes refl

pub returns-in-Err-clause-once : goal.returns-in-Err-clause-once
returns-in-Err-clause-once g c =
    let run = g.W.MakesOwnSteps.run in
    let worked = run c.work_in.new.service.world in
    let new = run c.abort_sub.new.service.world in
    let s = c.work_in.new.at.action in
    sub_ran run g.W.MakesOwnSteps.sees g.W.MakesOwnSteps.leaves g.J.Work.does g.J.Error.From.from_gives c.args.at.now.action c.args.guardian
    c.args.service.now.world c.begin_sub.new.service.world worked new c.in_ok-sub.sub s c.args.work.now c.work_in.new.work c.work_in.result
    (Err c.in-Err.error) (Err c.in-Err.error) c.in_ok-sub.ensures.call c.work_in.ensures.action c.in-Err.is c.work_in.ensures.does
    (goes_wider (settles s) (finishes s) worked new (settles_finishes s) c.abort_sub.ensures.ends.goes) (inl refl)
