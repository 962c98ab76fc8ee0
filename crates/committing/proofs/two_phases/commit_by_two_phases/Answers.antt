use Rattle.std.proofs.Common.{Err, Ok, false, refl, subst, sym}
use Rattle.run_model.specs.declared.step.Step.TheVariants.{Prepare}
use Rattle.committing.specs.TwoPhases.{AreTried, two_phases}
use Rattle.committing.proofs.Trying.{decided, the_error, unvoted, voted}
use Rattle.committing.proofs.two_phases.commit_by_two_phases.Goals as goal

pub loop-guardian-preserved : goal.loop-guardian-preserved
loop-guardian-preserved g c =
    let goes = c.in-Some.ensures.goes.on c.loop-guardian.invariant.1 in (
      goes.0,
      goes.1,
      λ guardians all. voted g.S.CommitSteps.tries g.I.Iterator.next_gives c.args.top.now guardians c.args.steps.now c.loop-guardian.guardian-iterator c.next.new.self
          c.loop-guardian.steps c.in-Some.guardian (c.loop-guardian.invariant.2 guardians all) c.in-Some.ensures.steps
          c.try_prepare.new.self c.in_ok-try_prepare.field-0 c.if-not-branch-2.false c.in_ok-try_prepare.ensures,
    )

pub returns-in_err-try_prepare : goal.returns-in_err-try_prepare
returns-in_err-try_prepare g c = λ guardians all.
    let stop = c.in_err-try_prepare.field-0.0 in
    subst (λ r. AreTried g.S.CommitSteps.tries (two_phases c.args.top.now guardians) r c.args.steps.now c.try_prepare.new.self)
    (sym (the_error c.from_residual-in_err-try_prepare.result stop c.from_residual-in_err-try_prepare.ensures.1))
    (unvoted g.S.CommitSteps.tries g.I.Iterator.next_gives c.args.top.now guardians c.args.steps.now c.loop-guardian.guardian-iterator c.next.new.self
    c.loop-guardian.steps c.in-Some.guardian (c.loop-guardian.invariant.2 guardians all) c.in-Some.ensures.steps
    (Err stop) c.try_prepare.new.self refl c.in_err-try_prepare.ensures)

pub returns-then-not-branch-2 : goal.returns-then-not-branch-2
returns-then-not-branch-2 g c = λ guardians all.
    unvoted g.S.CommitSteps.tries g.I.Iterator.next_gives c.args.top.now guardians c.args.steps.now c.loop-guardian.guardian-iterator c.next.new.self
    c.loop-guardian.steps c.in-Some.guardian (c.loop-guardian.invariant.2 guardians all) c.in-Some.ensures.steps
    (Ok false) c.try_prepare.new.self refl
    (subst (λ b. g.S.CommitSteps.tries (Prepare c.in-Some.guardian.now c.args.top.now) (Ok b) c.loop-guardian.steps c.try_prepare.new.self)
    c.if-not-branch-2.true c.in_ok-try_prepare.ensures)

pub returns : goal.returns
returns g c = λ guardians all.
    decided g.S.CommitSteps.tries g.I.Iterator.next_gives c.args.top.now guardians c.args.steps.now c.loop-guardian.guardian-iterator c.next.new.self
    c.loop-guardian.steps c.try_decide.new.self c.try_decide.result (c.loop-guardian.invariant.2 guardians all) c.in-None.ensures.steps
    c.try_decide.ensures
