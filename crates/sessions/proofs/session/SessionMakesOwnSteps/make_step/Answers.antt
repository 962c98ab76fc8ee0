use Rattle.std.proofs.Common.{IfOk, subst, sym, ◌∙◌}
use Rattle.runtime.specs.Answering.{IsAnsweredFrom}
use Rattle.runtime.specs.Receipts.{IsKept}
use Rattle.sessions.specs.Sessions.{IsLastSeen}
use Rattle.sessions.proofs.Kept.{step_after, step_answered, step_same}
use Rattle.sessions.proofs.session.SessionMakesOwnSteps.make_step.Goals as goal

pub returns-clause-answered : goal.returns-clause-answered
returns-clause-answered g c =
    let old = c.args.self.now in
    let mid = c.step_behind-answered in
    let new = c.keep.new.self in
    step_answered g.K.OfRun.opening old.opening.now new.opening.now old.since new.since old.receipts new.receipts old.last_seen new.last_seen
    c.args.step.now mid.result c.keep.result old.same (c.keep.ensures.opening ∙ mid.ensures.opening) (c.keep.ensures.since ∙ mid.ensures.since) old.ordered mid.ensures.answered
    (subst (λ l. IsKept mid.result c.keep.result l new.receipts) mid.ensures.receipts c.keep.ensures.kept)
    (subst (λ l. IsLastSeen mid.result l new.last_seen) mid.ensures.seen c.keep.ensures.seen)

pub returns-clause-after : goal.returns-clause-after
returns-clause-after g c =
    let old = c.args.self.now in
    let mid = c.step_behind-answered in
    let new = c.keep.new.self in
    step_after g.K.OfRun.opening old.opening.now new.opening.now old.since new.since old.receipts new.receipts old.last_seen new.last_seen
    c.args.step.now mid.result c.keep.result old.same (c.keep.ensures.opening ∙ mid.ensures.opening) (c.keep.ensures.since ∙ mid.ensures.since) old.ordered mid.ensures.answered
    (subst (λ l. IsKept mid.result c.keep.result l new.receipts) mid.ensures.receipts c.keep.ensures.kept)
    (subst (λ l. IsLastSeen mid.result l new.last_seen) mid.ensures.seen c.keep.ensures.seen)

pub returns-clause-err : goal.returns-clause-err
returns-clause-err g c =
    let old = c.args.self.now in
    let mid = c.step_behind-answered in
    let new = c.keep.new.self in
    step_same g.K.OfRun.opening old.opening.now new.opening.now old.since new.since old.receipts new.receipts old.last_seen new.last_seen
    c.args.step.now mid.result c.keep.result old.same (c.keep.ensures.opening ∙ mid.ensures.opening) (c.keep.ensures.since ∙ mid.ensures.since) old.ordered mid.ensures.answered
    (subst (λ l. IsKept mid.result c.keep.result l new.receipts) mid.ensures.receipts c.keep.ensures.kept)
    (subst (λ l. IsLastSeen mid.result l new.last_seen) mid.ensures.seen c.keep.ensures.seen)

pub keep-requires : goal.keep-requires
keep-requires g c =
    let behind = c.step_behind-answered in
    let step = c.args.step.now in record {
      behind = (
        step,
        subst (λ last. IfOk behind.result (λ a. IsAnsweredFrom g.K.OfRun.opening last step a.answer a.receipt a.seen)) (sym behind.ensures.seen)
            behind.ensures.answered,
      );
    }
