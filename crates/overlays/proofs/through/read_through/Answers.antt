use Rattle.std.proofs.Common.{length, take, ◌-◌, sym, ap, ◌∙◌, arith}
use Rattle.overlays.specs.Overlays.{laid_all, shown}
use Rattle.overlays.proofs.Stacked.{under_top}
use Rattle.overlays.proofs.through.read_through.Goals as goal

pub returns-in-Reply : goal.returns-in-Reply
returns-in-Reply g c =
    let t = g.T.Layered in
    let a = g.T.AtomicType in
    let left = c.loop-left.left.now in
    let base = c.args.base.now in
    let r = under_top t.laid t.fits (length left - 1) base left c.top-item.result (omega arith) c.top-item.is c.loop-left.invariant.fit in
    let below = a.reply (laid_all t.laid base (take (length left - 1) left)) c.args.op.now in
    let known = sym (g.met.T.Layered.overlays_know _ c.top-item.result c.args.op.now r.1)
    ∙ sym (ap (λ x. a.knows x c.args.op.now) r.2) ∙ c.loop-left.invariant.known in
    sym (ap (λ s. shown s below) c.in-Reply.is) ∙ sym (c.in_ok-reply.ensures _ r.1 known)
    ∙ sym (ap (λ x. a.reply x c.args.op.now) r.2) ∙ c.loop-left.invariant.same

pub loop-left-preserved : goal.loop-left-preserved
loop-left-preserved g c =
    let t = g.T.Layered in
    let a = g.T.AtomicType in
    let left = c.loop-left.left.now in
    let base = c.args.base.now in
    let r = under_top t.laid t.fits (length left - 1) base left c.top-item.result (omega arith) c.top-item.is c.loop-left.invariant.fit in
    let below = a.reply (laid_all t.laid base (take (length left - 1) left)) c.args.op.now in
    let known = sym (g.met.T.Layered.overlays_know _ c.top-item.result c.args.op.now r.1)
    ∙ sym (ap (λ x. a.knows x c.args.op.now) r.2) ∙ c.loop-left.invariant.known in
    record {
      fit = r.0;
      known = known;
      same = sym (ap (λ s. shown s below) c.in-Below.is) ∙ sym (c.in_ok-reply.ensures _ r.1 known)
          ∙ sym (ap (λ x. a.reply x c.args.op.now) r.2) ∙ c.loop-left.invariant.same;
    }
