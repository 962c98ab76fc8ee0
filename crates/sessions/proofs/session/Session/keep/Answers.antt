use Rattle.std.proofs.Common.{IfOk, subst}
use Rattle.runtime.specs.Answering.{IsAnsweredFrom}
use Rattle.sessions.proofs.Stepped.{ordered_then}
use Rattle.sessions.proofs.session.Session.keep.Goals as goal

pub invariant_of-self : goal.invariant_of-self
invariant_of-self g c =
    let old = c.args.self.now in
    let step = c.requires.behind.0 in
    let a = c.in-Ok.answered in
    let given = subst (λ r. IfOk r (λ a. IsAnsweredFrom g.K.OfRun.opening old.last_seen step a.answer a.receipt a.seen)) c.in-Ok.is c.requires.behind.1 in
    record {
      same = old.same;
      ordered = ordered_then g.K.OfRun.opening old.since old.receipts old.last_seen step a.answer a.receipt a.seen old.ordered given
          c.keep_receipt.new.receipts c.keep_receipt.ensures;
    }
