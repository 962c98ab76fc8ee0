use Rattle.std.proofs.Common.{ap, refl, subst, ◌++◌, ◌∙◌}
use Rattle.sessions.specs.Sessions.{GoesOnFromBoth, LooksOn}
use Rattle.sessions.proofs.ArmsRan.{joined_then, order_then}
use Rattle.sessions.proofs.arms.SessionRunsArms.join.Goals as goal

pub invariant_of-self : goal.invariant_of-self
invariant_of-self g c =
    let opening = g.K.OfRun.opening in
    let old = c.args.self.now in
    let one = c.args.one in
    let other = c.args.other in
    let kept = c.join_receipts-2.ensures ∙ ap (λ l. l ++ other.receipts) c.join_receipts.ensures in
    let with_one = subst (λ l. GoesOnFromBoth opening l one.last_seen c.both-arms.result) c.take.ensures.value c.both-arms.ensures in
    let looks = subst (λ l. LooksOn opening l c.both-seen.result c.looked.result) kept c.looked.ensures.looks in record {
      same = old.same;
      ordered = order_then opening old.opening.now one.opening.now other.opening.now old.since old.receipts one.since one.receipts other.since other.receipts
          old.last_seen one.last_seen other.last_seen c.both-arms.result c.both-seen.result c.looked.result old.same old.ordered one.ordered other.ordered
          with_one c.both-seen.ensures looks c.requires.one c.requires.other old.opening.now old.since c.looked.new.receipts c.looked.result
          refl refl (c.looked.ensures.same ∙ kept) refl;
    }

pub returns : goal.returns
returns g c =
    let opening = g.K.OfRun.opening in
    let old = c.args.self.now in
    let one = c.args.one in
    let other = c.args.other in
    let kept = c.join_receipts-2.ensures ∙ ap (λ l. l ++ other.receipts) c.join_receipts.ensures in
    let with_one = subst (λ l. GoesOnFromBoth opening l one.last_seen c.both-arms.result) c.take.ensures.value c.both-arms.ensures in
    let looks = subst (λ l. LooksOn opening l c.both-seen.result c.looked.result) kept c.looked.ensures.looks in
    joined_then opening old.opening.now one.opening.now other.opening.now old.since old.receipts one.since one.receipts other.since other.receipts
    old.last_seen one.last_seen other.last_seen c.both-arms.result c.both-seen.result c.looked.result old.same old.ordered one.ordered other.ordered
    with_one c.both-seen.ensures looks c.requires.one c.requires.other old.opening.now old.since c.looked.new.receipts c.looked.result
    refl refl (c.looked.ensures.same ∙ kept) refl
