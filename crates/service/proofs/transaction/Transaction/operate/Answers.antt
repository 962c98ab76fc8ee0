use Rattle.std.proofs.Common.{subst}
use Rattle.service.specs.Transacting.{Works}
use Rattle.service.proofs.Calls.{works_more}
use Rattle.service.proofs.transaction.Transaction.operate.Goals as goal

pub invariant_of-self : goal.invariant_of-self
invariant_of-self g c =
    let run = g.W.MakesOwnSteps.run in
    let start = g.B.Begun.start in
    let old = run c.args.self.now.service.now.world in
    let new = run c.operate_in.new.service.world in
    let left = c.args.self.now.at.now.left in
    record {
      action = c.args.self.now.action;
      home = c.args.self.now.home;
      there = c.args.self.now.there;
      reached = c.args.self.now.reached;
      works =
          works_more start.action start.run old new start.left left left c.args.self.now.works
          (subst (λ a. Works g.W.MakesOwnSteps.sees a old new left left) c.args.self.now.action c.operate_in.ensures.works);
    }
