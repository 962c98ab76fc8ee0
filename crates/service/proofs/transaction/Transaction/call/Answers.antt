use Rattle.std.proofs.Common.{subst, ◌∙◌}
use Rattle.service.specs.Transacting.{Works}
use Rattle.service.proofs.Calls.{works_on}
use Rattle.service.proofs.transaction.Transaction.call.Goals as goal

pub invariant_of-self : goal.invariant_of-self
invariant_of-self g c =
    let run = g.W.MakesOwnSteps.run in
    let start = g.B.Begun.start in
    let old = run c.args.self.now.service.now.world in
    let new = run c.call_in.new.service.world in
    record {
      action = c.call_in.ensures.action ∙ c.args.self.now.action;
      home = c.call_in.ensures.home ∙ c.args.self.now.home;
      there = c.args.self.now.there;
      reached = λ n h. c.call_in.ensures.reached n (c.args.self.now.reached n h);
      works =
          works_on start.action start.run old new start.left c.args.self.now.at.now.left c.call_in.new.at.left c.args.self.now.works
          (subst (λ a. ∥ Works g.W.MakesOwnSteps.sees a old new c.args.self.now.at.now.left c.call_in.new.at.left ∥₁) c.args.self.now.action c.call_in.ensures.works);
    }
