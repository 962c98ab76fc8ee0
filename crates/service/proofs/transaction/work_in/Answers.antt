use Rattle.std.proofs.Common.{subst, sym}
use Rattle.service.specs.Transacting.{Includes}
use Rattle.service.proofs.Calls.{works_start}
use Rattle.service.proofs.transaction.work_in.Goals as goal

pub invariant_of-tx : goal.invariant_of-tx
invariant_of-tx g c = record {
  action = sym c.requires.action;
  home = sym c.requires.home;
  there = c.requires.there;
  reached = subst (λ xs. Includes g.B.Begun.start.reached xs) c.requires.reached (λ n h. h);
  works =
      works_start g.B.Begun.start.action g.B.Begun.start.run (g.W.MakesOwnSteps.run c.args.service.now.world) g.B.Begun.start.left c.args.at.now.left
      c.requires.run c.requires.left;
}
