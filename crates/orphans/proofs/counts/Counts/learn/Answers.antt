use Rattle.std.proofs.Common.{ap, arith, sym, vec_len, ◌∙◌}
use Rattle.run_model.specs.LocalReadings.{raised}
use Rattle.orphans.specs.Logs.{known_counts}
use Rattle.orphans.proofs.Learning.{raised_last}
use Rattle.orphans.proofs.counts.Counts.learn.Goals as goal

pub loop-guardian-preserved : goal.loop-guardian-preserved
loop-guardian-preserved c = record {
  learnt = ap (raised c.pop.new.self.items) c.put.ensures.counts
      ∙ sym (raised_last _ _ _ (known_counts c.loop-guardian.self) c.in-Some.ensures.items)
      ∙ c.loop-guardian.invariant.learnt;
  room = c.put.ensures.room (vec_len c.pop.new.self) (record {
    log = omega (arith, c.loop-guardian.invariant.room.log, c.in-Some.ensures.cases);
    greatest = omega (arith, c.loop-guardian.invariant.room.greatest, c.in-Some.ensures.cases);
  });
}
