use Rattle.std.proofs.Common.{ap, arith, sym, vec_len, ◌∙◌}
use Rattle.run_model.specs.LocalReadings.{learnt}
use Rattle.orphans.specs.Logs.{known_names, names_of}
use Rattle.orphans.proofs.Learning.{learnt_last}
use Rattle.orphans.proofs.log.Log.learn.Goals as goal

pub loop-abort-preserved : goal.loop-abort-preserved
loop-abort-preserved c = record {
  learnt = ap (learnt (names_of c.pop.new.self.items)) c.put.ensures.names
      ∙ sym (learnt_last _ _ _ (known_names c.loop-abort.self) c.in-Some.ensures.items)
      ∙ c.loop-abort.invariant.learnt;
  room = c.put.ensures.room (vec_len c.pop.new.self) (record {
    names = omega (arith, c.loop-abort.invariant.room.names, c.in-Some.ensures.cases);
    paths = omega (arith, c.loop-abort.invariant.room.paths, c.in-Some.ensures.cases);
  });
}
