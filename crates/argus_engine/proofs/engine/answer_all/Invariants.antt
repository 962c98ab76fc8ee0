use Rattle.std.proofs.Common.{string_bytes}
use Rattle.argus_engine.specs.Reading.{Running}
use Rattle.stepping.specs.Stepping.{HasMade}
use Rattle.argus_engine.proofs.engine.answer_all.Given as goal

-- the lines before this number were answered, and their steps were made
abbrev pub invariant-loop-number : goal.invariant-loop-number
invariant-loop-number g l = record {
  running :
      Running (g.R.Read.remaining l.fn.reader) (g.R.Read.remaining l.reader) (g.W.Write.contents l.fn.writer) (g.W.Write.contents l.writer)
      (g.M.MakesSteps.run l.fn.world) (g.M.MakesSteps.run l.world) l.number (string_bytes l.answers);
  made : HasMade g.M.MakesSteps.run g.M.MakesSteps.leaves l.fn.world l.world;
}
