use Rattle.std.proofs.Common.{◌≤◌, length}
use Rattle.std.specs.Io.KnownBytes.{Consumes}
use Rattle.run_model.specs.Reading.{Lacks}
use Rattle.argus_engine.proofs.reading.read_line.Given as goal

-- the bytes so far stand in the vector, and none of them is a line feed
abbrev pub invariant-loop : goal.invariant-loop
invariant-loop g l = record {
  taken : Consumes (g.R.Read.remaining l.fn.reader) (g.R.Read.remaining l.reader) l.line.items;
  lacks : Lacks 10 l.line.items;
  count : length l.line.items ≤ 8193;
}
