use Rattle.std.proofs.Common.{◌≡◌}
use Rattle.traces.specs.Reading.{AreReadTo}
use Rattle.traces.proofs.trace.read_lines.Given as goal

abbrev pub invariant-loop-number : goal.invariant-loop-number
invariant-loop-number l = record {
  setup : l.reader.setup ≡ l.fn.reader.setup;
  are_read : AreReadTo l.bytes l.rest l.reader.lines l.number;
}
