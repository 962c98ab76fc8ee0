use Rattle.std.proofs.Common.{rules}
use Rattle.traces.proofs.Kept.{next_of}
use Rattle.traces.proofs.reader.next_line.Goals as goal

pub returns : goal.returns
returns c = next_of c.args.last c.args.text.now c.in_ok-read.read c.filter.result _ (λ x b q. search rules) c.in_ok-read.ensures c.filter.ensures
