use Rattle.traces.proofs.Lines.{found_at, found_nowhere}
use Rattle.traces.proofs.line.cut.Goals as goal

pub returns-in_err-at : goal.returns-in_err-at
returns-in_err-at c = rw c.from_residual.ensures (found_nowhere c.args.mark c.args.text.now c.in_err-at.ensures)

pub returns : goal.returns
returns c = found_at c.args.mark c.args.text.now c.in_ok-at.at c.in_ok-at.ensures
