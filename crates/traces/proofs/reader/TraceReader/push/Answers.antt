use Rattle.run_model.proofs.Cutting.{nothing_read}
use Rattle.traces.specs.Traces.{line_text, lists_of}
use Rattle.traces.specs.Reading.{IsLineFrom}
use Rattle.traces.proofs.Kept.{kept_then, no_next, read_some, takes}
use Rattle.traces.proofs.reader.TraceReader.push.Goals as goal

pub returns-in_default-clause-ok : goal.returns-in_default-clause-ok
returns-in_default-clause-ok c =
    no_next c.self.inside.setup (lists_of c.self.inside.histories.items) c.self.inside.last c.args.self.now c.args.text.now c.self.invariant c.self.view_is
    (nothing_read (IsLineFrom c.self.inside.last) line_text c.args.text.now c.in_ok-line.field-0 c.in_default.is c.in_ok-line.ensures)

pub invariant_of-self-2 : goal.invariant_of-self-2
invariant_of-self-2 c =
    kept_then c.self.inside.setup (lists_of c.self.inside.histories.items) (lists_of c.put.new.histories.items) c.self.inside.last c.in-Some.line c.args.text.now
    c.self.invariant (read_some (IsLineFrom c.self.inside.last) line_text c.args.text.now c.in_ok-line.field-0 c.in-Some.line c.in-Some.is c.in_ok-line.ensures)
    c.in_ok-put.ensures.ok

pub returns-clause-ok : goal.returns-clause-ok
returns-clause-ok c =
    takes c.self.inside.setup (lists_of c.self.inside.histories.items) (lists_of c.put.new.histories.items) c.self.inside.last c.in-Some.line c.args.self.now c.args.text.now
    c.self.invariant c.self.view_is
    (read_some (IsLineFrom c.self.inside.last) line_text c.args.text.now c.in_ok-line.field-0 c.in-Some.line c.in-Some.is c.in_ok-line.ensures) c.in_ok-put.ensures.ok
