use Rattle.std.proofs.Common.{sym, ◌∙◌, arith}
use Rattle.traces.proofs.Files.{few_lines, one_read, same_setup, stops_there, stops_uncut}
use Rattle.traces.proofs.trace.read_lines.Goals as goal

pub returns-in_default-clause-fault : goal.returns-in_default-clause-fault
returns-in_default-clause-fault c =
    stops_uncut c.args.bytes.now c.loop-number.rest.now c.loop-number.reader.lines c.loop-number.number c.loop-number.invariant.are_read
    (sym c.is_empty.ensures ∙ c.if-is_empty.false) c.in_default.ensures

pub returns-then-not-branch-clause-fault : goal.returns-then-not-branch-clause-fault
returns-then-not-branch-clause-fault c =
    stops_there c.args.bytes.now c.loop-number.rest.now c.in-Some.line.now c.in-Some.others.now c.loop-number.reader c.push.new.self c.loop-number.number
    c.in_ok-push.field-0 c.loop-number.invariant.are_read (sym c.is_empty.ensures ∙ c.if-is_empty.false) c.in-Some.ensures c.if-not-branch.true c.in_ok-push.ensures.ok

pub loop-number-preserved : goal.loop-number-preserved
loop-number-preserved c = record {
  setup = same_setup c.in-Some.line.now c.loop-number.reader c.push.new.self c.in_ok-push.field-0 c.if-not-branch.false c.in_ok-push.ensures.ok ∙ c.loop-number.invariant.setup;
  are_read =
      one_read c.args.bytes.now c.loop-number.rest.now c.in-Some.line.now c.in-Some.others.now c.loop-number.reader c.push.new.self c.loop-number.number
      c.in_ok-push.field-0 c.loop-number.invariant.are_read c.in-Some.ensures c.if-not-branch.false c.in_ok-push.ensures.ok;
}

pub unreachable-requires : goal.unreachable-requires
unreachable-requires c =
    omega (arith, few_lines c.args.bytes.now c.loop-number.rest.now c.loop-number.reader.lines c.loop-number.number c.loop-number.invariant.are_read)
