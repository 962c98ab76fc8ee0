use Rattle.std.proofs.Common.{arith}
use Rattle.std.specs.Map.Iter.{deref_pair}
use Rattle.std.proofs.lemmas.Map.Iter.{rest_all, rest_more}
use Rattle.script_engine.proofs.Opening.{all_within, one_outside, only_within}
use Rattle.script_engine.proofs.storing.is_within.Goals as goal
use Rattle.script_engine.proofs.storing.is_within.Goals.{then-object-eq0-via-then-object-eq0, then-object-eq0-via-else-object-eq0+then-object-last}

pub returns-then-object-eq0 : goal.returns-then-object-eq0
returns-then-object-eq0 c =
    let taken = rest_more deref_pair _ _ _ (c.in-Some.field-0-0, c.in-Some.field-0-1) c.in-Some.is c.next.ensures.steps in
    let (front, all, each) = c.loop-object.invariant in
    elim c.then-object-eq0.branch [
      | then-object-eq0-via-then-object-eq0 w ↦ one_outside c.args.last _ front _ _ _ _ all taken (λ within. omega (arith, w.if-object-eq0.true, within.0))
      | then-object-eq0-via-else-object-eq0+then-object-last w ↦ one_outside c.args.last _ front _ _ _ _ all taken (λ within. omega (arith, w.if-object-last.true, within.1))
    ]

pub loop-object-preserved : goal.loop-object-preserved
loop-object-preserved c =
    let taken = rest_more deref_pair _ _ _ (c.in-Some.field-0-0, c.in-Some.field-0-1) c.in-Some.is c.next.ensures.steps in
    let (front, all, each) = c.loop-object.invariant in
    all_within c.args.last _ front _ _ _ _ all taken each (omega (arith, c.if-object-eq0.false), omega (arith, c.if-object-last.false))

pub returns : goal.returns
returns c =
    let (front, all, each) = c.loop-object.invariant in
    only_within c.args.last _ front _ all (rest_all deref_pair _ _ _ c.in-None.is c.next.ensures.steps) each
