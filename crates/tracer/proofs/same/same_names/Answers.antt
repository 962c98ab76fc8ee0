use Rattle.std.proofs.lemmas.Bool.{eqb-false}
use Rattle.tracer.proofs.Apart.{components_differ, components_same, longer_apart, name_apart, one_compared, shorter_apart}
use Rattle.tracer.proofs.same.same_names.Goals as goal

pub returns-in_default-clause-differ : goal.returns-in_default-clause-differ
returns-in_default-clause-differ c = λ no.
    shorter_apart c.loop-at.at c.args.names.now c.args.others.now c.index-names-at.result c.loop-at.invariant c.loop-at-test.true c.in_default.ensures.lookup.3 c.index-names-at.is

pub returns-then-ne-clause-differ : goal.returns-then-ne-clause-differ
returns-then-ne-clause-differ c = λ no.
    name_apart c.loop-at.at c.args.names.now c.args.others.now c.index-names-at.result c.in-Some.other.now c.loop-at.invariant c.loop-at-test.true
    c.in-Some.ensures.lookup.3.0 c.index-names-at.is c.in-Some.ensures.lookup.1 c.components.ensures.named c.components-in-loop-at.ensures.named
    (components_differ c.components.result.now c.components-in-loop-at.result.now c.index-names-at.result c.in-Some.other.now c.ne.result c.ne.ensures c.if-ne.true
    c.components.ensures.numbers c.components-in-loop-at.ensures.numbers)

pub loop-at-preserved : goal.loop-at-preserved
loop-at-preserved c =
    one_compared c.loop-at.at c.args.names.now c.args.others.now c.index-names-at.result c.in-Some.other.now c.loop-at.invariant c.loop-at-test.true
    c.in-Some.ensures.lookup.3.0 c.index-names-at.is c.in-Some.ensures.lookup.1 c.components.ensures.named
    (components_same c.components.result.now c.components-in-loop-at.result.now c.index-names-at.result c.in-Some.other.now c.ne.result c.ne.ensures c.if-ne.false
    c.components.ensures.numbers c.components-in-loop-at.ensures.numbers)

pub returns-clause-differ : goal.returns-clause-differ
returns-clause-differ c = λ no.
    longer_apart c.loop-at.at c.args.names.now c.args.others.now c.loop-at.invariant c.loop-at-test.false c.loop-at.auto.at-end (eqb-false _ _ no)
