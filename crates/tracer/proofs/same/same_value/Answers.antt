use Rattle.std.proofs.Common.{arith}
use Rattle.tracer.proofs.Apart.{bytes_differ, int_apart, ints_apart, text_apart, texts_apart}
use Rattle.tracer.proofs.same.same_value.Goals as goal

pub returns-in-Int-Int-clause-differ : goal.returns-in-Int-Int-clause-differ
returns-in-Int-Int-clause-differ c = λ no.
    ints_apart c.args.value.now c.args.other.now c.in-Int-Int.number c.in-Int-Int.other c.in-Int-Int.is-0 c.in-Int-Int.is-1 (omega arith) (omega arith) no

pub returns-in-Text-Text-clause-differ : goal.returns-in-Text-Text-clause-differ
returns-in-Text-Text-clause-differ c = λ no.
    texts_apart c.args.value.now c.args.other.now c.in-Text-Text.text c.in-Text-Text.other c.in-Text-Text.is-0 c.in-Text-Text.is-1
    (bytes_differ c.as_str.result.now c.as_str-in-Text-Text.result.now c.in-Text-Text.text c.in-Text-Text.other c.eq.result c.eq.ensures no
    c.as_str.ensures.value c.as_str-in-Text-Text.ensures.value)

pub returns-in_default-clause-differ : goal.returns-in_default-clause-differ
returns-in_default-clause-differ c = λ no.
    int_apart c.args.value.now c.args.other.now c.in_default.field-0-0 c.in_default.field-0-1 c.in_default.is-0 c.in_default.is-1

pub returns-in_default-2-clause-differ : goal.returns-in_default-2-clause-differ
returns-in_default-2-clause-differ c = λ no.
    text_apart c.args.value.now c.args.other.now c.in_default.field-0-0 c.in_default.field-0-1 c.in_default.is-0 c.in_default.is-1
