use Rattle.std.proofs.lemmas.Bool.{false≢true}
use Rattle.tracer.proofs.Apart.{done_apart, gives_apart, is_truth_apart, signals_apart}
use Rattle.tracer.proofs.same.same_reply.Goals as goal

pub returns-in_default : goal.returns-in_default
returns-in_default c = record {
  equal = λ yes. absurd (false≢true yes);
  differ = λ no. gives_apart c.args.reply.now c.args.other.now c.in_default.field-0-0 c.in_default.is-0 c.in_default.not-Gives-1;
}

pub returns-in_default-2 : goal.returns-in_default-2
returns-in_default-2 c = record {
  equal = λ yes. absurd (false≢true yes);
  differ = λ no. is_truth_apart c.args.reply.now c.args.other.now c.in_default.field-0-0 c.in_default.is-0 c.in_default.not-Truth-1;
}

pub returns-in_default-3 : goal.returns-in_default-3
returns-in_default-3 c = record {
  equal = λ yes. absurd (false≢true yes);
  differ = λ no. done_apart c.args.reply.now c.args.other.now c.in_default.is-0 c.in_default.not-Done-1;
}

pub returns-in_default-4 : goal.returns-in_default-4
returns-in_default-4 c = record {
  equal = λ yes. absurd (false≢true yes);
  differ = λ no. signals_apart c.args.reply.now c.args.other.now c.in_default.field-0-0 c.in_default.is-0 c.in_default.not-Signals-1;
}
