use Rattle.std.proofs.Common.{refl}
use Rattle.std.specs.Int.{int_wrap}
use Rattle.run_model.specs.Answers.{answer_of}
use Rattle.proved_examples.proofs.sums_wrap.Goals as goal

pub returns-clause-above : goal.returns-clause-above
unfolding answer_of int_wrap
returns-clause-above c = refl

pub returns-clause-below : goal.returns-clause-below
unfolding answer_of int_wrap
returns-clause-below c = refl
