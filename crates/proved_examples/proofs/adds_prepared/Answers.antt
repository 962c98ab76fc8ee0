use Rattle.std.proofs.Common.{refl}
use Rattle.std.specs.Int.{int_wrap}
use Rattle.run_model.specs.Answers.{answer_of}
use Rattle.proved_examples.proofs.adds_prepared.Goals as goal

pub returns-clause-base : goal.returns-clause-base
unfolding answer_of int_wrap
returns-clause-base c = refl
