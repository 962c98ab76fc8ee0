use Rattle.std.proofs.Common.{refl}
use Rattle.std.specs.Fmt.{digits}
use Rattle.run_model.specs.Answers.{answer_of}
use Rattle.proved_examples.proofs.histories_gather.Goals as goal

pub returns : goal.returns
unfolding answer_of digits
returns c = refl
