use Rattle.std.proofs.Common.{refl}
use Rattle.std.specs.Int.{int_wrap}
use Rattle.run_model.specs.Answers.{answer_of}
use Rattle.recovery_laws.proofs.both_told.Goals as goal

pub returns : goal.returns
unfolding answer_of int_wrap
returns c = (refl, refl, refl, refl)
