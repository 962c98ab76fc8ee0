use Rattle.std.proofs.Common.{refl}
use Rattle.std.specs.Int.{int_wrap}
use Rattle.run_model.specs.Answers.{answer_of}
use Rattle.recovery_laws.proofs.decided_ahead_is_installed.Goals as goal

pub returns : goal.returns
unfolding answer_of int_wrap
returns c = ((refl, refl, (refl, refl, (refl, refl, (refl, refl, tt)))), refl, refl, refl, refl)
