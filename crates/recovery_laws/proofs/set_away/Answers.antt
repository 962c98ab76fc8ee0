use Rattle.std.proofs.Common.{refl}
use Rattle.run_model.specs.Answers.{answer_of}
use Rattle.recovery_laws.proofs.set_away.Goals as goal

pub returns : goal.returns
unfolding answer_of
returns c = (refl, refl, refl, refl)
