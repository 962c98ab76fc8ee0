use Rattle.std.proofs.Common.{refl}
use Rattle.run_model.specs.Answers.{answer_of}
use Rattle.recovery_laws.proofs.ByHand.{installed_by_hand}
use Rattle.recovery_laws.proofs.set_away_by_hand.Goals as goal

pub returns : goal.returns
unfolding answer_of
returns c = (refl, installed_by_hand)
