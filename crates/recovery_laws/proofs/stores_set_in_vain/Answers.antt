use Rattle.std.proofs.Common.{refl}
use Rattle.run_model.specs.Answers.{answer_of}
use Rattle.recovery_laws.specs.Examples as example
use Rattle.recovery_laws.proofs.Examples.{stores_settle}
use Rattle.recovery_laws.proofs.stores_set_in_vain.Goals as goal

pub returns : goal.returns
unfolding answer_of
returns c =
    stores_settle example.two_guardians.setup example.set_in_vain example.away (example.record_of 0) example.three _
    (refl, refl, (refl, refl, (refl, refl, (refl, refl, (refl, refl, (refl, refl, (refl, refl, tt))))))) refl refl refl refl refl
