use Rattle.activities.proofs.Earlier.{earlier_is_left_alone}
use Rattle.activities.proofs.laws.earlier_is_left_alone.Goals as goal

pub returns : goal.returns
returns c = earlier_is_left_alone
