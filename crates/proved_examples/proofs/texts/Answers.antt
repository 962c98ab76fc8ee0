use Rattle.std.proofs.Common.{refl}
use Rattle.std.specs.Fmt.{digits}
use Rattle.proved_examples.proofs.texts.Goals as goal

pub returns-clause-step : goal.returns-clause-step
unfolding digits
returns-clause-step c = refl

pub returns-clause-answer : goal.returns-clause-answer
unfolding digits
returns-clause-answer c = refl
