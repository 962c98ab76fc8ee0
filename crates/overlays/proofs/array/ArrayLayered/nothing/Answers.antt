use Rattle.std.proofs.Common.{refl}
use Rattle.overlays.proofs.ArrayLaws.{laid_nothing}
use Rattle.overlays.proofs.array.ArrayLayered.nothing.Goals as goal

pub returns-clause-laid : goal.returns-clause-laid
returns-clause-laid c = λ a. laid_nothing a _ refl c.new.ensures.empty
