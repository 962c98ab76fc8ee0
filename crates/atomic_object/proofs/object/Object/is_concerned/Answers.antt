use Rattle.std.proofs.Common.{sym, ◌∙◌}
use Rattle.object_laws.proofs.Concerned.{concerned_shown}
use Rattle.atomic_object.specs.Kept.{seen}
use Rattle.atomic_object.proofs.object.Object.is_concerned.Goals as goal

pub returns-clause-shown : goal.returns-clause-shown
returns-clause-shown c = λ d s shows untold. c.is_held.ensures ∙ sym (concerned_shown d s (seen c.args.self.now) c.args.action.now c.args.committed shows untold)
