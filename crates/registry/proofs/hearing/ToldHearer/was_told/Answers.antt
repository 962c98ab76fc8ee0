use Rattle.std.proofs.Common.{sym, ◌∙◌}
use Rattle.registry.proofs.hearing.ToldHearer.was_told.Goals as goal

pub returns : goal.returns
returns g c = λ told hears. c.was_told.ensures hears.0 hears.1 ∙ sym (hears.2 c.args.action.now)
