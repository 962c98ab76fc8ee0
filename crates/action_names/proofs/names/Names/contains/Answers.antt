use Rattle.std.proofs.Common.{◌∙◌}
use Rattle.action_names.proofs.Paths.{list_any-has_name}
use Rattle.action_names.proofs.names.Names.contains.Goals as goal

pub returns : goal.returns
returns c = rw (← c.self.view_is) (rw c.deref.ensures.value at c.contains.ensures.value ∙ list_any-has_name c.self.inside.names.items c.args.name.now)
