use Rattle.std.proofs.Common.{sym, ◌∙◌}
use Rattle.orphans.proofs.Turned.{has_name_turned}
use Rattle.orphans.proofs.log.Log.contains.Goals as goal

pub returns : goal.returns
returns c = c.contains.ensures ∙ c.args.self.now.indexed c.args.path.now ∙ sym (has_name_turned c.args.self.now.names.items c.args.path.now)
