use Rattle.std.proofs.Common.{ap, ◌∙◌}
use Rattle.locked_run.specs.Receipts.{runs_of}
use Rattle.locked_run.proofs.Telling.{runs_told, told_tell}
use Rattle.locked_run.proofs.receipts.Known.copy.Goals as goal

pub new-requires : goal.new-requires
new-requires g c = told_tell c.self.inside.part c.tell_all.result c.self.invariant (c.tell_all.ensures.of.1 ∙ c.self.invariant.of_table) c.tell_all.ensures.told

pub returns-clause-copied : goal.returns-clause-copied
returns-clause-copied g c = c.new.ensures ∙ ap runs_of c.tell_all.ensures.told ∙ runs_told c.self.inside.part.token.me.0 ∙ c.self.view_is
