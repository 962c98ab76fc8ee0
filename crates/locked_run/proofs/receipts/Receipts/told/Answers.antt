use Rattle.std.proofs.Common.{ap, ◌∙◌}
use Rattle.locked_run.specs.Receipts.{runs_of}
use Rattle.locked_run.proofs.Telling.{runs_told, told_tell}
use Rattle.locked_run.proofs.receipts.Receipts.told.Goals as goal

pub new-requires : goal.new-requires
new-requires g c = told_tell c.self.inside.part c.tell_all.result c.self.invariant.0 (c.tell_all.ensures.of.1 ∙ c.self.invariant.0.of_table) c.tell_all.ensures.told

pub returns-clause-told : goal.returns-clause-told
returns-clause-told g c = c.new.ensures ∙ ap runs_of c.tell_all.ensures.told ∙ runs_told c.self.inside.part.token.me.0 ∙ c.self.view_is
