use Rattle.std.proofs.Common.{◌∙◌, not, ap}
use Rattle.action_names.specs.Names.{same_name}
use Rattle.holders.specs.Held.{names_of}
use Rattle.holders.proofs.Rows.{room_kept}
use Rattle.moss_locks.proofs.of_class.drop_one.Goals as goal

pub returns-clause-names : goal.returns-clause-names
returns-clause-names c = ap names_of c.take.ensures.held ∙ room_kept (λ b. not (same_name b c.args.holder.now)) c.args.holders.now.held
