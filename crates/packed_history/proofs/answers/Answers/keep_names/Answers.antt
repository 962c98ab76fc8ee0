use Rattle.packed_history.proofs.Kept.{one_begun}
use Rattle.packed_history.proofs.answers.Answers.keep_names.Goals as goal

pub returns-in-len1-clause-ok : goal.returns-in-len1-clause-ok
returns-in-len1-clause-ok c =
    one_begun c.short_begun.result c.args.self.now c.args.action.now c.args.names.now c.name-item.result c.in-len1.len_at_least c.in-len1.len_below
    c.name-item.is c.short_begun.ensures
