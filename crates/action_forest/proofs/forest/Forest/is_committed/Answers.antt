use Rattle.std.proofs.Common.{ap, sym, ◌∙◌}
use Rattle.run_model.specs.LocalHistories.{events_there}
use Rattle.action_forest.proofs.Readings.{committed_by_status, is_kept}
use Rattle.action_forest.proofs.forest.Forest.is_committed.Goals as goal

pub returns-in-Committed : goal.returns-in-Committed
returns-in-Committed c = λ opening registry h.
    ap is_kept (sym c.in-Committed.is ∙ c.standing.ensures ∙ h.status c.args.path.now)
    ∙ committed_by_status c.args.path.now (events_there registry)
