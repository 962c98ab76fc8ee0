use Rattle.std.proofs.Common.{subst, sym, ◌∙◌}
use Rattle.std.proofs.lemmas.Result.{IfOk-weaker}
use Rattle.layer_contracts.specs.Messages.{sent_by}
use Rattle.roster.specs.Entries.{IsMerged}
use Rattle.roster.specs.Tables.{table}
use Rattle.roster.proofs.roster.Roster.plan_merge.Goals as goal

pub returns-in-Commit : goal.returns-in-Commit
returns-in-Commit g c =
    let t = table c.args.places.now c.args.self.now in
    IfOk-weaker c.plan_left.result _ _
    (λ m is f e stands same old.
    subst (λ s. IsMerged t s (sent_by f e c.args.sending) m) (sym c.in-Commit.is)
    (is f e stands (same ∙ c.in-Commit.is) (old c.in-Commit.action (same ∙ c.in-Commit.is))))
    c.plan_left.ensures
