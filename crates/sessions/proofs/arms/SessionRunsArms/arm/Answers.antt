use Rattle.std.proofs.Common.{ap, ◌++◌, ◌∙◌}
use Rattle.sessions.proofs.Beginning.{arm_order}
use Rattle.sessions.proofs.arms.SessionRunsArms.arm.Goals as goal

-- the arm begins with what its starter began with, and with its starter's receipts
pub invariant_of-result : goal.invariant_of-result
invariant_of-result g c =
    let old = c.args.self.now in
    let began =
    c.join_known.ensures ∙ ap (λ l. l ++ c.told-own.result) c.copy_known-since.ensures.copied ∙ ap (λ l. old.since ++ l) c.told-own.ensures.told
    in record {
      same = old.same;
      ordered = arm_order g.K.OfRun.opening old.since old.receipts c.join_known.new.known c.no_receipts.result old.last_seen c.copied-last_seen.result
          began c.no_receipts.ensures c.copied-last_seen.ensures.copied old.ordered;
    }
