use Rattle.std.proofs.Common.{ap}
use Rattle.stable_store.specs.Held.{held}
use Rattle.stable_store.proofs.Maps.{grown}
use Rattle.stable_store.proofs.Made.{made}
use Rattle.stable_store.proofs.plain.PlainStableStable.decide.Goals as goal

pub returns-clause-makes : goal.returns-clause-makes
returns-clause-makes c =
    made tt _ _ _ _ _ (ap (λ d. record (held c.args.self.now.kept) { decided = d })
    (grown _ _ c.args.top c.in_ok-insert.ensures.updates.0))
