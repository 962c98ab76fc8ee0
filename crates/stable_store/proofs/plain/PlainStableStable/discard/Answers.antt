use Rattle.std.proofs.Common.{ap}
use Rattle.stable_store.specs.Held.{held, record_of}
use Rattle.stable_store.proofs.Maps.{taken_seen}
use Rattle.stable_store.proofs.Made.{made}
use Rattle.stable_store.proofs.plain.PlainStableStable.discard.Goals as goal

pub returns-clause-makes : goal.returns-clause-makes
returns-clause-makes c =
    made tt _ _ _ _ _ (ap (λ p. record (held c.args.self.now.kept) { prepared = p })
    (taken_seen record_of _ _ c.args.top c.remove.ensures.updates.0))
