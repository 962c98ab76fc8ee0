use Rattle.std.proofs.Common.{ap}
use Rattle.stable_store.specs.Held.{held, record_of}
use Rattle.stable_store.proofs.Maps.{taken_seen}
use Rattle.sql_store.proofs.Made.{as_ok, as_err}
use Rattle.sql_store.proofs.calls.discard.Goals as goal

pub returns-in-Ok-clause-changes : goal.returns-in-Ok-clause-changes
returns-in-Ok-clause-changes g c =
    ap (λ p. record (held c.args.kept.now) { prepared = p }) (taken_seen record_of _ _ c.args.top c.remove.ensures.updates.0)

pub returns-in-Ok-clause-carries : goal.returns-in-Ok-clause-carries
returns-in-Ok-clause-carries g c stands = as_ok (c.in-Ok.ensures.carries (held c.args.kept.now) stands)

pub returns-in-Err-clause-carries : goal.returns-in-Err-clause-carries
returns-in-Err-clause-carries g c stands = as_err (c.in-Err.ensures.carries (held c.args.kept.now) stands)
