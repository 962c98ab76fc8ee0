use Rattle.stable_store.specs.Held.{held}
use Rattle.sql_store.proofs.Made.{as_ok, as_err}
use Rattle.sql_store.proofs.calls.bump.Goals as goal

pub returns-in-Ok-clause-carries : goal.returns-in-Ok-clause-carries
returns-in-Ok-clause-carries g c stands = as_ok (c.in-Ok.ensures.carries (held c.args.kept.now) stands)

pub returns-in-Err-clause-carries : goal.returns-in-Err-clause-carries
returns-in-Err-clause-carries g c stands = as_err (c.in-Err.ensures.carries (held c.args.kept.now) stands)
