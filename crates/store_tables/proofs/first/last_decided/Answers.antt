use Rattle.std.proofs.Common.{true≢false, sym}
use Rattle.store_tables.proofs.Greatest.{last_top, no_top}
use Rattle.store_tables.proofs.first.last_decided.Goals as goal

pub returns-in-Some : goal.returns-in-Some
returns-in-Some c = last_top c.args.decided.now.keys _ c.in-Some.ensures.greatest c.in-Some.ensures.member

pub returns-in-None : goal.returns-in-None
returns-in-None c = no_top c.args.decided.now.keys (λ some. true≢false (sym (c.in-None.ensures.variant.1 some)))
