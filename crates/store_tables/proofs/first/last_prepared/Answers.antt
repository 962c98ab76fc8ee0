use Rattle.std.proofs.Common.{true≢false, sym}
use Rattle.store_tables.proofs.Greatest.{last_record, no_record}
use Rattle.store_tables.proofs.first.last_prepared.Goals as goal

pub returns-in-Some : goal.returns-in-Some
returns-in-Some c = last_record c.args.prepared.now.entries _ _ c.in-Some.ensures.greatest c.in-Some.ensures.value

pub returns-in-None : goal.returns-in-None
returns-in-None c = no_record c.args.prepared.now.entries (λ some. true≢false (sym (c.in-None.ensures.variant.1 some)))
