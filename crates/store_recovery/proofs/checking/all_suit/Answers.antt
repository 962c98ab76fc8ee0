use Rattle.store_recovery.proofs.Entries.{parts_are}
use Rattle.store_recovery.proofs.checking.all_suit.Goals as goal

pub returns-clause-rising : goal.returns-clause-rising
returns-clause-rising c = parts_are c.args.parts.now.entries c.iter.ensures.ordered
