use Rattle.store_recovery.proofs.Entries.{records_are}
use Rattle.store_recovery.proofs.checking.records_belong.Goals as goal

pub returns-clause-rising : goal.returns-clause-rising
returns-clause-rising c = records_are c.args.records.now.entries c.values.ensures.ordered
