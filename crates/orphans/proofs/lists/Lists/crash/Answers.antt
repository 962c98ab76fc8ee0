use Rattle.std.proofs.Common.{refl}
use Rattle.orphans.proofs.Histories.{crashed_event}
use Rattle.orphans.proofs.lists.Lists.crash.Goals as goal

pub returns-clause-lists : goal.returns-clause-lists
returns-clause-lists c = λ here e are crashes. crashed_event c.args.self.now _ _ _ _ refl c.new.ensures c.new-2.ensures c.new-3.ensures here e are crashes
