use Rattle.orphans.proofs.Histories.{just_crashed}
use Rattle.orphans.proofs.lists.Lists.reopened.Goals as goal

pub returns-clause-lists : goal.returns-clause-lists
returns-clause-lists c = λ here e crash counted. just_crashed _ c.new.ensures c.new-2.ensures c.new-3.ensures here e crash counted
