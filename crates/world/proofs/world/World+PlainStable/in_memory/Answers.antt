use Rattle.world.proofs.First.{opened_empty}
use Rattle.world.proofs.world.World+PlainStable.in_memory.Goals as goal

pub new-requires-clause-opened : goal.new-requires-clause-opened
new-requires-clause-opened c = opened_empty c.args.setup c.in_ok-stores.stores.items c.in_ok-stores.ensures.empty
