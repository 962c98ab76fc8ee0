use Rattle.holders.proofs.Places.{sorted_none}
use Rattle.holders.proofs.few.FewHolders.new.Goals as goal

pub invariant_of-result : goal.invariant_of-result
invariant_of-result g c = rw c.new.ensures.items sorted_none
