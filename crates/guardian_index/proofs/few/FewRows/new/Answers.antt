use Rattle.guardian_index.proofs.FewRows.{orderly_none}
use Rattle.guardian_index.proofs.few.FewRows.new.Goals as goal

pub invariant_of-result : goal.invariant_of-result
invariant_of-result c = orderly_none c.new.result.items c.new.ensures.items
