use Rattle.std.proofs.lemmas.Result.{IfOk-weaker}
use Rattle.guardian_objects.proofs.outcomes.next_holder.Goals as goal

pub returns-clause-next : goal.returns-clause-next
returns-clause-next c = IfOk-weaker c.next_holder.result _ _ (λ to says g here told committed. says g here told) c.next_holder.ensures
