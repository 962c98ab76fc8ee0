use Rattle.locked_run.proofs.Under.{locked_one, one_again}
use Rattle.locked_run.proofs.acting.act_registry.Goals as goal

pub step_nobody-done-requires : goal.step_nobody-done-requires
step_nobody-done-requires g c = locked_one c.registry.invariant c.look_alone-part.result c.look_alone-part.ensures.looks

pub invariant_of-registry : goal.invariant_of-registry
invariant_of-registry g c = one_again c.registry.invariant c.look_alone-part.result c.look_alone-part.ensures.looks c.look_alone-part.ensures.table

pub invariant_of-registry-2 : goal.invariant_of-registry-2
invariant_of-registry-2 g c = one_again c.registry.invariant c.look_alone-part.result c.look_alone-part.ensures.looks c.look_alone-part.ensures.table
