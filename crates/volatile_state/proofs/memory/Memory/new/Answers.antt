use Rattle.std.proofs.Common.{[], subst}
use Rattle.run_model.specs.Openings.{opening_in}
use Rattle.guardian_objects.specs.Objects.{AreObjects}
use Rattle.volatile_state.proofs.Sound.{nothing_sound}
use Rattle.volatile_state.proofs.memory.Memory.new.Goals as goal

pub invariant_of-result : goal.invariant_of-result
invariant_of-result c = (
  _,
  nothing_sound c.args.opening.value c.args.number _ _ _ _ _ c.requires (c.new-3.ensures.told c.args.number _) c.new-3.ensures.crashes
      c.new-4.ensures.lists c.new-4.ensures.own (c.new-5.ensures _)
      (subst (λ o. AreObjects (opening_in o) [] c.in_ok-objects.objects) c.deref.ensures c.in_ok-objects.ensures.objects) c.in_ok-objects.ensures.guardian,
)

pub returns : goal.returns
returns c =
    nothing_sound c.args.opening.value c.args.number _ _ _ _ _ c.requires (c.new-3.ensures.told c.args.number _) c.new-3.ensures.crashes
    c.new-4.ensures.lists c.new-4.ensures.own (c.new-5.ensures _)
    (subst (λ o. AreObjects (opening_in o) [] c.in_ok-objects.objects) c.deref.ensures c.in_ok-objects.ensures.objects) c.in_ok-objects.ensures.guardian
