use Rattle.std.proofs.Common.{Some, [], ap, arith, length, subst, suc, sym, ◌-◌, ◌<◌, ◌∙◌, ◌∷◌, ◌≡◌}
use Rattle.atomic_object.specs.Kept.{seen}
use Rattle.atomic_object.specs.Restored.{MayTake}
use Rattle.guardian_objects.specs.Objects.{object_at}
use Rattle.guardian_objects.specs.Restored.{IsGivenBack}
use Rattle.guardian_objects.specs.Turns.{AreChanged}
use Rattle.guardian_objects.proofs.Holding.{own_name}
use Rattle.guardian_objects.proofs.Places.{by_view, changed_one, element_is, object_read, object_within}
use Rattle.guardian_objects.proofs.objects.Objects.give_back_at.Goals as goal

pub give_back-requires-clause-named : goal.give_back-requires-clause-named
give_back-requires-clause-named c = own_name c.args.holder.now c.depth-depth.ensures.named

pub give_back-requires-clause-fits : goal.give_back-requires-clause-fits
give_back-requires-clause-fits c =
    let os = c.self.inside.objects.items in
    let there : object_at os c.args.number ≡ Some c.requires.0 = ap (λ o. object_at o.objects c.args.number) c.self.view_is ∙ c.requires.1 in
    let w = object_within os c.args.number c.requires.0 there in
    let number : c.args.number ≡ suc (c.args.number - 1) = omega (arith, w.0) in
    subst (λ k. MayTake (seen k) c.args.holder.now c.args.part)
    (sym (element_is os c.args.number (c.args.number - 1) c.requires.0 c.index_mut.result.now there number c.index_mut.ensures.value)) c.requires.2

pub returns-clause-objects : goal.returns-clause-objects
returns-clause-objects c =
    let os = c.self.inside.objects.items in
    let there : object_at os c.args.number ≡ Some c.requires.0 = ap (λ o. object_at o.objects c.args.number) c.self.view_is ∙ c.requires.1 in
    let w = object_within os c.args.number c.requires.0 there in
    let number : c.args.number ≡ suc (c.args.number - 1) = omega (arith, w.0) in
    let lt : c.args.number - 1 < length os = omega (arith, w.0, w.1) in
    let read = object_read os c.args.number (c.args.number - 1) c.index_mut.result.now number lt c.index_mut.ensures.value in
    by_view (λ o l. AreChanged (IsGivenBack c.args.holder.now c.args.part) (c.args.number ∷ []) o.objects l) _ _ _ c.self.view_is
    (changed_one (IsGivenBack c.args.holder.now c.args.part) os c.args.number (c.args.number - 1) c.index_mut.result.now c.give_back.new.self number lt read
    c.in_ok-give_back.ensures)
