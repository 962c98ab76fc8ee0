use Rattle.std.proofs.Common.{Some, ap, arith, false, length, subst, sym, suc, true, ◌-◌, ◌<◌, ◌∙◌, ◌≡◌, [], ◌∷◌}
use Rattle.atomic_types.specs.Objects.{knows}
use Rattle.atomic_types.specs.Operations.{class_of}
use Rattle.object_model.specs.Locks.{must_wait}
use Rattle.atomic_object.specs.Kept.{seen}
use Rattle.atomic_object.specs.Ways.{IsShown}
use Rattle.std.proofs.lemmas.Result.{on_err_weaker, on_ok_weaker}
use Rattle.guardian_objects.specs.Objects.{object_at}
use Rattle.guardian_objects.specs.Operations.{IsGrantedBy, StaysHeld}
use Rattle.guardian_objects.specs.Turns.{AreChanged}
use Rattle.guardian_objects.proofs.Holding.{own_name}
use Rattle.guardian_objects.proofs.Places.{by_view, changed_one, element_is, object_read, object_within}
use Rattle.guardian_objects.proofs.objects.Objects.grant_at.Goals as goal

pub index_mut-requires : goal.index_mut-requires
index_mut-requires c =
    let os = c.self.inside.objects in
    let there : object_at os.items c.args.number ≡ Some c.requires.0 = ap (λ o. object_at o.objects c.args.number) c.self.view_is ∙ c.requires.1 in
    let w = object_within os.items c.args.number c.requires.0 there in
    omega (arith, w.0, w.1, os.ok.0)

pub grant-requires-clause-named : goal.grant-requires-clause-named
grant-requires-clause-named c = own_name c.args.action.now c.depth-depth.ensures.named

pub grant-requires-clause-shown : goal.grant-requires-clause-shown
grant-requires-clause-shown c =
    let os = c.self.inside.objects.items in
    let there : object_at os c.args.number ≡ Some c.requires.0 = ap (λ o. object_at o.objects c.args.number) c.self.view_is ∙ c.requires.1 in
    let w = object_within os c.args.number c.requires.0 there in
    let number : c.args.number ≡ suc (c.args.number - 1) = omega (arith, w.0) in
    subst (λ z. IsShown (seen z)) (sym (element_is os c.args.number (c.args.number - 1) c.requires.0 c.index_mut.result.now there number c.index_mut.ensures.value)) c.requires.2

pub grant-requires-clause-known : goal.grant-requires-clause-known
grant-requires-clause-known c =
    let os = c.self.inside.objects.items in
    let there : object_at os c.args.number ≡ Some c.requires.0 = ap (λ o. object_at o.objects c.args.number) c.self.view_is ∙ c.requires.1 in
    let w = object_within os c.args.number c.requires.0 there in
    let number : c.args.number ≡ suc (c.args.number - 1) = omega (arith, w.0) in
    subst (λ z. knows (seen z).stack.base c.args.op.now ≡ true)
    (sym (element_is os c.args.number (c.args.number - 1) c.requires.0 c.index_mut.result.now there number c.index_mut.ensures.value)) c.requires.3

pub grant-requires-clause-free : goal.grant-requires-clause-free
grant-requires-clause-free c =
    let os = c.self.inside.objects.items in
    let there : object_at os c.args.number ≡ Some c.requires.0 = ap (λ o. object_at o.objects c.args.number) c.self.view_is ∙ c.requires.1 in
    let w = object_within os c.args.number c.requires.0 there in
    let number : c.args.number ≡ suc (c.args.number - 1) = omega (arith, w.0) in
    subst (λ z. must_wait (seen z).locks c.args.action.now (class_of c.args.op.now) ≡ false)
    (sym (element_is os c.args.number (c.args.number - 1) c.requires.0 c.index_mut.result.now there number c.index_mut.ensures.value)) c.requires.4

pub returns-clause-named : goal.returns-clause-named
returns-clause-named c = own_name c.args.action.now c.depth-depth.ensures.named

pub returns-clause-granted : goal.returns-clause-granted
returns-clause-granted c =
    let os = c.self.inside.objects.items in
    let there : object_at os c.args.number ≡ Some c.requires.0 = ap (λ o. object_at o.objects c.args.number) c.self.view_is ∙ c.requires.1 in
    let w = object_within os c.args.number c.requires.0 there in
    let number : c.args.number ≡ suc (c.args.number - 1) = omega (arith, w.0) in
    let lt : c.args.number - 1 < length os = omega (arith, w.0, w.1) in
    let read = object_read os c.args.number (c.args.number - 1) c.index_mut.result.now number lt c.index_mut.ensures.value in
    on_ok_weaker c.grant.result
    (λ operates r.
    by_view (λ o l. AreChanged (IsGrantedBy c.args.action.now c.args.op.now r) (c.args.number ∷ []) o.objects l) _ _ _ c.self.view_is
    (changed_one (IsGrantedBy c.args.action.now c.args.op.now r) os c.args.number (c.args.number - 1) c.index_mut.result.now c.grant.new.self number lt read (operates r)))
    c.grant.ensures.operates

pub returns-clause-err : goal.returns-clause-err
returns-clause-err c =
    let os = c.self.inside.objects.items in
    let there : object_at os c.args.number ≡ Some c.requires.0 = ap (λ o. object_at o.objects c.args.number) c.self.view_is ∙ c.requires.1 in
    let w = object_within os c.args.number c.requires.0 there in
    let number : c.args.number ≡ suc (c.args.number - 1) = omega (arith, w.0) in
    let lt : c.args.number - 1 < length os = omega (arith, w.0, w.1) in
    let read = object_read os c.args.number (c.args.number - 1) c.index_mut.result.now number lt c.index_mut.ensures.value in
    on_err_weaker c.grant.result
    (λ same.
    by_view (λ o l. AreChanged StaysHeld (c.args.number ∷ []) o.objects l) _ _ _ c.self.view_is
    (changed_one StaysHeld os c.args.number (c.args.number - 1) c.index_mut.result.now c.grant.new.self number lt read same))
    c.grant.ensures.err
