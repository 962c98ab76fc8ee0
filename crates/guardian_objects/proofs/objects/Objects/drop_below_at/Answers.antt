use Rattle.std.proofs.Common.{Some, ap, arith, sym, suc, ◌-◌, ◌∙◌, ◌≡◌, [], ◌∷◌}
use Rattle.std.specs.Prelude.{is_some}
use Rattle.guardian_objects.specs.Objects.{object_at}
use Rattle.guardian_objects.specs.Turns.{Aborts, AreChanged}
use Rattle.guardian_objects.proofs.Places.{by_view, changed_one, element_is, object_is, object_within}
use Rattle.guardian_objects.proofs.objects.Objects.drop_below_at.Goals as goal

pub index_mut-requires : goal.index_mut-requires
index_mut-requires c =
    let os = c.self.inside.objects in
    let k = object_is os.items c.args.number (ap (λ o. is_some (object_at o.objects c.args.number)) c.self.view_is ∙ c.requires.there) in
    let w = object_within os.items c.args.number k.0 k.1 in
    omega (arith, w.0, w.1, os.ok.0)

pub returns-clause-objects : goal.returns-clause-objects
returns-clause-objects c =
    let os = c.self.inside.objects.items in
    let k = object_is os c.args.number (ap (λ o. is_some (object_at o.objects c.args.number)) c.self.view_is ∙ c.requires.there) in
    let w = object_within os c.args.number k.0 k.1 in
    let number : c.args.number ≡ suc (c.args.number - 1) = omega (arith, w.0) in
    let is = element_is os c.args.number (c.args.number - 1) k.0 c.index_mut.result.now k.1 number c.index_mut.ensures.value in
    by_view (λ o l. AreChanged (Aborts c.args.action.now) (c.args.number ∷ []) o.objects l) _ _ _ c.self.view_is
    (changed_one (Aborts c.args.action.now) os c.args.number (c.args.number - 1) c.index_mut.result.now c.told_abort.new.self number (omega (arith, w.0, w.1))
    (k.1 ∙ ap (λ z. Some z) (sym is)) (c.told_abort.ensures.shows, c.told_abort.ensures.room))
