use Rattle.std.proofs.Common.{Some, ap, arith, subst, sym, suc, ◌-◌, ◌∙◌, ◌≡◌, [], ◌∷◌}
use Rattle.atomic_object.specs.Kept.{HasRoomFor, seen}
use Rattle.atomic_object.specs.Ways.{HandsTo}
use Rattle.guardian_objects.specs.Objects.{object_at}
use Rattle.guardian_objects.specs.Turns.{AreChanged, Commits}
use Rattle.guardian_objects.proofs.Places.{by_view, changed_one, element_is, object_within}
use Rattle.guardian_objects.proofs.objects.Objects.hand_on_at.Goals as goal

pub index_mut-requires : goal.index_mut-requires
index_mut-requires c =
    let os = c.self.inside.objects in
    let there : object_at os.items c.args.number ≡ Some c.requires.there.0 = ap (λ o. object_at o.objects c.args.number) c.self.view_is ∙ c.requires.there.1 in
    let w = object_within os.items c.args.number c.requires.there.0 there in
    omega (arith, w.0, w.1, os.ok.0)

pub told_commit-requires-clause-shown : goal.told_commit-requires-clause-shown
told_commit-requires-clause-shown c =
    let os = c.self.inside.objects.items in
    let there : object_at os c.args.number ≡ Some c.requires.there.0 = ap (λ o. object_at o.objects c.args.number) c.self.view_is ∙ c.requires.there.1 in
    let w = object_within os c.args.number c.requires.there.0 there in
    let number : c.args.number ≡ suc (c.args.number - 1) = omega (arith, w.0) in
    subst (λ z. HandsTo (seen z) c.args.action.now c.args.to) (sym (element_is os c.args.number (c.args.number - 1) c.requires.there.0 c.index_mut.result.now there number c.index_mut.ensures.value))
    c.requires.there.2

pub told_commit-requires-clause-room : goal.told_commit-requires-clause-room
told_commit-requires-clause-room c =
    let os = c.self.inside.objects.items in
    let there : object_at os c.args.number ≡ Some c.requires.there.0 = ap (λ o. object_at o.objects c.args.number) c.self.view_is ∙ c.requires.there.1 in
    let w = object_within os c.args.number c.requires.there.0 there in
    let number : c.args.number ≡ suc (c.args.number - 1) = omega (arith, w.0) in
    subst (λ z. HasRoomFor z c.args.to) (sym (element_is os c.args.number (c.args.number - 1) c.requires.there.0 c.index_mut.result.now there number c.index_mut.ensures.value))
    c.requires.there.3

pub returns-clause-objects : goal.returns-clause-objects
returns-clause-objects c =
    let os = c.self.inside.objects.items in
    let there : object_at os c.args.number ≡ Some c.requires.there.0 = ap (λ o. object_at o.objects c.args.number) c.self.view_is ∙ c.requires.there.1 in
    let w = object_within os c.args.number c.requires.there.0 there in
    let number : c.args.number ≡ suc (c.args.number - 1) = omega (arith, w.0) in
    let is = element_is os c.args.number (c.args.number - 1) c.requires.there.0 c.index_mut.result.now there number c.index_mut.ensures.value in
    by_view (λ o l. AreChanged (Commits c.args.action.now c.args.to) (c.args.number ∷ []) o.objects l) _ _ _ c.self.view_is
    (changed_one (Commits c.args.action.now c.args.to) os c.args.number (c.args.number - 1) c.index_mut.result.now c.told_commit.new.self number (omega (arith, w.0, w.1))
    (there ∙ ap (λ z. Some z) (sym is)) (c.told_commit.ensures.shows, c.told_commit.ensures.room))
