use Rattle.std.proofs.Common.{Some, [], ap, arith, length, refl, subst, sym, suc, true, ◌-◌, ◌<◌, ◌∙◌, ◌∷◌, ◌≡◌, ◌≤◌}
use Rattle.std.specs.Option.{IfSome, option_copied}
use Rattle.atomic_object.specs.Kept.{has_room}
use Rattle.guardian_objects.specs.Turns.{IsRoomier}
use Rattle.guardian_objects.proofs.Making.{keeps_room, room_there}
use Rattle.guardian_objects.proofs.Places.{by_view, changed_one, object_read, written_there}
use Rattle.guardian_objects.proofs.Room.{roomier_objects, roomier_same}
use Rattle.guardian_objects.proofs.objects.Objects.make_room_at.Goals as goal

pub index_mut-requires : goal.index_mut-requires
index_mut-requires c =
    let high : c.args.number ≤ length c.self.inside.objects.items = subst (λ o. c.args.number ≤ length o.objects) (sym c.self.view_is) c.requires.1 in
    omega (arith, c.requires.0, high, c.self.inside.objects.ok.0)

pub returns-in_default-clause-roomier : goal.returns-in_default-clause-roomier
returns-in_default-clause-roomier c = roomier_same c.args.self.now

pub returns-in_default-clause-copied : goal.returns-in_default-clause-copied
returns-in_default-clause-copied c = sym (ap (λ o. option_copied o) c.in_default.is)

pub returns-in_default-clause-room : goal.returns-in_default-clause-room
returns-in_default-clause-room c = λ k there. subst (λ o. IfSome (option_copied o) (λ h. has_room k h ≡ true)) (sym c.in_default.is) tt

pub returns-in_err-make_room-clause-roomier : goal.returns-in_err-make_room-clause-roomier
returns-in_err-make_room-clause-roomier c =
    let os = c.self.inside.objects.items in
    let n = c.args.number in
    let high : n ≤ length os = subst (λ o. n ≤ length o.objects) (sym c.self.view_is) c.requires.1 in
    let number : n ≡ suc (n - 1) = omega (arith, c.requires.0) in
    let lt : n - 1 < length os = omega (arith, c.requires.0, high) in
    by_view (λ o m. IsRoomier o m) _ _ _ c.self.view_is
    (roomier_objects _ _ (n ∷ []) refl
    (changed_one _ os n (n - 1) c.index_mut.result.now c.make_room.new.self number lt (object_read os n (n - 1) c.index_mut.result.now number lt c.index_mut.ensures.value)
    (c.make_room.ensures.same, c.in_err-make_room.ensures.err)) refl)

pub returns-in_err-copy-clause-roomier : goal.returns-in_err-copy-clause-roomier
returns-in_err-copy-clause-roomier c =
    let os = c.self.inside.objects.items in
    let n = c.args.number in
    let high : n ≤ length os = subst (λ o. n ≤ length o.objects) (sym c.self.view_is) c.requires.1 in
    let number : n ≡ suc (n - 1) = omega (arith, c.requires.0) in
    let lt : n - 1 < length os = omega (arith, c.requires.0, high) in
    by_view (λ o m. IsRoomier o m) _ _ _ c.self.view_is
    (roomier_objects _ _ (n ∷ []) refl
    (changed_one _ os n (n - 1) c.index_mut.result.now c.make_room.new.self number lt (object_read os n (n - 1) c.index_mut.result.now number lt c.index_mut.ensures.value)
    (c.make_room.ensures.same, keeps_room c.index_mut.result.now c.make_room.new.self c.in-Some.next.now c.in_ok-make_room.ensures.room)) refl)

pub returns-clause-roomier : goal.returns-clause-roomier
returns-clause-roomier c =
    let os = c.self.inside.objects.items in
    let n = c.args.number in
    let high : n ≤ length os = subst (λ o. n ≤ length o.objects) (sym c.self.view_is) c.requires.1 in
    let number : n ≡ suc (n - 1) = omega (arith, c.requires.0) in
    let lt : n - 1 < length os = omega (arith, c.requires.0, high) in
    by_view (λ o m. IsRoomier o m) _ _ _ c.self.view_is
    (roomier_objects _ _ (n ∷ []) refl
    (changed_one _ os n (n - 1) c.index_mut.result.now c.make_room.new.self number lt (object_read os n (n - 1) c.index_mut.result.now number lt c.index_mut.ensures.value)
    (c.make_room.ensures.same, keeps_room c.index_mut.result.now c.make_room.new.self c.in-Some.next.now c.in_ok-make_room.ensures.room)) refl)

pub returns-clause-copied : goal.returns-clause-copied
returns-clause-copied c = ap (λ a. Some a) c.in_ok-copy.ensures.ok.1 ∙ sym (ap (λ o. option_copied o) c.in-Some.is)

pub returns-clause-room : goal.returns-clause-room
returns-clause-room c =
    let os = c.self.inside.objects.items in
    let n = c.args.number in
    let high : n ≤ length os = subst (λ o. n ≤ length o.objects) (sym c.self.view_is) c.requires.1 in
    let number : n ≡ suc (n - 1) = omega (arith, c.requires.0) in
    let lt : n - 1 < length os = omega (arith, c.requires.0, high) in
    λ k there. subst (λ o. IfSome (option_copied o) (λ h. has_room k h ≡ true)) (sym c.in-Some.is)
    (room_there _ n c.make_room.new.self c.in-Some.next.now c.index_mut.result.now (written_there os n (n - 1) c.make_room.new.self number lt) c.in_ok-make_room.ensures.room k there)
