use Rattle.std.proofs.Common.{Bor, None, Option, Some, ap, arith, false, length, refl, subst, sym, ℕ, ◌+◌, ◌∙◌, ◌≡◌, ◌≤◌}
use Rattle.std.proofs.lemmas.Result.{on_ok_weaker}
use Rattle.std.specs.Prelude.{IsTrue, MatchOption}
use Rattle.std.specs.Option.{IfSome, option_copied}
use Rattle.action_names.specs.Names.{Name}
use Rattle.guardian_index.specs.Held.{HasRoomBelow, needs_room, objects_at, room_at}
use Rattle.guardian_objects.specs.Objects.{Indexed}
use Rattle.guardian_objects.specs.Outcomes.{HasIndexRoom, HasRoomFor}
use Rattle.guardian_objects.specs.Turns.{IsRoomier}
use Rattle.guardian_objects.specs.declared.outcomes.Telling.{Telling}
use Rattle.guardian_objects.proofs.Places.{by_view}
use Rattle.guardian_objects.proofs.Room.{roomier_held, roomier_same}
use Rattle.guardian_objects.proofs.objects.Objects.make_index_room.Goals as goal

pub returns-in_default-clause-roomier : goal.returns-in_default-clause-roomier
returns-in_default-clause-roomier c = roomier_same c.args.self.now

pub returns-in_default-clause-room : goal.returns-in_default-clause-room
returns-in_default-clause-room c = subst (λ o. IfSome (option_copied o) (λ h. HasIndexRoom c.args.alone c.args.self.now c.args.action.now h)) (sym c.in_default.is) tt

pub returns-clause-roomier : goal.returns-clause-roomier
returns-clause-roomier c = by_view (λ o m. IsRoomier o m) _ _ _ c.self.view_is
    (roomier_held _ _ refl refl c.make_room_below.ensures.held c.make_room_below.ensures.others c.make_room_below.ensures.below)

pub returns-clause-room : goal.returns-clause-room
returns-clause-room c =
    let a = c.args.action.now in
    let new : Indexed = record { guardian = c.self.inside.guardian; objects = c.self.inside.objects.items; held = c.make_room_below.new.self.rows; renames = c.make_room_below.new.self.renames } in
    on_ok_weaker c.make_room_below.result (λ (room : HasRoomBelow c.make_room_below.new.self.rows c.in-Some.next.now).
    subst (λ o. IfSome (option_copied o) (λ h. HasIndexRoom c.args.alone new a h)) (sym c.in-Some.is)
    (subst (λ b. HasIndexRoom b new a c.in-Some.next.now) (sym c.if-alone.false) room)) c.make_room_below.ensures.room

pub returns-then-alone-clause-roomier : goal.returns-then-alone-clause-roomier
returns-then-alone-clause-roomier c = by_view (λ o m. IsRoomier o m) _ _ _ c.self.view_is
    (roomier_held _ _ refl refl c.make_room_for.ensures.held c.make_room_for.ensures.others c.make_room_for.ensures.below)

pub returns-then-alone-clause-room : goal.returns-then-alone-clause-room
returns-then-alone-clause-room c =
    let a = c.args.action.now in
    let next = c.in-Some.next.now in
    let before = c.self.inside.held.rows in
    let after = c.make_room_for.new.self in
    let new : Indexed = record { guardian = c.self.inside.guardian; objects = c.self.inside.objects.items; held = after.rows; renames = after.renames } in
    on_ok_weaker c.make_room_for.result (λ (room : IsTrue (needs_room after next) → length (objects_at before next) + c.args.count ≤ room_at after.rows next).
    subst (λ o. IfSome (option_copied o) (λ h. HasIndexRoom c.args.alone new a h)) (sym c.in-Some.is)
    (subst (λ b. HasIndexRoom b new a next) (sym c.if-alone.true)
    (λ needs. within (length (objects_at before next)) c.args.count _ _ _ (ap (length {A = ℕ}) (c.make_room_for.ensures.held next))
    (ap (length {A = ℕ}) (c.make_room_for.ensures.held a)
    ∙ sym (subst (λ o. IfSome (option_copied o) (λ h. c.args.count ≡ length (objects_at before a))) c.in-Some.is
    (subst (λ o. IfSome (option_copied c.args.to) (λ h. c.args.count ≡ length (objects_at o.held a))) (sym c.self.view_is) (c.requires.count c.if-alone.true)))) (room needs)))) c.make_room_for.ensures.room
  where
    within : (m n p q r : ℕ) → p ≡ m → q ≡ n → m + n ≤ r → p + q ≤ r
    within m n p q r e d fits = omega arith

pub returns-then-goes_to-clause-roomier : goal.returns-then-goes_to-clause-roomier
returns-then-goes_to-clause-roomier c = roomier_same c.args.self.now

pub returns-then-goes_to-clause-room : goal.returns-then-goes_to-clause-room
returns-then-goes_to-clause-room c =
    let a = c.args.action.now in
    let now = c.args.self.now in
    subst (λ o. IfSome (option_copied o) (λ h. HasIndexRoom c.args.alone now a h)) (sym c.in-Some.is)
    (subst (λ b. HasIndexRoom b now a c.in-Some.next.now) (sym c.if-alone.false)
    (made now c.in-Some.next.now c.args.before
    (subst (λ b. IfSome (option_copied c.args.before) (λ t. HasRoomFor b now t)) c.if-alone.false c.requires.before) (c.goes_to.ensures c.if-goes_to.true)))
  where
    made : (o : Indexed) (h : Name) (before : Option (Bor Telling)) → IfSome (option_copied before) (λ t. HasRoomFor false o t)
        → MatchOption before ⊥ (λ t. t.now.to ≡ Some h) → HasRoomBelow o.held h
    made o h None had goes = absurd goes
    made o h (Some t) had goes = subst (λ (to : Option Name). IfSome to (λ x. HasRoomBelow o.held x)) goes had.index
