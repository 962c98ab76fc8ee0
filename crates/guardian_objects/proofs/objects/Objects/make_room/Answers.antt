use Rattle.std.proofs.Common.{Option, [], ap, arith, get_or, length, refl, subst, sym, take, ◌&&◌, ◌++◌, ◌<◌, ◌∙◌, ◌∷◌, ◌≡◌, ℕ}
use Rattle.std.specs.List.{AllByRecursion}
use Rattle.std.specs.Option.{option_copied}
use Rattle.std.proofs.lemmas.List.{map-append, take_all, take_more}
use Rattle.action_names.specs.Names.{Name}
use Rattle.guardian_objects.specs.Turns.{HasRoomOf}
use Rattle.guardian_objects.proofs.Committing.{numbers_of}
use Rattle.guardian_objects.proofs.Making.{number_within, room_made}
use Rattle.guardian_objects.proofs.SoFar.{none_planned}
use Rattle.guardian_objects.proofs.Room.{each_last, each_weaker, roomier_index, roomier_more, roomier_of, roomier_same}
use Rattle.guardian_objects.proofs.objects.Objects.make_room.Goals as goal

pub loop-number-init : goal.loop-number-init
loop-number-init c = record {
  roomier = c.make_index_room.ensures.roomier;
  index = c.in_ok-make_index_room.ensures.room;
  numbers = ap (λ l. numbers_of l) c.emptied-at.ensures;
  ready = none_planned _ c.emptied-at.result.items c.emptied-at.ensures;
}

pub make_room_at-requires : goal.make_room_at-requires
make_room_at-requires c =
    number_within (c.args.alone && c.args.committed) c.args.self.now c.loop-number.self c.args.action.now c.concerned.new.numbers.items c.requires.shown c.loop-number.invariant.roomier
    c.in_ok-concerned.ensures.has
    c.loop-number.number-index _ (omega (arith, c.loop-number-test.true, ap length c.deref-number-items.ensures.value))
    (ap (λ l. get_or l c.loop-number.number-index 0) c.deref-number-items.ensures.value)

pub returns-in_err-concerned-clause-roomier : goal.returns-in_err-concerned-clause-roomier
returns-in_err-concerned-clause-roomier c = roomier_same c.args.self.now

pub returns-in_err-make_index_room-clause-roomier : goal.returns-in_err-make_index_room-clause-roomier
returns-in_err-make_index_room-clause-roomier c = c.make_index_room.ensures.roomier

pub returns-in_err-make_room_at-clause-roomier : goal.returns-in_err-make_room_at-clause-roomier
returns-in_err-make_room_at-clause-roomier c =
    roomier_more c.args.self.now c.loop-number.self c.make_room_at.new.self c.loop-number.invariant.roomier c.make_room_at.ensures.roomier

pub returns-in_err-push-clause-roomier : goal.returns-in_err-push-clause-roomier
returns-in_err-push-clause-roomier c =
    roomier_more c.args.self.now c.loop-number.self c.make_room_at.new.self c.loop-number.invariant.roomier c.make_room_at.ensures.roomier

pub returns-clause-roomier : goal.returns-clause-roomier
returns-clause-roomier c = c.loop-number.invariant.roomier

pub returns-clause-room : goal.returns-clause-room
returns-clause-room c =
    let numbers = c.concerned.new.numbers.items in
    let all : take c.loop-number.number-index c.deref-number-items.result.now ≡ numbers =
    take_all c.loop-number.number-index c.deref-number-items.result.now (omega (arith, c.loop-number-test.false)) ∙ c.deref-number-items.ensures.value in
    room_made (c.args.alone && c.args.committed) c.args.self.now c.loop-number.self c.args.action.now numbers c.requires.shown c.loop-number.invariant.roomier
    c.in_ok-concerned.ensures.has
    c.args.alone c.args.committed (option_copied c.args.to) c.loop-number.at.items refl c.in_ok-concerned.ensures.rising (c.loop-number.invariant.numbers ∙ all) c.loop-number.invariant.index c.loop-number.invariant.ready

pub loop-number-preserved : goal.loop-number-preserved
loop-number-preserved c =
    let to = option_copied c.args.to in
    let numbers = c.deref-number-items.result.now in
    let i = c.loop-number.number-index in
    let x = get_or numbers i 0 in
    let next = c.in_ok-make_room_at.field-0 in
    let old = c.loop-number.self in
    let new = c.make_room_at.new.self in
    let at = c.loop-number.at.items in
    let lt : i < length numbers = omega (arith, c.loop-number-test.true) in
    record {
      roomier = roomier_more c.args.self.now old new c.loop-number.invariant.roomier c.make_room_at.ensures.roomier;
      index = roomier_index c.args.alone old new c.args.action.now to c.make_room_at.ensures.roomier c.make_room_at.ensures.index c.loop-number.invariant.index;
      numbers = ap (λ l. numbers_of l) c.in_ok-push.ensures.items
          ∙ map-append (λ (y : ℕ × Option Name). y.0) at ((x, next) ∷ [])
          ∙ ap (λ l. l ++ x ∷ []) c.loop-number.invariant.numbers
          ∙ sym (take_more numbers i 0 lt);
      ready = subst (λ l. AllByRecursion (λ y. (y.1 ≡ to) × HasRoomOf new to y.0) l) (sym c.in_ok-push.ensures.items)
          (each_last (λ (y : ℕ × Option Name). (y.1 ≡ to) × HasRoomOf new to y.0) at (x, next)
          (each_weaker (λ (y : ℕ × Option Name). (y.1 ≡ to) × HasRoomOf old to y.0) (λ y. (y.1 ≡ to) × HasRoomOf new to y.0) at
          (λ y h. (h.0, roomier_of old new to y.0 c.make_room_at.ensures.roomier h.1)) c.loop-number.invariant.ready)
          (c.in_ok-make_room_at.ensures.copied, c.in_ok-make_room_at.ensures.room));
    }
