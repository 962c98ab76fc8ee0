use Rattle.std.proofs.Common.{take, ◌≡◌}
use Rattle.std.specs.List.{AllByRecursion}
use Rattle.std.specs.Option.{IfSome, option_copied}
use Rattle.guardian_objects.specs.Outcomes.{HasIndexRoom}
use Rattle.guardian_objects.specs.Turns.{HasRoomOf, IsRoomier}
use Rattle.guardian_objects.proofs.Committing.{numbers_of}
use Rattle.guardian_objects.proofs.objects.Objects.make_room.Given as goal

-- at the objects so far there is room, and in the index
abbrev pub invariant-loop-number : goal.invariant-loop-number
invariant-loop-number l = record {
  roomier : IsRoomier l.fn.self l.self;
  index : IfSome (option_copied l.fn.to) (λ h. HasIndexRoom l.fn.alone l.self l.fn.action h);
  numbers : numbers_of l.at.items ≡ take l.number-index l.number-items;
  ready : AllByRecursion (λ x. (x.1 ≡ option_copied l.fn.to) × HasRoomOf l.self (option_copied l.fn.to) x.0) l.at.items;
}
