use Rattle.std.proofs.Common.{List, take, ℕ, ◌≡◌}
use Rattle.std.specs.List.{AllByRecursion}
use Rattle.run_model.specs.LocalReadings.{LocalEvent}
use Rattle.tellings.specs.Hearing.{AreTold}
use Rattle.guardian_objects.specs.Outcomes.{ArePlanned, HasRoomFor, is_alone, outcomes_of}
use Rattle.guardian_objects.specs.Turns.{IsRoomier}
use Rattle.guardian_objects.proofs.objects.Objects.plan.Given as goal

-- the outcomes so far are planned, and there is room for them
abbrev pub invariant-loop-action : goal.invariant-loop-action
invariant-loop-action l = record {
  roomier : IsRoomier l.fn.self l.self;
  room : AllByRecursion (HasRoomFor (is_alone l.outcomes) l.self) l.planned.tellings.items;
  outcomes : outcomes_of l.planned.tellings.items ≡ take l.action-index l.outcomes;
  planned : (g : ℕ) (here : List LocalEvent) → AreTold g here l.places l.told → ArePlanned here l.planned.tellings.items;
}
