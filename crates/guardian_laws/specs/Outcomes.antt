-- What an event says of outcomes, beside what the guardian was told before.
use Rattle.std.specs.Prelude.{◌≡◌, ◌≤◌, ℕ, Bool, true, false, List, [], ◌∷◌, map, Some, IsTrue, IsFalse}
use Rattle.std.specs.List.{list_all}
use Rattle.std.specs.List.Sorted.{IsStrictlySortedBy}
use Rattle.action_names.specs.Names.{Name, is_proper_ancestor, is_top, name_cmp, same_name}
use Rattle.run_model.specs.declared.step.Step.{Step}
use Rattle.run_model.specs.declared.step.Step.TheVariants.{Op, Prepare, Tell}
use Rattle.run_model.specs.LocalReadings.{LocalEvent, brings, says_aborted, told_committed_here}
use Rattle.run_model.specs.Visibility.{votes_yes}

-- the step is an operation of an action of which the guardian was told that it committed
abbrev pub is_by_told : Step → List LocalEvent → Bool
is_by_told (Op a x wanted) here = told_committed_here a here
is_by_told _ here = false

abbrev pub are_none : List (Name × Bool) → Bool
are_none [] = true
are_none (x ∷ outcomes) = false

-- a telling brings the outcome of its action alone, a prepare those of descendants of its top action, and no other
-- event brings any
abbrev pub are_brought : Step → List (Name × Bool) → Bool
are_brought (Tell h a) outcomes = list_all (λ (x : Name × Bool). same_name x.0 a) outcomes
are_brought (Prepare h t) outcomes =
    list_all (λ (x : Name × Bool). is_proper_ancestor t x.0) outcomes
are_brought _ outcomes = are_none outcomes

-- what objects ask of an event: outcomes come with tellings and prepares, by name, each once; nothing is told aborted
-- that was told committed; and what was told committed does nothing more
pub record AgreesOnOutcomes (c : LocalEvent) (here : List LocalEvent) : Type 0 where
  pub brought : IsTrue (are_brought c.event.step c.carried.outcomes)
  pub once : IsStrictlySortedBy name_cmp (map (λ (x : Name × Bool). x.0) c.carried.outcomes)
  pub aborts : (b : Name) → IsTrue (says_aborted (brings c b))
      → IsFalse (told_committed_here b here)
  pub operation : IsFalse (is_by_told c.event.step here)

-- what the store asks of a yes vote: it is on a top action, and a guardian sent the question
pub record AgreesOnVotes (g : ℕ) (c : LocalEvent) : Type 0 where
  pub top : (t : Name) → IsTrue (votes_yes c.event.step c.event.answer g t) → IsTrue (is_top t)
  pub sender : (t : Name) → IsTrue (votes_yes c.event.step c.event.answer g t)
      → (h : ℕ) × (1 ≤ h) × (c.carried.sender ≡ Some h)
