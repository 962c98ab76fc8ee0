-- Outcomes as a guardian has them.
use Rattle.std.specs.Prelude.{Bool, List, map}
use Rattle.std.specs.List.Sorted.{IsStrictlySortedBy}
use Rattle.action_names.specs.Names.{Name, name_cmp}

-- they rise by name, so that each action has one
abbrev pub OutcomesRise : List (Name × Bool) → Type 0
OutcomesRise outcomes = IsStrictlySortedBy name_cmp (map (λ x. x.0) outcomes)
