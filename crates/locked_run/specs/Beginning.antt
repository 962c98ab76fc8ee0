-- What is under locks when a run begins.
use Rattle.std.specs.Prelude.{◌≡◌, ◌+◌, ℕ, suc, List, [], ◌∷◌, length, Some, slice_get}
use Rattle.run_model.specs.declared.history.Event.{Event}
use Rattle.run_model.specs.Openings.{Opening}
use Rattle.layer_contracts.specs.Guardians.{GuardianState}
use Rattle.world_steps.specs.Standings.{standing}
use Rattle.locked_run.specs.Parts.{InHeld}

-- how many stamps each guardian may draw
abbrev pub stamps : ℕ
stamps = 4294967296

-- a guardian to which nothing has happened, under its lock
abbrev pub held_first : {G : Type 0} → ℕ → G → InHeld G
held_first number guardian =
    record { guardian = guardian; number = number; seen = []; left = stamps }

-- such guardians, whose numbers begin with this one
abbrev pub held_from : {G : Type 0} → ℕ → List G → List (InHeld G)
held_from number [] = []
held_from number (x ∷ xs) = held_first number x ∷ held_from (suc number) xs

-- the guardians of the opening, to which nothing has happened, from the first on
abbrev pub AreFirst : {G : Type 0} → Opening → (G → GuardianState → Type 0) → List G → Type 0
AreFirst {G} opening stands guardians =
    (i : ℕ) (x : G) → slice_get guardians i ≡ Some x → stands x (standing opening [] (i + 1))

-- The registry and the guardians of the opening are under locks, and nothing has happened.
pub record AreBegun {G : Type 0} (opening : Opening)
    (registry : List Event) (held : List (InHeld G))
    : Type 0 where
  pub registry_seen : registry ≡ []
  pub guardians : List G
  pub held_is : held ≡ held_from 1 guardians
  pub count : length guardians ≡ length opening.setup
