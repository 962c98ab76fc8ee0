-- How an object stands after what happens to it.
use Rattle.std.specs.Prelude.{Bool, not, ◌||◌, List, [], ◌∷◌, filter}
use Rattle.std.specs.List.{list_any}
use Rattle.action_names.specs.Names.{Name, ancestors}
use Rattle.atomic_types.specs.declared.part.Part.{Part}
use Rattle.run_model.specs.Keeping.{Performed, Standing}

-- an operation more is kept
abbrev pub with_operation : Performed → Standing → Standing
with_operation o s = record { told = s.told; kept = o ∷ s.kept; restored = s.restored }

-- these actions more were told committed
abbrev pub told_too : (Name → Bool) → Standing → Standing
told_too commits s =
    record { told = λ b. commits b || s.told b; kept = s.kept; restored = s.restored }

-- what such actions and their descendants did is undone
abbrev pub undone : (Name → Bool) → Standing → Standing
undone aborts s = record {
  told = s.told;
  kept = filter (λ o. not (list_any aborts (ancestors o.action))) s.kept;
  restored = filter (λ r. not (list_any aborts (ancestors r.0))) s.restored;
}

-- a crash leaves of the operations those that pass the test, and all that was given back
abbrev pub crashed : (Performed → Bool) → Standing → Standing
crashed outlives s = record { told = s.told; kept = filter outlives s.kept; restored = s.restored }

-- an object that a store gave back: nothing is kept, and these parts are held
abbrev pub given : (Name → Bool) → List (Name × Part) → Standing
given told parts = record { told = told; kept = []; restored = parts }
