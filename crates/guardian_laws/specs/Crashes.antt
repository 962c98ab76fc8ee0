-- What a crash would leave of a guardian's objects.
use Rattle.std.specs.Prelude.{◌≡◌, ℕ, Bool, true, not, ◌&&◌, IsTrue, List, Option, Some, None, is_some}
use Rattle.std.specs.List.{AllByRecursion}
use Rattle.action_names.specs.Names.{Name}
use Rattle.atomic_types.specs.Operations.{is_read}
use Rattle.run_model.specs.declared.step.ObjectId.{ObjectId}
use Rattle.run_model.specs.Keeping.{outlives_crash}
use Rattle.run_model.specs.Openings.{Opening}
use Rattle.run_model.specs.Telling.{holder_by}
use Rattle.run_model.specs.Versions.{holder_at}
use Rattle.run_model.specs.LocalReadings.{LocalEvent, events_here, prepared_here, standing_here}

-- it belongs to the base, or to a top action that was prepared and whose outcome the store was not told yet
abbrev pub is_safe : Opening → ℕ → List LocalEvent → Option Name → Bool
is_safe opening g here None = true
is_safe opening g here (Some a) = is_some (prepared_here opening g a here)

-- A crash would leave of an object just what was written and added and is safe.
pub record LeavesSafe (opening : Opening) (here : List LocalEvent) (x : ObjectId) : Type 0 where
  pub kept : AllByRecursion (λ o. outlives_crash o (events_here here)
      ≡ (not (is_read o.operation)
      && is_safe opening x.guardian here (holder_at (standing_here here x) o)))
      (standing_here here x).kept
  pub restored : AllByRecursion
      (λ r. IsTrue (is_safe opening x.guardian here (holder_by (standing_here here x).told r.0)))
      (standing_here here x).restored
