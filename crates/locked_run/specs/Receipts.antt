-- Receipts of many events: what is known of each, and which run ends with it.
use Rattle.std.specs.Prelude.{◌≡◌, ◌==◌, ◌-◌, ◌≤◌, ℕ, Bool, List, Option, None, Some, drop, if◌then◌else◌, length, map}
use Rattle.std.specs.List.{AllByRecursion}
use Rattle.atomic_table.specs.Seated.{TableId}
use Rattle.one_run.specs.declared.piece.Piece.{Piece}
use Rattle.one_run.specs.declared.run.Part.{Part}
use Rattle.one_run.specs.Pieces.{total}
use Rattle.run_model.specs.declared.history.Event.{Event}
use Rattle.run_model.specs.Openings.{Opening}
use Rattle.run_model.specs.Runs.{IsRun}
use Rattle.locked_run.specs.Behind.{IsBehind}

-- the run as it was after its event of this number
abbrev pub run_at : ℕ → List Event → List Event
run_at n past = drop (length past - n) past

-- the run that ends with the event that a part tells of
abbrev pub run_told : Option ℕ → List Event → List Event
run_told None seen = seen
run_told (Some n) seen = run_at n seen

abbrev pub runs_of : List (Piece Event) → List (List Event)
runs_of v = map (λ x. run_told x.event x.seen) v

-- The part tells of an event of a run that it has seen, and owns it or not.
pub record Tells (opening : Opening) (owns : Bool) (x : Piece Event) : Type 0 where
  pub number : ℕ
  pub first : 1 ≤ number
  pub last : number ≤ length x.seen
  pub run : IsRun opening x.seen
  pub is : x ≡ record { place = None; left = 0; seen = x.seen; event = Some number; owns = owns }

-- Each part tells of an event of the table's run.
pub record AllTell (opening : Opening) (table : TableId) (owns : Bool) (part : Part Event)
    : Type 0 where
  pub of_table : part.token.table_id ≡ table
  pub each : AllByRecursion (Tells opening owns) part.token.me.0

-- each of these runs is a beginning of this one and ends with an event, and none stands twice
pub record StandIn (past : List Event) (runs : List (List Event)) : Type 0 where
  pub each : AllByRecursion (λ run. (1 ≤ length run) × IsBehind run past) runs
  pub once : (n : ℕ) → total (λ run. if length run == n then 1 else 0) runs ≤ 1
