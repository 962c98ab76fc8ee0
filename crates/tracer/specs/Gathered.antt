-- What is said of histories: whether a run is gathered from them.
use Rattle.std.specs.Prelude.{ℕ, Bool, not, ◌≡◌, ◌==◌, ◌&&◌, ◌||◌, nat_le, List, length, Some}
use Rattle.run_model.specs.declared.history.Event.{Event}
use Rattle.run_model.specs.Gathering.{Histories, IsGathered, least_failing}
use Rattle.run_model.specs.Openings.{Opening}
use Rattle.run_model.specs.Runs.{IsRun}
use Rattle.run_laws.specs.Serving.{IsServed}
use Rattle.tracer.specs.Copies.{Copied, has_copy}
use Rattle.tracer.specs.declared.gathering.Gathered.{Gathered}
use Rattle.tracer.specs.declared.gathering.Gathered.TheVariants.{Yes, No}

-- yes: what has happened is the gathered run, of so many events; no: the least stamp at which the histories fail
abbrev pub Says : Gathered → Opening → Histories → List Event → Type 0
Says (Yes count) opening hs past = IsGathered opening hs past × IsRun opening past
    × (count ≡ length past)
Says (No stamp) opening hs past = least_failing opening hs ≡ Some stamp

abbrev pub GatheredRunsAreServed : Type 0
GatheredRunsAreServed =
    (opening : Opening) (hs : Histories) (past : List Event) → IsGathered opening hs past
    → IsRun opening past → IsServed opening past

-- the number is that of a guardian up to the limit
abbrev pub is_guardian : ℕ → ℕ → Bool
is_guardian limit g = nat_le 1 g && nat_le g limit

abbrev pub lacks_copy : ℕ → ℕ → List Copied → Bool
lacks_copy g limit turn = is_guardian limit g && not (has_copy g turn)

-- it is none of these two
abbrev pub is_beside : ℕ → ℕ → ℕ → ℕ → Bool
is_beside one other limit g = is_guardian limit g && not ((one == g) || (other == g))
