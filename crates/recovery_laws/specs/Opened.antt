-- A run that goes on from what all stores have settled.
use Rattle.std.specs.Prelude.{ℕ, ◌≡◌, ◌++◌, IsTrue, IsFalse, List, [], ◌∷◌}
use Rattle.action_names.specs.Names.{Name, is_top}
use Rattle.atomic_types.specs.Parts.{laid_where}
use Rattle.run_model.specs.declared.history.Event.{Event}
use Rattle.run_model.specs.declared.step.ObjectId.{ObjectId}
use Rattle.run_model.specs.Actions.{is_begun}
use Rattle.run_model.specs.Keeping.{Performed}
use Rattle.run_model.specs.Openings.{Opening, first_content, set_up}
use Rattle.run_model.specs.Places.{replies_given, visible_by_place}
use Rattle.run_model.specs.Replay.{replayed, store_after}
use Rattle.run_model.specs.Runs.{IsRun}
use Rattle.run_model.specs.StableContent.{is_stably_decided, stable_count, stable_next_top}
use Rattle.run_model.specs.Visibility.{has_prepared, is_orphan}
use Rattle.recovery_laws.specs.Numbers.{IsGuardian, IsNumbered, next_top_of_all}
use Rattle.recovery_laws.specs.Settled.{settled_base}

-- The next run begins with what was settled after past, its stores know no other decisions, and its top actions have
-- numbers from the first on that no store knows.
pub record GoesOnFrom (opening : Opening) (past : List Event) (next : Opening) : Type 0 where
  pub setup : next.setup ≡ opening.setup
  pub contents : (x : ObjectId) → IsGuardian opening x.guardian
      → laid_where ((next.stores x.guardian).base x.number) (set_up opening.setup x)
      ≡ laid_where (settled_base opening x.guardian x.number past) (set_up opening.setup x)
  pub decided : (g n : ℕ) → IsGuardian opening g → IsTrue ((next.stores g).decided (n ∷ []))
      → IsTrue (is_stably_decided opening g (n ∷ []) past)
  pub next_top : (g : ℕ) → IsGuardian opening g
      → (next.stores g).next_top ≡ stable_next_top opening g past
  pub first_top : next.first_top ≡ next_top_of_all opening past

-- what all stores together open with: each has settled its records, and has counted as before
abbrev pub opened_again : Opening → List Event → Opening
opened_again opening past = record {
  setup = opening.setup;
  stores = λ g. record {
    base = λ n. settled_base opening g n past;
    decided = λ t. is_stably_decided opening g t past;
    count = stable_count opening g past;
    next_top = stable_next_top opening g past;
  };
  first_top = next_top_of_all opening past;
}

-- which is a run that so goes on
abbrev pub OpenedAgainGoesOn : Type 0
OpenedAgainGoesOn = (opening : Opening) (past : List Event)
    → GoesOnFrom opening past (opened_again opening past)

-- What has come to rest stays so: where nothing happened since, there is nothing to settle.
abbrev pub SettlesOnce : Type 0
SettlesOnce = (next : Opening) (g n : ℕ) → settled_base next g n [] ≡ (next.stores g).base n

-- What a new top action would have seen stands there.
abbrev pub OpensWithWhatWasSeen : Type 0
OpensWithWhatWasSeen = (opening next : Opening) (past : List Event) (x : ObjectId) (t : Name)
    → IsNumbered opening → IsRun opening past → GoesOnFrom opening past next
    → IsGuardian opening x.guardian → IsTrue (is_top t) → IsFalse (is_begun t past)
    → first_content next x ≡ store_after (first_content opening) (visible_by_place t past) x

-- Its numbers are right again, so that it may stop and go on itself.
abbrev pub StaysNumbered : Type 0
StaysNumbered = (opening next : Opening) (past : List Event) → IsNumbered opening
    → IsRun opening past → GoesOnFrom opening past next → IsNumbered next

-- No top action that some guardian had prepared begins again.
abbrev pub PreparedNeverAgain : Type 0
PreparedNeverAgain = (opening next : Opening) (past later : List Event) (g : ℕ) (t : Name)
    → IsRun opening past → IsRun next later
    → GoesOnFrom opening past next → IsTrue (has_prepared g t past) → IsFalse (is_begun t later)

-- a run that stopped, with a new top action at its end that would have seen what was left
pub record Life : Type 0 where
  pub opening : Opening
  pub past : List Event
  pub last : Name

-- Runs that stopped, the newest first, each of which goes on from the one before, and the opening that goes on from
-- the newest. The first of all openings is numbered.
abbrev pub AreLives : List Life → Opening → Type 0
AreLives [] next = IsNumbered next
AreLives (l ∷ older) next =
    GoesOnFrom l.opening l.past next × IsRun l.opening l.past × IsTrue (is_top l.last)
    × IsFalse (is_begun l.last l.past) × AreLives older l.opening

-- the first of all openings
abbrev pub first_opening : List Life → Opening → Opening
first_opening [] next = next
first_opening (l ∷ older) next = first_opening older l.opening

-- what the new top actions would have seen, the oldest run first, of each run in order of place
abbrev pub seen_through : List Life → List Performed
seen_through [] = []
seen_through (l ∷ older) = seen_through older ++ visible_by_place l.last l.past

-- However often the system stopped, all its runs are serial together: what was left to see of each that stopped, and
-- then what an action that is no orphan sees in the present one, replayed on one plain store, give exactly the
-- replies that were given.
abbrev pub SerialThroughStops : Type 0
SerialThroughStops = (lives : List Life) (next : Opening) (later : List Event) (a : Name)
    → AreLives lives next → IsRun next later → IsFalse (is_orphan a later)
    → replayed (first_content (first_opening lives next))
    (seen_through lives ++ visible_by_place a later)
    ≡ replies_given (seen_through lives ++ visible_by_place a later)

-- And the present one began with what they leave.
abbrev pub ContentsThroughStops : Type 0
ContentsThroughStops = (lives : List Life) (next : Opening) (x : ObjectId)
    → AreLives lives next → IsGuardian next x.guardian → first_content next x
    ≡ store_after (first_content (first_opening lives next)) (seen_through lives) x
