-- The copies of events in histories, and what makes histories fail at the stamp of some copies.
use Rattle.std.specs.Prelude.{ℕ, suc, Bool, not, ◌&&◌, ◌||◌, ◌==◌, nat_le, ◌≡◌, ◌≤◌, List, [], ◌∷◌, ◌++◌, filter}
use Rattle.std.specs.List.{list_any}
use Rattle.run_model.specs.declared.history.Event.{Event}
use Rattle.run_model.specs.Answers.{answer_of}
use Rattle.run_model.specs.Gathering.{Histories, differ, same_answer, same_event}
use Rattle.run_model.specs.Lists.{up_to}
use Rattle.run_model.specs.LocalHistories.{Stamped, names_guardian, takes_registry}
use Rattle.run_model.specs.Openings.{Opening}
use Rattle.run_model.specs.Runs.{is_accepted}

-- An event as a history has it: 0 is the registry's history, another number that of the guardian of this number. It
-- is late if an event before it in its history has no smaller stamp.
pub record Copied : Type 0 where
  pub stamp : ℕ
  pub history : ℕ
  pub is_late : Bool
  pub event : Event

-- the copies in one history, behind events of these stamps
abbrev pub copies_from : ℕ → List ℕ → List Stamped → List Copied
copies_from history seen [] = []
copies_from history seen (c ∷ cs) =
    record { stamp = c.0; history = history; is_late = list_any (λ t. nat_le c.0 t) seen; event = c.1 }
    ∷ copies_from history (c.0 ∷ seen) cs

-- those in histories whose numbers begin with this one
abbrev pub copies_behind : ℕ → List (List Stamped) → List Copied
copies_behind history [] = []
copies_behind history (h ∷ hs) = copies_from history [] h ++ copies_behind (suc history) hs

abbrev pub copies_in : Histories → List Copied
copies_in hs = copies_behind 0 (hs.registry ∷ hs.guardians)

abbrev pub of_stamp : ℕ → List Copied → List Copied
of_stamp s copies = filter (λ c. c.stamp == s) copies

abbrev pub has_late : List Copied → Bool
has_late turn = list_any (λ c. c.is_late) turn

-- a copy is of another event
abbrev pub has_other : Event → List Copied → Bool
has_other e turn = list_any (λ c. not (same_event c.event e)) turn

-- the history of this number has a copy
abbrev pub has_copy : ℕ → List Copied → Bool
has_copy history turn = list_any (λ c. c.history == history) turn

-- the copies do not stand in exactly the histories that the event's step names, among those of guardians up to the
-- limit
abbrev pub stand_elsewhere : ℕ → Event → List Event → List Copied → Bool
stand_elsewhere limit e past turn =
    differ (has_copy 0 turn) (takes_registry e.step)
    || list_any (λ g. differ (has_copy g turn) (names_guardian e.step past g)) (up_to limit)

-- the event's step is not accepted with its answer
abbrev pub is_contradicted : Opening → Event → List Event → Bool
is_contradicted opening e past = let answer = answer_of opening e.step past in
    not (is_accepted answer && same_answer answer e.answer)

-- the copies of one stamp make histories fail at it, where these are the events of smaller stamps
abbrev pub turn_fails : Opening → ℕ → Event → List Event → List Copied → Bool
turn_fails opening limit e past turn = has_late turn
    || (has_other e turn || (stand_elsewhere limit e past turn || is_contradicted opening e past))

-- stamps do not fall, and none is smaller than this number
abbrev pub AreRisingFrom : ℕ → List Copied → Type 0
AreRisingFrom low [] = Unit {0}
AreRisingFrom low (c ∷ cs) = (low ≤ c.stamp) × AreRisingFrom c.stamp cs

-- the copies of all histories, by stamp, those of one stamp in the order of the histories
pub record AreByStamp (hs : Histories) (copies : List Copied) : Type 0 where
  pub rising : AreRisingFrom 0 copies
  pub same : (s : ℕ) → of_stamp s copies ≡ of_stamp s (copies_in hs)
