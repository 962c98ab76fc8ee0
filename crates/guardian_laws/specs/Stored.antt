-- When a store holds what a guardian's own history says, and which call of the store an event asks for.
use Rattle.std.specs.Prelude.{◌≡◌, ℕ, Bool, false, ◌&&◌, ◌==◌, List, [], ◌∷◌, option_map, is_some, if◌then◌else◌, IsTrue}
use Rattle.std.specs.FinMap as map
use Rattle.std.specs.FinSet as set
use Rattle.action_names.specs.Names.{Name, is_top, last_of}
use Rattle.run_model.specs.declared.step.Step.{Step}
use Rattle.run_model.specs.declared.step.Step.TheVariants.{Decide, Prepare, Recover, Tell}
use Rattle.run_model.specs.LocalReadings.{LocalEvent, brings, decided_here, events_here, or_zero, prepared_here, says_committed, stable_base_here, standing_here}
use Rattle.run_model.specs.Openings.{Opening}
use Rattle.run_model.specs.StableContent.{Prepared, parts_by, stable_count, stable_next_top}
use Rattle.run_model.specs.Visibility.{votes_yes}
use Rattle.stable_store.specs.Stored.{Record, Stored, after_bump, after_decide, after_discard, after_install, after_prepare}

-- a record as stores keep it
abbrev pub record_of : Prepared → Record
record_of p = record { home = p.home; parts = p.parts }

-- and what a record says of its top action
abbrev pub prepared_of : Record → Prepared
prepared_of r = record { home = r.home; parts = r.parts }

-- The store of g holds what g's own history says: of each object what is installed, of each top action its record,
-- who was decided, how many recoveries were counted, and the number after the greatest on which g voted yes. Only top
-- actions have records.
pub record AreStored (opening : Opening) (g : ℕ) (here : List LocalEvent)
    (s : Stored) : Type 0 where
  pub base : (n : ℕ) → map.get s.base n ≡ stable_base_here opening g n here
  pub prepared : (n : ℕ)
      → map.get s.prepared n ≡ option_map record_of (prepared_here opening g (n ∷ []) here)
  pub decided : (n : ℕ) → set.contains s.decided n ≡ decided_here opening g (n ∷ []) here
  pub count : s.count ≡ stable_count opening g (events_here here)
  pub next_top : s.next_top ≡ stable_next_top opening g (events_here here)
  pub tops : (t : Name) → IsTrue (is_some (prepared_here opening g t here)) → IsTrue (is_top t)

-- the top action has a record
abbrev pub has_record : Stored → Name → Bool
has_record s t = is_top t && is_some (map.get s.prepared (last_of t))

-- the event asks for a call of the store of g: a yes vote, a telling of a top action that has a record, a decision, a
-- recovery
abbrev pub asks_store : ℕ → LocalEvent → Stored → Bool
asks_store g c s = of c.event.step
  where
    of : Step → Bool
    of (Prepare h t) = votes_yes c.event.step c.event.answer g t
    of (Tell h a) = (h == g) && has_record s a
    of (Decide t) = is_top t
    of (Recover h) = h == g
    of _ = false

-- What a store holds after the one call that an event asks of it, if it asks for one: a yes vote prepares what the
-- top action holds then, a telling of a prepared top action installs or discards its record, a decision is kept, a
-- recovery counted.
abbrev pub after_event : Opening → ℕ → LocalEvent → List LocalEvent → Stored → Stored
after_event opening g c here s = of c.event.step
  where
    of : Step → Stored
    of (Prepare h t) =
        if votes_yes c.event.step c.event.answer g t
        then after_prepare (last_of t) (or_zero c.carried.sender)
        (parts_by opening g (λ x. standing_here (c ∷ here) x) t) s
        else s
    of (Tell h a) =
        if (h == g) && has_record s a
        then (if says_committed (brings c a) then after_install (last_of a) s
        else after_discard (last_of a) s)
        else s
    of (Decide t) = if is_top t then after_decide (last_of t) s else s
    of (Recover h) = if h == g then after_bump s else s
    of _ = s
