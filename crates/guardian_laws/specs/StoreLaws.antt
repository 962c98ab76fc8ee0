-- What events make of a store.
use Rattle.std.specs.Prelude.{◌≡◌, ◌≤◌, ◌<◌, ℕ, List, [], ◌∷◌}
use Rattle.std.specs.FinMap as map
use Rattle.std.specs.FinSet as set
use Rattle.std.specs.List.{AllByRecursion}
use Rattle.run_model.specs.LocalReadings.{LocalEvent}
use Rattle.run_model.specs.Openings.{Opening, Setup}
use Rattle.run_model.specs.Reopening.{life_before}
use Rattle.stable_store.specs.Stored.{Stored}
use Rattle.guardian_laws.specs.Outcomes.{AgreesOnVotes}
use Rattle.local_laws.specs.Reopened.{AreRecords}
use Rattle.guardian_laws.specs.Reopened.{IsOpenedAlone, records_in}
use Rattle.guardian_laws.specs.Stored.{AreStored, after_event}

-- A store with the content of the opening, in which nothing is prepared, holds what the empty history says.
abbrev pub NothingIsStored : Type 0
NothingIsStored = (opening : Opening) (g : ℕ) (s : Stored)
    → ((n : ℕ) → map.get s.base n ≡ (opening.stores g).base n) → s.prepared ≡ map.empty
    → ((n : ℕ) → set.contains s.decided n ≡ (opening.stores g).decided (n ∷ []))
    → s.count ≡ (opening.stores g).count
    → s.next_top ≡ (opening.stores g).next_top → AreStored opening g [] s

-- After the call that an event asks for, the store holds what the history with that event in front says.
abbrev pub StoreFollows : Type 0
StoreFollows = (opening : Opening) (g : ℕ) (c : LocalEvent) (here : List LocalEvent) (s : Stored)
    → AreStored opening g here s
    → AgreesOnVotes g c → AreStored opening g (c ∷ here) (after_event opening g c here s)

-- A store whose records may be those of a guardian, with numbers below the next, holds what the time before says of
-- which it tells.
abbrev pub LifeIsStored : Type 0
LifeIsStored = (setup : Setup) (g : ℕ) (s : Stored) (opening : Opening) → 1 ≤ g
    → IsOpenedAlone setup g s opening → AreRecords setup g (records_in s)
    → AllByRecursion (λ e. e.0 < s.next_top) (map.entries s.prepared)
    → AreStored opening g (life_before g (opening.stores g) (records_in s)) s
