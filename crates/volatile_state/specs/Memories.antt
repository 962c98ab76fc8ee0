-- What a guardian keeps in memory as contracts see it, and when all its parts are those of one history.
use Rattle.std.specs.Prelude.{◌≡◌, ◌≤◌, ℕ, IsTrue, List, is_some}
use Rattle.action_names.specs.Names.{Name, is_top}
use Rattle.run_model.specs.declared.step.ObjectId.{ObjectId}
use Rattle.run_model.specs.Actions.{crashes}
use Rattle.run_model.specs.LocalReadings.{events_here, prepared_here}
use Rattle.run_model.specs.Openings.{OpeningLists, opening_in}
use Rattle.guardian_laws.specs.Crashes.{LeavesSafe}
use Rattle.layer_contracts.specs.Guardians.{GuardianState}
use Rattle.tellings.specs.Hearing.{AreTold, crashes_of}
use Rattle.tellings.specs.declared.tellings.Tellings.{Tellings}
use Rattle.orphans.specs.Knowing.{AreLists, guardian_of}
use Rattle.orphans.specs.declared.lists.Lists.{Lists}
use Rattle.roster.specs.Rosters.{IsRoster}
use Rattle.roster.specs.Tables.{table}
use Rattle.roster.specs.declared.roster.Roster.{Roster}
use Rattle.guardian_objects.specs.Objects.{AreObjects, Indexed}

-- the opening and the guardian's number, the names that it knows, by place, and what it keeps beside them
pub record InMemory : Type 0 where
  pub opening : OpeningLists
  pub number : ℕ
  pub places : List Name
  pub told : Tellings
  pub lists : Lists
  pub roster : Roster
  pub objects : Indexed

-- the guardian's object of this number
abbrev pub own_object : GuardianState → ℕ → ObjectId
own_object g n = record { guardian = g.number; number = n }

-- The memory stands in this state: its opening and its number are those of the state, and each part is that of the
-- history. And of that history: a crash would leave of each object just what is safe, and only top actions have
-- records.
pub record IsSound (m : InMemory) (g : GuardianState) : Type 0 where
  pub opened : opening_in m.opening ≡ g.opening
  pub own : m.number ≡ g.number
  pub numbered : 1 ≤ g.number
  pub tellings : AreTold g.number g.past m.places m.told
  pub lives : crashes_of m.told ≡ crashes g.number (events_here g.past)
  pub knowledge : AreLists g.past m.lists
  pub knower : guardian_of m.lists ≡ g.number
  pub actions : IsRoster g.number g.past (table m.places m.roster)
  pub shown : AreObjects g.opening g.past m.objects
  pub owner : m.objects.guardian ≡ g.number
  pub safe : (x : ObjectId) → x.guardian ≡ g.number → LeavesSafe g.opening g.past x
  pub tops : (t : Name)
      → IsTrue (is_some (prepared_here g.opening g.number t g.past)) → IsTrue (is_top t)

-- and it stands in some state
abbrev pub IsOfSome : InMemory → Type 0
IsOfSome m = (g : GuardianState) × IsSound m g
