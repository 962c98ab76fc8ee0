-- When a roster is that of a guardian's history.
use Rattle.std.specs.Prelude.{◌≡◌, ◌==◌, ◌<◌, ◌≤◌, ℕ, not, List, [], length, count_by, if◌then◌else◌, Some, IsTrue, IsFalse, is_some}
use Rattle.action_names.specs.Names.{Name, IsName, same_name}
use Rattle.run_model.specs.declared.history.Event.{Event}
use Rattle.run_model.specs.Actions.{crashes, home_of, incarnation_of, is_begun, is_closed, is_down, is_ended, is_exactly, made_by, maker_of}
use Rattle.run_model.specs.LocalReadings.{LocalEvent, dependency_here, events_here}
use Rattle.guardian_laws.specs.Actions.{is_new}
use Rattle.roster.specs.Tables.{Table, closed_at, depends_at, ended_at, home_at, life_at, maker_at, place_of, placed, unended_at}
use Rattle.roster.specs.declared.roster.Roster.{Roster}

-- how often the guardian has crashed
abbrev pub crashes_of : Roster → ℕ
crashes_of roster = roster.crashes

-- What follows for the events that g keeps where each agrees with those before it: of crashes they have its own; what
-- begins has a name; who is new made nothing; and each action is made once, by its maker.
pub record AreOf (g : ℕ) (past : List Event) : Type 0 where
  pub own : (h : ℕ) → IsFalse (h == g) → crashes h past ≡ 0
  pub named : (a : Name) → IsTrue (is_begun a past) → IsName a
  pub new : (m : Name) → IsTrue (is_new m past) → made_by m past ≡ []
  pub made : (a m : Name) → count_by (λ b. same_name b a) (made_by m past)
      ≡ (if is_exactly (maker_of a past) m then 1 else 0)

-- Each action that has a place has a row there, and no other action. There is room for no more places than names have.
pub record IsIndexed (t : Table) : Type 0 where
  pub within : (a : Name) (i : ℕ) → place_of t a ≡ Some i → i < length t.rows
  pub apart : (a b : Name) (i : ℕ) → place_of t a ≡ Some i → place_of t b ≡ Some i → a ≡ b
  pub room : t.room ≤ length t.names

-- The table says what the history of g says: of the guardian, and of each action, also of one that was not begun. How
-- many things that it made have not ended is said of those that were begun here.
pub record IsRoster (g : ℕ) (here : List LocalEvent) (t : Table) : Type 0 where
  pub events : AreOf g (events_here here)
  pub guardian : t.guardian ≡ g
  pub crashes : t.crashes ≡ crashes g (events_here here)
  pub down : t.down ≡ is_down g (events_here here)
  pub indexed : IsIndexed t
  pub found : (a : Name) → is_some (place_of t a) ≡ is_begun a (events_here here)
  pub home : (a : Name) → home_at t a ≡ home_of a (events_here here)
  pub life : (a : Name) → life_at t a ≡ incarnation_of a (events_here here)
  pub maker : (a : Name) → maker_at t a ≡ placed t (maker_of a (events_here here))
  pub ended : (a : Name) → ended_at t a ≡ is_ended a (events_here here)
  pub closed : (a : Name) → closed_at t a ≡ is_closed a (events_here here)
  pub depends : (a : Name) (h : ℕ) → depends_at t a h ≡ dependency_here a h here
  pub unended : (a : Name) → IsTrue (is_begun a (events_here here))
      → unended_at t a
      ≡ count_by (λ b. not (is_ended b (events_here here))) (made_by a (events_here here))
