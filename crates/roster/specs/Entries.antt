-- What a plan has for an event, and when there is room for it.
use Rattle.std.specs.Prelude.{◌≡◌, ◌+◌, ◌<◌, ◌≤◌, ◌^◌, ℕ, List, [], false, get_or, length, map, Option, Some, None, MatchOption, slice_get, vec_capacity, vec_len}
use Rattle.std.specs.List.{AllByRecursion}
use Rattle.std.specs.FinMap as tree
use Rattle.action_names.specs.Deps.{Deps, lesser}
use Rattle.action_names.specs.Names.{IsName, Name}
use Rattle.holders.specs.Held.{names_of}
use Rattle.places.specs.Placed.{place_in}
use Rattle.run_model.specs.declared.history.Event.{Event}
use Rattle.run_model.specs.declared.step.Step.{Step}
use Rattle.run_model.specs.declared.step.Step.TheVariants.{Commit}
use Rattle.run_model.specs.Actions.{begins, home_in, maker_in, names_begun}
use Rattle.run_model.specs.LocalReadings.{least_of}
use Rattle.guardian_laws.specs.Sent.{Sent}
use Rattle.roster.specs.Steps.{above, closed_in, ended_in, turn_in}
use Rattle.roster.specs.Tables.{Made, Table, begun_of, home_at, life_in, made_by, placed, row_at, said}
use Rattle.roster.specs.declared.entry.Entry.{Entry}
use Rattle.roster.specs.declared.entry.Row.{Row}
use Rattle.roster.specs.declared.entry.Turn.TheVariants.{Stays}
use Rattle.roster.specs.declared.roster.Roster.{Roster}

-- there is room for the rows of what begins
pub record FitsBegun (roster : Roster) (begun : List (ℕ × Deps)) (count : ℕ) : Type 0 where
  pub rows : vec_len roster.rows + count ≤ vec_capacity roster.rows
  pub places : AllByRecursion (λ (x : ℕ × Deps). x.0 < length roster.at) begun

-- the row at the place can count so many things more that its action made
abbrev pub CanCount : List Row → Option ℕ → ℕ → Type 0
CanCount rows None n = Unit {0}
CanCount rows (Some at) n =
    MatchOption (slice_get rows at) (Unit {0}) (λ row. row.unended + n < 2 ^ 64)

-- there is room for what is made
pub record FitsMade (roster : Roster) (made : Made) : Type 0 where
  pub begun : FitsBegun roster made.begun (length made.begun)
  pub count : CanCount roster.rows.items made.birth.maker (length made.begun)

-- there is room for the entry
abbrev pub FitsEntry : Roster → Entry → Type 0
FitsEntry roster entry = FitsMade roster (made_by entry)

-- a commit leaves the row at the place, where there is one, with the lesser of its dependencies and of those that came
abbrev pub IsLeft : Table → Option ℕ → (ℕ → Option ℕ) → Option (ℕ × Deps) → Type 0
IsLeft t at came None = at ≡ None
IsLeft t at came (Some m) =
    (at ≡ Some m.0) × ((h : ℕ)
    → tree.get m.1 h ≡ lesser (said (λ row. tree.get row.depends h) None (row_at t at)) (came h))

abbrev pub IsMerged : Table → Step → Sent → Option (ℕ × Deps) → Type 0
IsMerged t (Commit a) came merged = IsLeft t (placed t (above a)) (λ h. least_of came a h) merged
IsMerged t _ came merged = merged ≡ None

-- the row is as this step begins the action
pub record IsBorn (t : Table) (step : Step) (came : Sent) (b : Name) (row : Row) : Type 0 where
  pub home : row.home ≡ home_in step (λ a. home_at t a)
  pub life : row.life ≡ life_in t row.home
  pub maker : row.maker ≡ placed t (maker_in step)
  pub depends : (h : ℕ) → tree.get row.depends h ≡ least_of came b h
  pub ended : row.ended ≡ false
  pub closed : row.closed ≡ false
  pub unended : row.unended ≡ 0

-- these are the rows of what the event begins
pub record AreBorn (t : Table) (e : Event) (came : Sent) (begun : List (Name × Row)) : Type 0 where
  pub names : names_of begun ≡ names_begun e.answer
  pub named : AllByRecursion (λ (x : Name × Row). IsName x.0) begun
  pub rows : AllByRecursion (λ (x : Name × Row). IsBorn t e.step came x.0 x.1) begun

-- each place is that of its name
abbrev pub HavePlaces : List Name → List (ℕ × Deps) → Type 0
HavePlaces names begun =
    AllByRecursion (λ (x : ℕ × Deps). place_in names (get_or names x.0 []) ≡ Some x.0) begun

-- these are what the event begins, by the places of the names, each with what came under its name
pub record AreBegun (known : List Name) (e : Event) (came : Sent) (begun : List (ℕ × Deps)) : Type 0 where
  pub names : map (λ (x : ℕ × Deps). get_or known x.0 []) begun ≡ names_begun e.answer
  pub named : AllByRecursion (λ (x : ℕ × Deps). IsName (get_or known x.0 [])) begun
  pub depends : AllByRecursion (λ (x : ℕ × Deps). (h : ℕ)
      → tree.get x.1 h ≡ least_of came (get_or known x.0 []) h) begun

-- the event begins no action that it commits
abbrev pub CommitsOld : Event → Type 0
CommitsOld e = (a : Name) → e.step ≡ Commit a → begins e a ≡ false

-- the event begins, ends and closes no action, and leaves the guardian as it stood
pub record ConcernsNone (e : Event) : Type 0 where
  pub begun : names_begun e.answer ≡ []
  pub maker : maker_in e.step ≡ None
  pub ended : ended_in e.step ≡ None
  pub closed : closed_in e.step ≡ None
  pub turn : turn_in e.step ≡ Stays

-- this is what an event makes which brings these dependencies
pub record IsMade (t : Table) (e : Event) (came : Sent) (made : Made) : Type 0 where
  pub ended : made.ended ≡ placed t (ended_in e.step)
  pub closed : made.closed ≡ placed t (closed_in e.step)
  pub merged : IsMerged t e.step came made.merged
  pub maker : made.birth.maker ≡ placed t (maker_in e.step)
  pub begun : AreBorn t e came (begun_of t.names made.birth made.begun)
  pub placed : HavePlaces t.names made.begun
  pub turn : made.turn ≡ turn_in e.step

-- and the entry makes it
abbrev pub IsEntry : Table → Event → Sent → Entry → Type 0
IsEntry t e came entry = IsMade t e came (made_by entry)
