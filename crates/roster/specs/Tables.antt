-- What a roster keeps, without the room that its lists have, and what is read in it and made of it.
use Rattle.std.specs.Prelude.{◌≡◌, ◌≤◌, ℕ, max, zero, suc, ◌+◌, ◌-◌, ◌==◌, Bool, true, false, List, [], ◌∷◌, ◌++◌, get_or, length, map, if◌then◌else◌, Option, Some, None, slice_get}
use Rattle.std.specs.Option.{option_and_then}
use Rattle.std.specs.FinMap as tree
use Rattle.action_names.specs.Deps.{Deps}
use Rattle.action_names.specs.Names.{Name, same_name}
use Rattle.places.specs.Rows as by_place
use Rattle.roster.specs.declared.entry.Birth.{Birth}
use Rattle.roster.specs.declared.entry.Entry.{Entry}
use Rattle.roster.specs.declared.entry.Row.{Row}
use Rattle.roster.specs.declared.entry.Turn.{Turn}
use Rattle.roster.specs.declared.entry.Turn.TheVariants.{Crashes, Recovers, Stays}
use Rattle.roster.specs.declared.roster.Roster.{Roster}

-- how the guardian stands, the rows of actions in the order in which they began, the places of the rows by name, and
-- the names by their own places, with how many of these have room
pub record Table : Type 0 where
  pub guardian : ℕ
  pub crashes : ℕ
  pub down : Bool
  pub rows : List Row
  pub places : Name → Option ℕ
  pub names : List Name
  pub room : ℕ

abbrev pub table : List Name → Roster → Table
table names roster = record {
  guardian = roster.guardian;
  crashes = roster.crashes;
  down = roster.down;
  rows = roster.rows.items;
  places = λ a. by_place.row_of names roster.at a;
  names = names;
  room = length roster.at;
}

-- what an entry makes of a table: which rows it ends and closes, with what a commit leaves its parent, what begins and
-- how, and what becomes of the guardian
pub record Made : Type 0 where
  pub ended : Option ℕ
  pub closed : Option ℕ
  pub merged : Option (ℕ × Deps)
  pub birth : Birth
  pub begun : List (ℕ × Deps)
  pub turn : Turn

abbrev pub nothing_made : Made
nothing_made = record {
  ended = None;
  closed = None;
  merged = None;
  birth = record { home = 0; life = 0; maker = None };
  begun = [];
  turn = Stays;
}

-- what stands in an entry
abbrev pub written_in : Entry → Made
written_in entry = record {
  ended = entry.ended;
  closed = entry.closed;
  merged = entry.merged;
  birth = entry.birth;
  begun = entry.begun.items;
  turn = entry.turn;
}

-- an idle entry makes nothing, whatever stands in it
abbrev pub made_by : Entry → Made
made_by entry = if entry.idle then nothing_made else written_in entry

-- ---- what is read

-- the place of an action, if it has a row
abbrev pub place_of : Table → Name → Option ℕ
place_of t a = t.places a

abbrev pub placed : Table → Option Name → Option ℕ
placed t a = option_and_then (λ b. place_of t b) a

abbrev pub row_at : Table → Option ℕ → Option Row
row_at t at = option_and_then (λ i. slice_get t.rows i) at

abbrev pub row_of : Table → Name → Option Row
row_of t a = row_at t (place_of t a)

-- what is said of a row, and of one that is not there
abbrev pub said : {B : Type 0} → (Row → B) → B → Option Row → B
said field missing None = missing
said field missing (Some row) = field row

abbrev pub home_at : Table → Name → ℕ
home_at t a = said (λ row. row.home) 0 (row_of t a)

abbrev pub life_at : Table → Name → ℕ
life_at t a = said (λ row. row.life) 0 (row_of t a)

abbrev pub maker_at : Table → Name → Option ℕ
maker_at t a = said (λ row. row.maker) None (row_of t a)

abbrev pub ended_at : Table → Name → Bool
ended_at t a = said (λ row. row.ended) false (row_of t a)

abbrev pub closed_at : Table → Name → Bool
closed_at t a = said (λ row. row.closed) false (row_of t a)

abbrev pub depends_at : Table → Name → ℕ → Option ℕ
depends_at t a h = said (λ row. tree.get row.depends h) None (row_of t a)

abbrev pub unended_at : Table → Name → ℕ
unended_at t a = said (λ row. row.unended) 0 (row_of t a)

-- how often a guardian has crashed, of whose crashes the own alone are counted
abbrev pub life_in : Table → ℕ → ℕ
life_in t h = if h == t.guardian then t.crashes else 0

-- ---- what is made of it

-- the rows in which the one at a place is changed
abbrev pub updated : (Row → Row) → ℕ → List Row → List Row
updated f i [] = []
updated f zero (x ∷ xs) = f x ∷ xs
updated f (suc i) (x ∷ xs) = x ∷ updated f i xs

abbrev pub changed : (Row → Row) → ℕ → Table → Table
changed f i t = record t { rows = updated f i t.rows }

abbrev pub changed_at : (Row → Row) → Option ℕ → Table → Table
changed_at f None t = t
changed_at f (Some i) t = changed f i t

abbrev pub with_ended : Row → Row
with_ended row = record row { ended = true }

abbrev pub with_closed : Row → Row
with_closed row = record row { closed = true }

abbrev pub with_depends : Deps → Row → Row
with_depends depends row = record row { depends = depends }

abbrev pub more_by : ℕ → Row → Row
more_by n row = record row { unended = row.unended + n }

abbrev pub one_less : Row → Row
one_less row = record row { unended = row.unended - 1 }

-- the maker of the action in a row, if that action has not ended
abbrev pub maker_left : Row → Option ℕ
maker_left row = if row.ended then None else row.maker

-- the action ends: where it had not, its maker has one less that has not
abbrev pub ended : Option ℕ → Table → Table
ended at t = changed_at one_less (said maker_left None (row_at t at)) (changed_at with_ended at t)

-- the action at the place is left with these dependencies
abbrev pub merged : Option (ℕ × Deps) → Table → Table
merged None t = t
merged (Some m) t = changed (with_depends m.1) m.0 t

-- one row more
abbrev pub added : Name × Row → Table → Table
added x t = record t {
  rows = t.rows ++ x.1 ∷ [];
  places = λ a. if same_name x.0 a then Some (length t.rows) else t.places a;
}

-- these rows more, the last of them first
abbrev pub all_added : List (Name × Row) → Table → Table
all_added [] t = t
all_added (x ∷ xs) t = added x (all_added xs t)

abbrev pub turned : Turn → Table → Table
turned Stays t = t
turned Crashes t = record t { crashes = t.crashes + 1; down = true }
turned Recovers t = record t { down = false }

-- the row of an action that is born so, and depends on these
abbrev pub born_row : Birth → Deps → Row
born_row birth depends = record {
  home = birth.home;
  life = birth.life;
  maker = birth.maker;
  depends = depends;
  ended = false;
  closed = false;
  unended = 0;
}

-- what begins, by the names of its places, with its rows
abbrev pub begun_of : List Name → Birth → List (ℕ × Deps) → List (Name × Row)
begun_of names birth begun =
    map (λ (x : ℕ × Deps). (get_or names x.0 [], born_row birth x.1)) begun

-- the table with what begins, once its maker was counted up
abbrev pub grown : Made → Table → Table
grown made t = let begun = begun_of t.names made.birth made.begun in
    all_added begun (changed_at (more_by (length begun)) made.birth.maker t)

-- the table once all that is made
abbrev pub entered : Made → Table → Table
entered made t =
    turned made.turn
    (merged made.merged (changed_at with_closed made.closed (ended made.ended (grown made t))))

-- the rows that one roster has, and its places, the other has among more names, where it may have more room
pub record IsKept (names : List Name) (old new : Roster) : Type 0 where
  pub guardian : new.guardian ≡ old.guardian
  pub crashes : new.crashes ≡ old.crashes
  pub down : new.down ≡ old.down
  pub rows : new.rows.items ≡ old.rows.items
  pub places : (i : ℕ) → by_place.row_at new.at i ≡ by_place.row_at old.at i
  pub within : length new.at ≤ max (length old.at) (length names)
