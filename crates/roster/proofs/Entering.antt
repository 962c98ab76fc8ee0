-- A roster follows an event that agrees with its history.
use Rattle.std.proofs.Common.{Bool, List, [], None, Option, Some, ap, arith, cond, count_by, eqb-true, false, filter, is_some, length, not, option_map, refl, subst, sym, true, ℕ, ◌+◌, ◌-◌, ◌≤◌, ◌&&◌, ◌||◌, ◌==◌, ◌∙◌, ◌∷◌, ◌≡◌}
use Rattle.std.specs.FinMap as tree
use Rattle.std.proofs.lemmas.Bool.{or_from}
use Rattle.std.proofs.lemmas.List.{length-map}
use Rattle.action_names.specs.Deps.{Deps, lesser}
use Rattle.action_names.specs.Names.{IsName, Name, has_name, is_top, parent_of, same_name}
use Rattle.action_names.proofs.Ancestry.{same_is, same_refl}
use Rattle.holders.specs.Held.{value_at}
use Rattle.holders.proofs.Rows.{holds_some}
use Rattle.run_model.specs.declared.history.Event.{Event}
use Rattle.run_model.specs.declared.step.Step.{Step}
use Rattle.run_model.specs.declared.step.Step.TheVariants.{Abort, Arms, Call, Close, Commit, Crash, Decide, NestedTop, Op, Prepare, Recover, Tell, Top}
use Rattle.run_model.specs.Actions.{begun, crashes, home_in, home_of, incarnation_of, is_begun, is_closed, is_down, is_ended, is_exactly, made_by, maker_in, maker_of, names_begun, step_crashes, step_makes, step_recovers}
use Rattle.run_model.specs.LocalReadings.{LocalEvent, after_commit, dependency_here, events_here, least_of}
use Rattle.run_model.specs.Telling.{or_else}
use Rattle.guardian_laws.specs.Actions.{AgreesOnActions, is_none_or, is_own, reaches_parent}
use Rattle.roster.proofs.Added.{all_found, found_all, indexed_all, place_all, row_all, standing_all}
use Rattle.roster.proofs.Changed.{got_within, indexed_changed, indexed_merged, indexed_turned, kept, kept_merged, place_changed, place_merged, place_turned, placed_changed, row_turned, standing, standing_changed, standing_merged, struck}
use Rattle.roster.proofs.Counted.{all_counted, count-append, fewer}
use Rattle.roster.proofs.Events.{absent, closed_was_begun, closes_one, ended_after, ended_was_begun, maker_not_new, more_events, one_is_new}
use Rattle.roster.proofs.Names.{clash, has_name-append}
use Rattle.guardian_laws.specs.Sent.{Sent}
use Rattle.roster.specs.Entries.{IsBorn, IsMade, IsMerged}
use Rattle.roster.specs.Rosters.{IsIndexed, IsRoster}
use Rattle.roster.specs.Steps.{above, closed_in, ended_in, turn_in}
use Rattle.roster.specs.Tables.{Made, Table, all_added, begun_of, changed_at, ended, entered, home_at, life_in, maker_left, merged, more_by, one_less, place_of, placed, row_at, row_of, said, turned, with_closed, with_depends, with_ended}
use Rattle.roster.specs.declared.entry.Row.{Row}
use Rattle.roster.specs.declared.entry.Turn.{Turn}
use Rattle.roster.specs.declared.entry.Turn.TheVariants.{Crashes, Recovers, Stays}

-- ---- options and what is said

exactly : (o : Option Name) (a : Name) → is_exactly o a ≡ true → o ≡ Some a
exactly None a h = absurd (cc)
exactly (Some b) a h = ap Some (same_is b a h)

none_of : {X : Type 0} (o : Option X) → is_some o ≡ false → o ≡ None
none_of None h = refl
none_of (Some x) h = absurd (cc)

pub lesser_none : (o : Option ℕ) → lesser o None ≡ o
lesser_none None = refl
lesser_none (Some n) = refl

-- a row is there where that much is said of it
some_said : (r : Option Row) → is_some r ≡ said (λ row. true) false r
some_said None = refl
some_said (Some x) = refl

-- the row that is changed is there
said_there : {B : Type 0} (field : Row → B) (missing : B) (f : Row → Row) (r : Option Row) → is_some r ≡ true → (by : B → B)
    → ((x : Row) → field (f x) ≡ by (field x)) → said field missing (option_map f r) ≡ by (said field missing r)
said_there field missing f None there by is = absurd (cc)
said_there field missing f (Some x) there by is = is x

-- what the guardian is told of its own
turn_crashes : (g : ℕ) (s : Step) (t : Table) → is_own g s ≡ true → (turned (turn_in s) t).crashes ≡ cond {A = ℕ} (step_crashes s g) (t.crashes + 1) t.crashes
turn_crashes g (Crash k) t own = sym (ap (λ b. cond {A = ℕ} b (t.crashes + 1) t.crashes) own)
turn_crashes g (Recover k) t own = refl
turn_crashes g (Top h) t own = refl
turn_crashes g (NestedTop b) t own = refl
turn_crashes g (Call b h) t own = refl
turn_crashes g (Arms b kinds) t own = refl
turn_crashes g (Op b x wanted) t own = refl
turn_crashes g (Commit b) t own = refl
turn_crashes g (Close b) t own = refl
turn_crashes g (Prepare h b) t own = refl
turn_crashes g (Decide b) t own = refl
turn_crashes g (Abort b) t own = refl
turn_crashes g (Tell h b) t own = refl

turn_down : (g : ℕ) (s : Step) (t : Table) → is_own g s ≡ true → (turned (turn_in s) t).down ≡ (step_crashes s g || (not (step_recovers s g) && t.down))
turn_down g (Crash k) t own = sym (ap (λ b. b || (true && t.down)) own)
turn_down g (Recover k) t own = sym (ap (λ b. not b && t.down) own)
turn_down g (Top h) t own = refl
turn_down g (NestedTop b) t own = refl
turn_down g (Call b h) t own = refl
turn_down g (Arms b kinds) t own = refl
turn_down g (Op b x wanted) t own = refl
turn_down g (Commit b) t own = refl
turn_down g (Close b) t own = refl
turn_down g (Prepare h b) t own = refl
turn_down g (Decide b) t own = refl
turn_down g (Abort b) t own = refl
turn_down g (Tell h b) t own = refl

guardian_turned : (turn : Turn) (t : Table) → (turned turn t).guardian ≡ t.guardian
guardian_turned Stays t = refl
guardian_turned Crashes t = refl
guardian_turned Recovers t = refl

-- an end leaves the guardian as it stood
pub standing_ended : (at : Option ℕ) (t : Table) → standing (ended at t) ≡ standing t
standing_ended at t =
    standing_changed one_less (said maker_left None (row_at t at)) (changed_at with_ended at t) ∙ standing_changed with_ended at t

module _ (g : ℕ) (here : List LocalEvent) (c : LocalEvent) (t : Table) (made : Made) (is : IsRoster g here t)
    (agrees : AgreesOnActions g c here) (planned : IsMade t c.event c.carried.dependencies made) where
  abbrev past : List Event
  past = events_here here

  abbrev step : Step
  step = c.event.step

  abbrev names : List Name
  names = names_begun c.event.answer

  abbrev came : Sent
  came = c.carried.dependencies

  abbrev rows : List (Name × Row)
  rows = begun_of t.names made.birth made.begun

  -- ---- what begins

  has : (a : Name) → is_some (value_at rows a) ≡ has_name names a
  has a = holds_some rows a ∙ ap (λ ns. has_name ns a) planned.begun.names

  born : (a : Name) (row : Row) → value_at rows a ≡ Some row → IsBorn t step came a row
  born a row found = all_found (IsBorn t step came) rows planned.begun.rows a row found

  named : (a : Name) → has_name names a ≡ true → IsName a
  named a new = of (value_at rows a) refl (has a ∙ new)
    where
      of : (o : Option Row) → value_at rows a ≡ o → is_some o ≡ true → IsName a
      of None found some = absurd (cc)
      of (Some row) found some = all_found (λ b x. IsName b) rows planned.begun.named a row found

  -- who begins was not begun, and who was begun does not begin
  not_begun : (a : Name) → has_name names a ≡ true → is_begun a past ≡ false
  not_begun a new = absent g c.event past is.events agrees.new agrees.made agrees.own named a new

  old : (a : Name) → is_begun a past ≡ true → has_name names a ≡ false
  old a was = of (has_name names a) refl
    where
      of : (b : Bool) → has_name names a ≡ b → b ≡ false
      of true new = absurd (clash was (not_begun a new))
      of false k = refl

  no_row : (a : Name) → is_begun a past ≡ false → row_of t a ≡ None
  no_row a none = ap (row_at t) (none_of (place_of t a) (is.found a ∙ none))

  -- ---- the tables, one after the other

  abbrev t1 : Table
  t1 = changed_at (more_by (length rows)) made.birth.maker t

  abbrev t2 : Table
  t2 = all_added rows t1

  abbrev t3 : Table
  t3 = changed_at with_ended made.ended t2

  abbrev left : Option ℕ
  left = said maker_left None (row_at t2 made.ended)

  abbrev t4 : Table
  t4 = changed_at one_less left t3

  abbrev t5 : Table
  t5 = changed_at with_closed made.closed t4

  abbrev t6 : Table
  t6 = merged made.merged t5

  abbrev t7 : Table
  t7 = turned made.turn t6

  i1 : IsIndexed t1
  i1 = indexed_changed (more_by (length rows)) made.birth.maker t is.indexed

  i2 : IsIndexed t2
  i2 = indexed_all rows t1 i1

  i3 : IsIndexed t3
  i3 = indexed_changed with_ended made.ended t2 i2

  i4 : IsIndexed t4
  i4 = indexed_changed one_less left t3 i3

  i5 : IsIndexed t5
  i5 = indexed_changed with_closed made.closed t4 i4

  i7 : IsIndexed t7
  i7 = indexed_turned made.turn t6 (indexed_merged made.merged t5 i5)

  -- ---- places

  place5 : (a : Name) → place_of t5 a ≡ place_of t2 a
  place5 a = place_changed with_closed made.closed t4 a ∙ place_changed one_less left t3 a ∙ place_changed with_ended made.ended t2 a

  place7 : (a : Name) → place_of t7 a ≡ place_of t2 a
  place7 a = place_turned made.turn t6 a ∙ place_merged made.merged t5 a ∙ place5 a

  -- who does not begin stands where it stood
  place2 : (a : Name) → has_name names a ≡ false → place_of t2 a ≡ place_of t a
  place2 a none = place_all rows t1 a (none_of (value_at rows a) (has a ∙ none)) ∙ place_changed (more_by (length rows)) made.birth.maker t a

  still : (o : Option Name) → ((d : Name) → o ≡ Some d → has_name names d ≡ false) → placed t o ≡ placed t2 o
  still None is_old = refl
  still (Some d) is_old = sym (place2 d (is_old d refl))

  -- ---- what is said of rows

  later : {B : Type 0} (field : Row → B) (missing : B) → ((x : Row) → field (with_closed x) ≡ field x)
      → ((depends : Deps) (x : Row) → field (with_depends depends x) ≡ field x) → (a : Name)
      → said field missing (row_of t7 a) ≡ said field missing (row_of t4 a)
  later field missing closes merges a =
      ap (said field missing) (row_turned made.turn t6 a)
      ∙ kept_merged field missing made.merged t5 merges a ∙ kept field missing with_closed made.closed t4 closes a

  ending : {B : Type 0} (field : Row → B) (missing : B) → ((x : Row) → field (with_ended x) ≡ field x) → ((x : Row) → field (one_less x) ≡ field x)
      → (a : Name) → said field missing (row_of t4 a) ≡ said field missing (row_of t2 a)
  ending field missing ends less a = kept field missing one_less left t3 less a ∙ kept field missing with_ended made.ended t2 ends a

  begun_or : {B : Type 0} (field : Row → B) (missing new before : B) (a : Name) → ((x : Row) → value_at rows a ≡ Some x → field x ≡ new)
      → said field missing (row_of t1 a) ≡ before → said field missing (row_of t2 a) ≡ cond (has_name names a) new before
  begun_or field missing new before a fresh same =
      ap (said field missing) (row_all rows t1 i1 a) ∙ of (value_at rows a) refl ∙ ap (λ b. cond b new before) (has a)
    where
      of : (o : Option Row) → value_at rows a ≡ o → said field missing (or_else o (row_of t1 a)) ≡ cond (is_some o) new before
      of None k = same
      of (Some x) k = fresh x k

  counting : {B : Type 0} (field : Row → B) (missing : B) → ((x : Row) → field (more_by (length rows) x) ≡ field x) → (a : Name)
      → said field missing (row_of t1 a) ≡ said field missing (row_of t a)
  counting field missing counts a = kept field missing (more_by (length rows)) made.birth.maker t counts a

  -- who was begun has a row
  row0 : (a : Name) → is_begun a past ≡ true → is_some (row_of t a) ≡ true
  row0 a was = of (place_of t a) refl (is.found a ∙ was)
    where
      of : (p : Option ℕ) → place_of t a ≡ p → is_some p ≡ true → is_some (row_of t a) ≡ true
      of None at some = absurd (cc)
      of (Some i) at some = ap (λ p. is_some (row_at t p)) at ∙ got_within t.rows i (is.indexed.within a i at)

  row2 : (a : Name) → is_begun a past ≡ true → is_some (row_of t2 a) ≡ true
  row2 a was =
      some_said (row_of t2 a)
      ∙ begun_or (λ row. true) false true true a (λ x found. refl)
      (counting (λ row. true) false (λ x. refl) a ∙ sym (some_said (row_of t a)) ∙ row0 a was)
      ∙ of (has_name names a)
    where
      of : (b : Bool) → cond b true true ≡ true
      of true = refl
      of false = refl

  row4 : (a : Name) → is_begun a past ≡ true → is_some (row_of t4 a) ≡ true
  row4 a was =
      some_said (row_of t4 a) ∙ ending (λ row. true) false (λ x. refl) (λ x. refl) a ∙ sym (some_said (row_of t2 a)) ∙ row2 a was

  row5 : (a : Name) → is_begun a past ≡ true → is_some (row_of t5 a) ≡ true
  row5 a was =
      some_said (row_of t5 a)
      ∙ kept (λ row. true) false with_closed made.closed t4 (λ x. refl) a ∙ sym (some_said (row_of t4 a)) ∙ row4 a was

  -- ---- homes and lives

  homes : home_in step (λ b. home_at t b) ≡ home_in step (λ b. home_of b past)
  homes = λ i. home_in step (λ b. is.home b i)

  home_is : (a : Name) → said (λ row. row.home) 0 (row_of t7 a) ≡ home_of a (events_here (c ∷ here))
  home_is a =
      later (λ row. row.home) 0 (λ x. refl) (λ d x. refl) a
      ∙ ending (λ row. row.home) 0 (λ x. refl) (λ x. refl) a
      ∙ begun_or (λ row. row.home) 0 (home_in step (λ b. home_of b past)) (home_of a past) a (λ x found. (born a x found).home ∙ homes)
      (counting (λ row. row.home) 0 (λ x. refl) a ∙ is.home a)

  lives : (h : ℕ) → life_in t h ≡ crashes h past
  lives h = (λ i. cond {A = ℕ} (h == is.guardian i) (is.crashes i) 0) ∙ of (h == g) refl
    where
      of : (b : Bool) → (h == g) ≡ b → cond {A = ℕ} b (crashes g past) 0 ≡ crashes h past
      of true same = ap (λ k. crashes k past) (sym (eqb-true h g same))
      of false other = sym (is.events.own h other)

  life_is : (a : Name) → said (λ row. row.life) 0 (row_of t7 a) ≡ incarnation_of a (events_here (c ∷ here))
  life_is a =
      later (λ row. row.life) 0 (λ x. refl) (λ d x. refl) a
      ∙ ending (λ row. row.life) 0 (λ x. refl) (λ x. refl) a
      ∙ begun_or (λ row. row.life) 0 (crashes (home_of a (events_here (c ∷ here))) past) (incarnation_of a past) a new
      (counting (λ row. row.life) 0 (λ x. refl) a ∙ is.life a)
    where
      new : (x : Row) → value_at rows a ≡ Some x → x.life ≡ crashes (home_of a (events_here (c ∷ here))) past
      new x found =
          let begins_it : has_name names a ≡ true = sym (has a) ∙ ap is_some found in
          let home : x.home ≡ home_of a (events_here (c ∷ here)) =
          (born a x found).home ∙ homes ∙ sym (ap (λ b. cond {A = ℕ} b (home_in step (λ b. home_of b past)) (home_of a past)) begins_it) in
          (born a x found).life ∙ ap (life_in t) home ∙ lives (home_of a (events_here (c ∷ here)))

  -- ---- makers

  -- who made an action that was begun does not begin
  old_maker : (a m : Name) → maker_of a past ≡ Some m → has_name names m ≡ false
  old_maker a m made = of (has_name names m) refl
    where
      of : (b : Bool) → has_name names m ≡ b → b ≡ false
      of true new =
          let nothing = is.events.new m (one_is_new names past agrees.new m new) in
          let none : cond {A = ℕ} (is_exactly (maker_of a past) m) 1 0 ≡ 0 = sym (is.events.made a m) ∙ ap (count_by (λ b. same_name b a)) nothing in
          let one : cond {A = ℕ} (is_exactly (maker_of a past) m) 1 0 ≡ 1 =
          ap (λ o. cond {A = ℕ} (is_exactly o m) 1 0) made ∙ ap (λ b. cond {A = ℕ} b 1 0) (same_refl m) in
          absurd (omega arith)
      of false k = refl

  new_maker : (m : Name) → maker_in step ≡ Some m → has_name names m ≡ false
  new_maker m makes = maker_not_new step names past m makes agrees.made agrees.new named

  maker2 : (a : Name) → said (λ row. row.maker) None (row_of t2 a) ≡ cond (has_name names a) (placed t (maker_in step)) (placed t (maker_of a past))
  maker2 a =
      begun_or (λ row. row.maker) None (placed t (maker_in step)) (placed t (maker_of a past)) a (λ x found. (born a x found).maker)
      (counting (λ row. row.maker) None (λ x. refl) a ∙ is.maker a)

  maker_is : (a : Name) → said (λ row. row.maker) None (row_of t7 a) ≡ placed t7 (maker_of a (events_here (c ∷ here)))
  maker_is a =
      later (λ row. row.maker) None (λ x. refl) (λ d x. refl) a
      ∙ ending (λ row. row.maker) None (λ x. refl) (λ x. refl) a
      ∙ maker2 a ∙ moved (has_name names a)
    where
      at : (o : Option Name) → ((m : Name) → o ≡ Some m → has_name names m ≡ false) → placed t o ≡ placed t7 o
      at None is_old = refl
      at (Some m) is_old = sym (place7 m ∙ place2 m (is_old m refl))

      moved : (b : Bool) → cond b (placed t (maker_in step)) (placed t (maker_of a past)) ≡ placed t7 (cond b (maker_in step) (maker_of a past))
      moved true = at (maker_in step) new_maker
      moved false = at (maker_of a past) (old_maker a)

  -- ---- ends

  ends_old : (d : Name) → ended_in step ≡ Some d → has_name names d ≡ false
  ends_old d ends = old d (ended_was_begun step past d agrees.known ends)

  closes_old : (d : Name) → closed_in step ≡ Some d → has_name names d ≡ false
  closes_old d closes = old d (closed_was_begun step past d agrees.known closes)

  ended_there : made.ended ≡ placed t2 (ended_in step)
  ended_there = planned.ended ∙ still (ended_in step) ends_old

  ended2 : (a : Name) → said (λ row. row.ended) false (row_of t2 a) ≡ is_ended a past
  ended2 a =
      begun_or (λ row. row.ended) false false (is_ended a past) a (λ x found. (born a x found).ended)
      (counting (λ row. row.ended) false (λ x. refl) a ∙ is.ended a)
      ∙ of (has_name names a) refl
    where
      of : (b : Bool) → has_name names a ≡ b → cond b false (is_ended a past) ≡ is_ended a past
      of true new = sym (ap (said (λ row. row.ended) false) (no_row a (not_begun a new))) ∙ is.ended a
      of false k = refl

  ended_is : (a : Name) → said (λ row. row.ended) false (row_of t7 a) ≡ is_ended a (events_here (c ∷ here))
  ended_is a =
      later (λ row. row.ended) false (λ x. refl) (λ d x. refl) a
      ∙ kept (λ row. row.ended) false one_less left t3 (λ x. refl) a
      ∙ ap (λ at. said (λ row. row.ended) false (row_of (changed_at with_ended at t2) a)) ended_there
      ∙ ap (said (λ row. row.ended) false) (struck t2 i2 with_ended (ended_in step) a)
      ∙ of (is_exactly (ended_in step) a) refl
      ∙ ap (λ b. is_exactly (ended_in step) a || b) (ended2 a)
      ∙ sym (ended_after c.event past a)
    where
      of : (b : Bool) → is_exactly (ended_in step) a ≡ b
          → said (λ row. row.ended) false (cond b (option_map with_ended (row_of t2 a)) (row_of t2 a)) ≡ (b || said (λ row. row.ended) false (row_of t2 a))
      of true ends =
          said_there (λ row. row.ended) false with_ended (row_of t2 a)
          (row2 a (ended_was_begun step past a agrees.known (exactly (ended_in step) a ends))) (λ b. true) (λ x. refl)
      of false k = refl

  -- ---- closing

  closed_there : made.closed ≡ placed t4 (closed_in step)
  closed_there =
      planned.closed ∙ still (closed_in step) closes_old
      ∙ sym (placed_changed one_less left t3 (closed_in step) ∙ placed_changed with_ended made.ended t2 (closed_in step))

  closed4 : (a : Name) → said (λ row. row.closed) false (row_of t4 a) ≡ is_closed a past
  closed4 a =
      ending (λ row. row.closed) false (λ x. refl) (λ x. refl) a
      ∙ begun_or (λ row. row.closed) false false (is_closed a past) a (λ x found. (born a x found).closed)
      (counting (λ row. row.closed) false (λ x. refl) a ∙ is.closed a)
      ∙ of (has_name names a) refl
    where
      of : (b : Bool) → has_name names a ≡ b → cond b false (is_closed a past) ≡ is_closed a past
      of true new = sym (ap (said (λ row. row.closed) false) (no_row a (not_begun a new))) ∙ is.closed a
      of false k = refl

  closed_is : (a : Name) → said (λ row. row.closed) false (row_of t7 a) ≡ is_closed a (events_here (c ∷ here))
  closed_is a =
      ap (said (λ row. row.closed) false) (row_turned made.turn t6 a)
      ∙ kept_merged (λ row. row.closed) false made.merged t5 (λ d x. refl) a
      ∙ ap (λ at. said (λ row. row.closed) false (row_of (changed_at with_closed at t4) a)) closed_there
      ∙ ap (said (λ row. row.closed) false) (struck t4 i4 with_closed (closed_in step) a)
      ∙ of (is_exactly (closed_in step) a) refl
      ∙ ap (λ b. is_exactly (closed_in step) a || b) (closed4 a)
      ∙ ap (λ b. b || is_closed a past) (sym (closes_one step a))
    where
      of : (b : Bool) → is_exactly (closed_in step) a ≡ b
          → said (λ row. row.closed) false (cond b (option_map with_closed (row_of t4 a)) (row_of t4 a)) ≡ (b || said (λ row. row.closed) false (row_of t4 a))
      of true closes =
          said_there (λ row. row.closed) false with_closed (row_of t4 a)
          (row4 a (closed_was_begun step past a agrees.known (exactly (closed_in step) a closes))) (λ b. true) (λ x. refl)
      of false k = refl

  -- ---- dependencies

  abbrev Depends : ℕ → Row → Option ℕ
  Depends h = λ row. tree.get row.depends h

  depends5 : (a : Name) (h : ℕ) → said (Depends h) None (row_of t5 a) ≡ cond (has_name names a) (least_of came a h) (dependency_here a h here)
  depends5 a h =
      kept (Depends h) None with_closed made.closed t4 (λ x. refl) a
      ∙ ending (Depends h) None (λ x. refl) (λ x. refl) a
      ∙ begun_or (Depends h) None (least_of came a h) (dependency_here a h here) a (λ x found. (born a x found).depends h)
      (counting (Depends h) None (λ x. refl) a ∙ is.depends a h)

  abbrev Leaves : Step → Option (ℕ × Deps) → Name → ℕ → Type 0
  Leaves s m a h = said (Depends h) None (row_of (merged m t5) a)
      ≡ cond (has_name names a) (least_of came a h) (after_commit s a (dependency_here a h here) (λ d. least_of came d h))

  no_parent : (d : Name) → placed t (above d) ≡ None → is_begun (parent_of d) past ≡ false
  no_parent d none = of (is_begun (parent_of d) past) refl (is_top d) refl
    where
      of : (b : Bool) → is_begun (parent_of d) past ≡ b → (s : Bool) → is_top d ≡ s → b ≡ false
      of false was s top = refl
      of true was true top =
          let none : 1 ≤ length (parent_of d) = (is.events.named (parent_of d) was).not_empty in
          absurd (no_top d top none)
        where
          no_top : (b : Name) → is_top b ≡ true → 1 ≤ length (parent_of b) → ⊥
          no_top [] k deep = omega arith
          no_top (n ∷ []) k deep = omega arith
          no_top (m ∷ n ∷ b) k deep = cc
      of true was false top =
          let nowhere : place_of t (parent_of d) ≡ None = sym (ap (λ s. placed t (cond s None (Some (parent_of d)))) top) ∙ none in
          sym (is.found (parent_of d) ∙ was) ∙ ap is_some nowhere

  leaves_none : (d : Name) → reaches_parent (Commit d) came past ≡ true → placed t (above d) ≡ None → (a : Name) (h : ℕ)
      → Leaves (Commit d) None a h
  leaves_none d reaches none a h = depends5 a h ∙ ap (cond (has_name names a) (least_of came a h)) (of (same_name (parent_of d) a))
    where
      empty : (came : Sent) → is_none_or came (is_begun (parent_of d) past) ≡ true → least_of came d h ≡ None
      empty [] k = refl
      empty (x ∷ xs) k = absurd (clash k (no_parent d none))

      of : (b : Bool) → dependency_here a h here ≡ cond b (lesser (dependency_here a h here) (least_of came d h)) (dependency_here a h here)
      of true = sym (ap (lesser (dependency_here a h here)) (empty came reaches) ∙ lesser_none (dependency_here a h here))
      of false = refl

  leaves_some : (d : Name) (m : ℕ × Deps) → placed t (above d) ≡ Some m.0
      → ((h : ℕ) → tree.get m.1 h ≡ lesser (said (Depends h) None (row_at t (placed t (above d)))) (least_of came d h))
      → (a : Name) (h : ℕ) → Leaves (Commit d) (Some m) a h
  leaves_some d m at left a h = of (is_top d) refl
    where
      of : (s : Bool) → is_top d ≡ s → said (Depends h) None (row_of (changed_at (with_depends m.1) (Some m.0) t5) a)
          ≡ cond (has_name names a) (least_of came a h) (after_commit (Commit d) a (dependency_here a h here) (λ b. least_of came b h))
      of true top = let nowhere : placed t (above d) ≡ None = ap (λ s. placed t (cond s None (Some (parent_of d)))) top in absurd (cc)
      of false top =
          ap (λ p. said (Depends h) None (row_of (changed_at (with_depends m.1) p t5) a)) (sym (place5 p ∙ place2 p (old p was) ∙ there))
          ∙ ap (said (Depends h) None) (struck t5 i5 (with_depends m.1) (Some p) a)
          ∙ by (same_name p a) refl
        where
          p : Name
          p = parent_of d

          above_is : above d ≡ Some p
          above_is = ap (λ s. cond s None (Some (parent_of d))) top

          there : place_of t p ≡ Some m.0
          there = sym (ap (placed t) above_is) ∙ at

          was : is_begun p past ≡ true
          was = sym (is.found p) ∙ ap is_some there

          by : (b : Bool) → same_name p a ≡ b → said (Depends h) None (cond b (option_map (with_depends m.1) (row_of t5 a)) (row_of t5 a))
              ≡ cond (has_name names a) (least_of came a h)
              (cond b (lesser (dependency_here a h here) (least_of came d h)) (dependency_here a h here))
          by true same =
              let one : p ≡ a = same_is p a same in
              let began : is_begun a past ≡ true = subst (λ n. is_begun n past ≡ true) one was in
              said_there (Depends h) None (with_depends m.1) (row_of t5 a) (row5 a began) (λ d. tree.get m.1 h) (λ x. refl)
              ∙ left h
              ∙ ap (λ o. lesser (said (Depends h) None (row_at t (placed t o))) (least_of came d h)) above_is
              ∙ ap (λ o. lesser o (least_of came d h)) (ap (λ n. said (Depends h) None (row_of t n)) one ∙ is.depends a h)
              ∙ sym (ap (λ s. cond s (least_of came a h) (lesser (dependency_here a h here) (least_of came d h))) (old a began))
          by false differ = depends5 a h

  leaves : (s : Step) (m : Option (ℕ × Deps)) → IsMerged t s came m → reaches_parent s came past ≡ true → (a : Name) (h : ℕ)
      → Leaves s m a h
  leaves (Commit d) None left reaches a h = leaves_none d reaches left a h
  leaves (Commit d) (Some m) left reaches a h = leaves_some d m left.0 left.1 a h
  leaves (Crash k) m none reaches a h = ap (λ q. said (Depends h) None (row_of (merged q t5) a)) none ∙ depends5 a h
  leaves (Recover k) m none reaches a h = ap (λ q. said (Depends h) None (row_of (merged q t5) a)) none ∙ depends5 a h
  leaves (Top k) m none reaches a h = ap (λ q. said (Depends h) None (row_of (merged q t5) a)) none ∙ depends5 a h
  leaves (NestedTop b) m none reaches a h = ap (λ q. said (Depends h) None (row_of (merged q t5) a)) none ∙ depends5 a h
  leaves (Call b k) m none reaches a h = ap (λ q. said (Depends h) None (row_of (merged q t5) a)) none ∙ depends5 a h
  leaves (Arms b kinds) m none reaches a h = ap (λ q. said (Depends h) None (row_of (merged q t5) a)) none ∙ depends5 a h
  leaves (Op b x wanted) m none reaches a h = ap (λ q. said (Depends h) None (row_of (merged q t5) a)) none ∙ depends5 a h
  leaves (Close b) m none reaches a h = ap (λ q. said (Depends h) None (row_of (merged q t5) a)) none ∙ depends5 a h
  leaves (Prepare k b) m none reaches a h = ap (λ q. said (Depends h) None (row_of (merged q t5) a)) none ∙ depends5 a h
  leaves (Decide b) m none reaches a h = ap (λ q. said (Depends h) None (row_of (merged q t5) a)) none ∙ depends5 a h
  leaves (Abort b) m none reaches a h = ap (λ q. said (Depends h) None (row_of (merged q t5) a)) none ∙ depends5 a h
  leaves (Tell k b) m none reaches a h = ap (λ q. said (Depends h) None (row_of (merged q t5) a)) none ∙ depends5 a h

  depends_is : (a : Name) (h : ℕ) → said (Depends h) None (row_of t7 a) ≡ dependency_here a h (c ∷ here)
  depends_is a h = ap (said (Depends h) None) (row_turned made.turn t6 a) ∙ leaves step made.merged planned.merged agrees.reaches a h

  -- ---- counts

  abbrev Unended : Row → ℕ
  Unended = λ row. row.unended

  -- who is left by an action that ends, if it had not
  abbrev leaver : Option Name → Option Name
  leaver None = None
  leaver (Some d) = cond (is_ended d past) None (maker_of d past)

  left_there : left ≡ placed t3 (leaver (ended_in step))
  left_there = ap (λ at. said maker_left None (row_at t2 at)) ended_there ∙ of (ended_in step) ends_old ∙ sym (placed_changed with_ended made.ended t2 (leaver (ended_in step)))
    where
      parts : (r : Option Row) → said maker_left None r ≡ cond (said (λ row. row.ended) false r) None (said (λ row. row.maker) None r)
      parts None = refl
      parts (Some x) = refl

      chosen : (d : Name) (b : Bool) → cond b None (placed t (maker_of d past)) ≡ placed t2 (cond b None (maker_of d past))
      chosen d true = refl
      chosen d false = still (maker_of d past) (old_maker d)

      of : (o : Option Name) → ((d : Name) → o ≡ Some d → has_name names d ≡ false)
          → said maker_left None (row_at t2 (placed t2 o)) ≡ placed t2 (leaver o)
      of None is_old = refl
      of (Some d) is_old =
          parts (row_of t2 d)
          ∙ (λ i. cond (ended2 d i) None (maker2 d i))
          ∙ ap (λ b. cond (is_ended d past) None (cond b (placed t (maker_in step)) (placed t (maker_of d past)))) (is_old d refl)
          ∙ chosen d (is_ended d past)

  count_there : made.birth.maker ≡ placed t (maker_in step)
  count_there = planned.maker

  unended2 : (a : Name) → is_begun a past ≡ true → said Unended 0 (row_of t2 a)
      ≡ said Unended 0 (row_of t a) + cond {A = ℕ} (is_exactly (maker_in step) a) (length rows) 0
  unended2 a was =
      begun_or Unended 0 0 (said Unended 0 (row_of t1 a)) a (λ x found. (born a x found).unended) refl
      ∙ ap (λ b. cond {A = ℕ} b 0 (said Unended 0 (row_of t1 a))) (old a was)
      ∙ ap (λ at. said Unended 0 (row_of (changed_at (more_by (length rows)) at t) a)) count_there
      ∙ ap (said Unended 0) (struck t is.indexed (more_by (length rows)) (maker_in step) a)
      ∙ of (is_exactly (maker_in step) a)
    where
      of : (b : Bool) → said Unended 0 (cond b (option_map (more_by (length rows)) (row_of t a)) (row_of t a))
          ≡ said Unended 0 (row_of t a) + cond {A = ℕ} b (length rows) 0
      of true = said_there Unended 0 (more_by (length rows)) (row_of t a) (row0 a was) (λ n. n + length rows) (λ x. refl)
      of false = omega arith

  unended7 : (a : Name) → said Unended 0 (row_of t7 a)
      ≡ said Unended 0 (row_of t2 a) - cond {A = ℕ} (is_exactly (leaver (ended_in step)) a) 1 0
  unended7 a =
      later Unended 0 (λ x. refl) (λ d x. refl) a
      ∙ ap (λ at. said Unended 0 (row_of (changed_at one_less at t3) a)) left_there
      ∙ ap (said Unended 0) (struck t3 i3 one_less (leaver (ended_in step)) a)
      ∙ of (is_exactly (leaver (ended_in step)) a)
      ∙ ap (λ n. n - cond {A = ℕ} (is_exactly (leaver (ended_in step)) a) 1 0) (kept Unended 0 with_ended made.ended t2 (λ x. refl) a)
    where
      less : (r : Option Row) → said Unended 0 (option_map one_less r) ≡ said Unended 0 r - 1
      less None = refl
      less (Some x) = refl

      of : (b : Bool) → said Unended 0 (cond b (option_map one_less (row_of t3 a)) (row_of t3 a)) ≡ said Unended 0 (row_of t3 a) - cond {A = ℕ} b 1 0
      of true = less (row_of t3 a)
      of false = omega arith

  abbrev unended_before : Name → Bool
  unended_before = λ b. not (is_ended b past)

  abbrev unended_now : Name → Bool
  unended_now = λ b. not (is_ended b (c.event ∷ past))

  -- what begins has not ended
  new_open : (b : Name) → has_name names b ≡ true → unended_now b ≡ true
  new_open b new = ap not (ended_after c.event past b ∙ or_from _ _ (of (is_exactly (ended_in step) b) refl) not_before)
    where
      of : (s : Bool) → is_exactly (ended_in step) b ≡ s → s ≡ false
      of true ends = sym new ∙ ends_old b (exactly (ended_in step) b ends)
      of false k = refl

      not_before : is_ended b past ≡ false
      not_before = sym (is.ended b) ∙ ap (said (λ row. row.ended) false) (no_row b (not_begun b new))

  -- of what an action made the one that ends counts no more
  fewer_open : (a : Name) → count_by unended_now (made_by a past) + cond {A = ℕ} (is_exactly (leaver (ended_in step)) a) 1 0
      ≡ count_by unended_before (made_by a past)
  fewer_open a = of (ended_in step) (λ b. ended_after c.event past b)
    where
      same : ((b : Name) → is_ended b (c.event ∷ past) ≡ is_ended b past) → count_by unended_now (made_by a past) + 0 ≡ count_by unended_before (made_by a past)
      same k = let e : count_by unended_now (made_by a past) ≡ count_by unended_before (made_by a past) = (λ i. count_by (λ b. not (k b i)) (made_by a past)) in omega arith

      of : (o : Option Name) → ((b : Name) → is_ended b (c.event ∷ past) ≡ (is_exactly o b || is_ended b past))
          → count_by unended_now (made_by a past) + cond {A = ℕ} (is_exactly (leaver o) a) 1 0 ≡ count_by unended_before (made_by a past)
      of None ends = same ends
      of (Some d) ends = by (is_ended d past) refl
        where
          over : is_ended d past ≡ true → (b : Name) (s : Bool) → same_name d b ≡ s → (s || is_ended b past) ≡ is_ended b past
          over k b true one = sym (subst (λ n. is_ended n past ≡ true) (same_is d b one) k)
          over k b false other = refl

          by : (s : Bool) → is_ended d past ≡ s
              → count_by unended_now (made_by a past) + cond {A = ℕ} (is_exactly (cond s None (maker_of d past)) a) 1 0 ≡ count_by unended_before (made_by a past)
          by true k = same (λ b. ends b ∙ over k b (same_name d b) refl)
          by false k =
              let made = is.events.made d a in
              let less = fewer d (λ b. is_ended b past) (λ b. is_ended b (c.event ∷ past)) k ends (made_by a past) in
              omega arith

  many : length names ≡ length rows
  many = sym (ap length planned.begun.names) ∙ length-map rows (λ (x : Name × Row). x.0)

  -- what an action made, once the names begin
  counted : (a : Name) → count_by unended_now (made_by a (events_here (c ∷ here)))
      ≡ cond {A = ℕ} (is_exactly (maker_in step) a) (length rows) 0 + count_by unended_now (made_by a past)
  counted a =
      count-append unended_now (cond (step_makes step a) names []) (made_by a past)
      ∙ ap (λ n. n + count_by unended_now (made_by a past)) (of (step_makes step a))
    where
      of : (b : Bool) → count_by unended_now (cond b names []) ≡ cond {A = ℕ} b (length rows) 0
      of true = all_counted unended_now names new_open ∙ many
      of false = refl

  unended_is : (a : Name) → is_begun a (events_here (c ∷ here)) ≡ true
      → said Unended 0 (row_of t7 a) ≡ count_by unended_now (made_by a (events_here (c ∷ here)))
  unended_is a was = of (has_name names a) refl
    where
      of : (b : Bool) → has_name names a ≡ b → said Unended 0 (row_of t7 a) ≡ count_by unended_now (made_by a (events_here (c ∷ here)))
      of true new =
          let none : count_by unended_now (made_by a past) ≡ 0 = ap (count_by unended_now) (is.events.new a (one_is_new names past agrees.new a new)) in
          let fresh : said Unended 0 (row_of t2 a) ≡ 0 =
          begun_or Unended 0 0 (said Unended 0 (row_of t1 a)) a (λ x found. (born a x found).unended) refl
          ∙ ap (λ b. cond {A = ℕ} b 0 (said Unended 0 (row_of t1 a))) new in
          let nobody : cond {A = ℕ} (is_exactly (maker_in step) a) (length rows) 0 ≡ 0 = makes_none (is_exactly (maker_in step) a) refl in
          omega (arith, unended7 a, counted a)
        where
          makes_none : (s : Bool) → is_exactly (maker_in step) a ≡ s → cond {A = ℕ} s (length rows) 0 ≡ 0
          makes_none true makes = absurd (clash new (new_maker a (exactly (maker_in step) a makes)))
          makes_none false k = refl
      of false k =
          let began : is_begun a past ≡ true = sym (ap (λ b. b || is_begun a past) k) ∙ sym (has_name-append names (begun past) a) ∙ was in
          let before : said Unended 0 (row_of t a) ≡ count_by unended_before (made_by a past) = is.unended a began in
          omega (arith, unended7 a, unended2 a began, counted a, fewer_open a)

  -- ---- the guardian

  standing6 : standing t6 ≡ standing t
  standing6 =
      standing_merged made.merged t5 ∙ standing_changed with_closed made.closed t4 ∙ standing_ended made.ended t2
      ∙ standing_all rows t1 ∙ standing_changed (more_by (length rows)) made.birth.maker t

  crashes_is : t7.crashes ≡ crashes g (events_here (c ∷ here))
  crashes_is =
      ap (λ turn. (turned turn t6).crashes) planned.turn
      ∙ turn_crashes g step t6 agrees.own
      ∙ ap (λ n. cond {A = ℕ} (step_crashes step g) (n + 1) n) (ap (λ (s : ℕ × ℕ × Bool). s.1) standing6 ∙ is.crashes)
      ∙ of (step_crashes step g)
    where
      of : (b : Bool) → cond {A = ℕ} b (crashes g past + 1) (crashes g past)
          ≡ length (cond b (c.event ∷ filter (λ e. step_crashes e.step g) past) (filter (λ e. step_crashes e.step g) past))
      of true = omega arith
      of false = refl

  down_is : t7.down ≡ is_down g (events_here (c ∷ here))
  down_is =
      ap (λ turn. (turned turn t6).down) planned.turn
      ∙ turn_down g step t6 agrees.own
      ∙ ap (λ b. step_crashes step g || (not (step_recovers step g) && b)) (ap (λ (s : ℕ × ℕ × Bool). s.2) standing6 ∙ is.down)

  found_is : (a : Name) → is_some (place_of t7 a) ≡ is_begun a (events_here (c ∷ here))
  found_is a =
      ap is_some (place7 a)
      ∙ found_all rows t1 a
      ∙ (λ i. has a i || (ap is_some (place_changed (more_by (length rows)) made.birth.maker t a) ∙ is.found a) i)
      ∙ sym (has_name-append names (begun past) a)

  -- The roster with the entry is that of the history with the event.
  pub enters : IsRoster g (c ∷ here) (entered made t)
  enters = record {
    events = more_events g c.event past is.events agrees.new agrees.made agrees.own named;
    guardian = guardian_turned made.turn t6 ∙ ap (λ (s : ℕ × ℕ × Bool). s.0) standing6 ∙ is.guardian;
    crashes = crashes_is;
    down = down_is;
    indexed = i7;
    found = found_is;
    home = home_is;
    life = life_is;
    maker = maker_is;
    ended = ended_is;
    closed = closed_is;
    depends = depends_is;
    unended = unended_is;
  }
