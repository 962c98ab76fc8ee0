-- Rows that are planned one after another.
use Rattle.std.proofs.Common.{Bool, List, [], None, Option, Some, ap, arith, cond, false, get_or, length, map, refl, subst, sym, true, ℕ, ◌++◌, ◌+◌, ◌<◌, ◌^◌, ◌∙◌, ◌∷◌, ◌≡◌, ◌≤◌, ◌↔◌}
use Rattle.std.specs.FinMap as tree
use Rattle.std.specs.List.{AllByRecursion}
use Rattle.std.specs.Option.{option_and_then}
use Rattle.std.specs.Prelude.{IfSome, IsNone, IsTrue, MatchOption}
use Rattle.action_names.specs.Deps.{Deps}
use Rattle.std.proofs.lemmas.List.{get_or_append_left, length-append, map-append}
use Rattle.action_names.specs.Names.{IsName, Name, is_top, parent_of}
use Rattle.places.specs.Placed.{AreMore, place_in}
use Rattle.places.specs.Rows as by_place
use Rattle.places.proofs.Looking.{place_at, place_stays}
use Rattle.places.proofs.Standing.{row_more, row_same}
use Rattle.roster.specs.Rosters.{IsRoster}
use Rattle.roster.specs.declared.roster.Roster.{Roster}
use Rattle.run_model.specs.LocalReadings.{LocalEvent, least_of}
use Rattle.roster.proofs.Added.{added_last}
use Rattle.guardian_laws.specs.Sent.{Sent}
use Rattle.holders.specs.Held.{names_of}
use Rattle.run_model.specs.declared.history.Event.{Event}
use Rattle.run_model.specs.declared.step.Step.{Step}
use Rattle.run_model.specs.declared.step.Step.TheVariants.{Abort, Arms, Call, Close, Commit, Crash, Decide, NestedTop, Op, Prepare, Recover, Tell, Top}
use Rattle.run_model.specs.Actions.{home_in, maker_in}
use Rattle.roster.specs.Entries.{AreBegun, AreBorn, CanCount, HavePlaces, IsBorn}
use Rattle.roster.specs.Steps.{above}
use Rattle.roster.specs.Tables.{IsKept, Table, added, all_added, begun_of, born_row, home_at, life_in, placed, row_at, said, table}
use Rattle.roster.specs.declared.entry.Birth.{Birth}
use Rattle.roster.specs.declared.entry.Row.{Row}

-- ---- parents

pub none_above : (a : Name) (p : Option Name) → (IsNone p ↔ IsTrue (is_top a)) → p ≡ None → above a ≡ None
none_above a None t e = ap (λ s. cond s None (Some (parent_of a))) (t.0 refl)
none_above a (Some b) t e = absurd (cc)

pub some_above : (a : Name) (p : Option Name) (b : Name) → (IsNone p ↔ IsTrue (is_top a)) → IfSome p (λ q. IsName q × (q ≡ parent_of a)) → p ≡ Some b
    → above a ≡ Some b
some_above a None b t q e = absurd (cc)
some_above a (Some d) b t q e = of (is_top a) refl
  where
    of : (s : Bool) → is_top a ≡ s → cond s None (Some (parent_of a)) ≡ Some b
    of true top = let no = t.1 top in absurd (cc)
    of false top = sym (ap Some q.1) ∙ e

-- ---- counting

-- the row at the place can count more, if there is one
pub can_count : (t : Table) (at : Option ℕ) (n : ℕ) (r : Option Row) → r ≡ row_at t at → MatchOption r (Unit {0}) (λ row. row.unended + n < 2 ^ 64)
    → CanCount t.rows at n
can_count t None n r e fits = tt
can_count t (Some i) n r e fits = subst (λ o. MatchOption o (Unit {0}) (λ row. row.unended + n < 2 ^ 64)) e fits

-- ---- rows by place

-- where there is no row, no name has one
pub row_none : {V : Type 0} (names : List Name) (a : Name) → by_place.row_of {V = V} names [] a ≡ None
row_none {V} names a = of (place_in names a)
  where
    of : (o : Option ℕ) → option_and_then (λ i. by_place.row_at {V = V} [] i) o ≡ None
    of None = refl
    of (Some i) = refl

pub all_last : {X : Type 0} (P : X → Type 0) (xs : List X) (x : X) → AllByRecursion P xs → P x → AllByRecursion P (xs ++ x ∷ [])
all_last P [] x all last = (last, tt)
all_last P (y ∷ xs) x all last = (all.0, all_last P xs x all.1 last)

pub all_parts : {X : Type 0} (P : X → Type 0) (xs : List X) (x : X) → AllByRecursion P (xs ++ x ∷ []) → AllByRecursion P xs × P x
all_parts P [] x all = (tt, all.0)
all_parts P (y ∷ xs) x all = let rest = all_parts P xs x all.1 in ((all.0, rest.0), rest.1)

-- there is room for what is left, and for the last
pub fits_rest : (room new : ℕ) (rest items : List (ℕ × Deps)) (x : ℕ × Deps) → items ≡ rest ++ x ∷ [] → new ≡ room
    → AllByRecursion (λ (y : ℕ × Deps). y.0 < room) items → AllByRecursion (λ (y : ℕ × Deps). y.0 < new) rest × (x.0 < room)
fits_rest room new rest items x left same fits =
    let parts = all_parts (λ (y : ℕ × Deps). y.0 < room) rest x (subst (AllByRecursion (λ (y : ℕ × Deps). y.0 < room)) left fits) in
    (subst (λ n. AllByRecursion (λ (y : ℕ × Deps). y.0 < n) rest) (sym same) parts.0, parts.1)

-- what is left has places, and the last
pub have_rest : (names : List Name) (rest items : List (ℕ × Deps)) (x : ℕ × Deps) → items ≡ rest ++ x ∷ [] → HavePlaces names items
    → HavePlaces names rest × (place_in names (get_or names x.0 []) ≡ Some x.0)
have_rest names rest items x left have =
    all_parts (λ (y : ℕ × Deps). place_in names (get_or names y.0 []) ≡ Some y.0) rest x (subst (HavePlaces names) left have)

-- with what is left the table is the same, once the last was added
pub same_added : (names : List Name) (birth : Birth) (rest items : List (ℕ × Deps)) (x : ℕ × Deps) (old new whole : Table)
    → items ≡ rest ++ x ∷ [] → new ≡ added (get_or names x.0 [], born_row birth x.1) old → all_added (begun_of names birth items) old ≡ whole
    → all_added (begun_of names birth rest) new ≡ whole
same_added names birth rest items x old new whole left adds same =
    ap (all_added (begun_of names birth rest)) adds
    ∙ sym (added_last (begun_of names birth rest) (get_or names x.0 [], born_row birth x.1) old)
    ∙ ap (λ xs. all_added xs old) (sym (map-append (λ (y : ℕ × Deps). (get_or names y.0 [], born_row birth y.1)) rest (x ∷ [])))
    ∙ ap (λ xs. all_added (begun_of names birth xs) old) (sym left)
    ∙ same

-- there is room for each, where there is room for each place
pub have_fits : (names : List Name) (room : ℕ) (xs : List (ℕ × Deps)) → length names ≤ room → HavePlaces names xs
    → AllByRecursion (λ (x : ℕ × Deps). x.0 < room) xs
have_fits names room [] enough have = tt
have_fits names room (x ∷ xs) enough have =
    (omega (arith, enough, (place_at names (get_or names x.0 []) x.0 have.0).0), have_fits names room xs enough have.1)

-- ---- with more names

module _ (old new : List Name) (more : AreMore old new) where
  -- a place has its name still
  name_more : (i : ℕ) → place_in old (get_or old i []) ≡ Some i → get_or new i [] ≡ get_or old i []
  name_more i at =
      ap (λ ns. get_or ns i []) more.behind ∙ get_or_append_left old more.added [] i (place_at old (get_or old i []) i at).0

  pub have_more : (xs : List (ℕ × Deps)) → HavePlaces old xs → HavePlaces new xs
  have_more [] have = tt
  have_more (x ∷ xs) have = (
    ap (place_in new) (name_more x.0 have.0)
        ∙ ap (λ ns. place_in ns (get_or old x.0 [])) more.behind
        ∙ place_stays old more.added (get_or old x.0 []) x.0 have.0,
    have_more xs have.1,
  )

  pub names_more : (xs : List (ℕ × Deps)) → HavePlaces old xs
      → map (λ (x : ℕ × Deps). get_or new x.0 []) xs ≡ map (λ (x : ℕ × Deps). get_or old x.0 []) xs
  names_more [] have = refl
  names_more (x ∷ xs) have = λ i. name_more x.0 have.0 i ∷ names_more xs have.1 i

  -- what was said by the names is said still
  pub all_more : (P : Name → Deps → Type 0) (xs : List (ℕ × Deps)) → HavePlaces old xs
      → AllByRecursion (λ (x : ℕ × Deps). P (get_or old x.0 []) x.1) xs → AllByRecursion (λ (x : ℕ × Deps). P (get_or new x.0 []) x.1) xs
  all_more P [] have all = tt
  all_more P (x ∷ xs) have all = (subst (λ a. P a x.1) (sym (name_more x.0 have.0)) all.0, all_more P xs have.1 all.1)

-- ---- what begins

-- its home, by the place of its maker
pub home_made : (t : Table) (s : Step) (maker : Option ℕ) → maker ≡ placed t (maker_in s)
    → home_in s (λ a. said (λ row. row.home) 0 (row_at t maker)) ≡ home_in s (λ a. home_at t a)
home_made t (NestedTop b) maker at = ap (λ p. said (λ row. row.home) 0 (row_at t p)) at
home_made t (Arms b kinds) maker at = ap (λ p. said (λ row. row.home) 0 (row_at t p)) at
home_made t (Top h) maker at = refl
home_made t (Call b h) maker at = refl
home_made t (Op b x wanted) maker at = refl
home_made t (Commit b) maker at = refl
home_made t (Close b) maker at = refl
home_made t (Prepare h b) maker at = refl
home_made t (Decide b) maker at = refl
home_made t (Abort b) maker at = refl
home_made t (Tell h b) maker at = refl
home_made t (Crash h) maker at = refl
home_made t (Recover h) maker at = refl

-- The rows of what begins are born so.
module _ (t : Table) (e : Event) (came : Sent) (birth : Birth) (home : birth.home ≡ home_in e.step (λ a. home_at t a))
    (life : birth.life ≡ life_in t birth.home) (maker : birth.maker ≡ placed t (maker_in e.step)) where
  names_born : (xs : List (ℕ × Deps)) → names_of (begun_of t.names birth xs) ≡ map (λ (x : ℕ × Deps). get_or t.names x.0 []) xs
  names_born [] = refl
  names_born (x ∷ xs) = ap (λ ns. get_or t.names x.0 [] ∷ ns) (names_born xs)

  named_born : (xs : List (ℕ × Deps)) → AllByRecursion (λ (x : ℕ × Deps). IsName (get_or t.names x.0 [])) xs
      → AllByRecursion (λ (x : Name × Row). IsName x.0) (begun_of t.names birth xs)
  named_born [] all = tt
  named_born (x ∷ xs) all = (all.0, named_born xs all.1)

  rows_born : (xs : List (ℕ × Deps)) → AllByRecursion (λ (x : ℕ × Deps). (h : ℕ) → tree.get x.1 h ≡ least_of came (get_or t.names x.0 []) h) xs
      → AllByRecursion (λ (x : Name × Row). IsBorn t e.step came x.0 x.1) (begun_of t.names birth xs)
  rows_born [] all = tt
  rows_born (x ∷ xs) all = (
    record { home = home; life = life; maker = maker; depends = all.0; ended = refl; closed = refl; unended = refl },
    rows_born xs all.1,
  )

  pub are_born : (xs : List (ℕ × Deps)) → AreBegun t.names e came xs → AreBorn t e came (begun_of t.names birth xs)
  are_born xs are = record { names = names_born xs ∙ are.names; named = named_born xs are.named; rows = rows_born xs are.depends }

-- ---- the same roster

-- the table of a roster that has kept its rows and places is that of before, with more names and other room
pub table_kept : (old new : List Name) (before after : Roster) → AreMore old new → IsKept new before after → length before.at ≤ length old
    → table new after ≡ record (table old before) { names = new; room = length after.at }
table_kept old new before after more kept fits = λ i. record {
  guardian = kept.guardian i;
  crashes = kept.crashes i;
  down = kept.down i;
  rows = kept.rows i;
  places = λ a. same a i;
  names = new;
  room = length after.at;
}
  where
    same : (a : Name) → by_place.row_of new after.at a ≡ by_place.row_of old before.at a
    same a =
        row_same new before.at after.at kept.places a
        ∙ ap (λ ns. by_place.row_of ns before.at a) more.behind
        ∙ row_more old more.added before.at fits a

-- it says what it said
pub roster_more : (g : ℕ) (here : List LocalEvent) (t : Table) (names : List Name) (room : ℕ) → room ≤ length names → IsRoster g here t
    → IsRoster g here (record t { names = names; room = room })
roster_more g here t names room fits is = record {
  events = is.events;
  guardian = is.guardian;
  crashes = is.crashes;
  down = is.down;
  indexed = record { within = is.indexed.within; apart = is.indexed.apart; room = fits };
  found = is.found;
  home = is.home;
  life = is.life;
  maker = is.maker;
  ended = is.ended;
  closed = is.closed;
  depends = is.depends;
  unended = is.unended;
}

-- so the roster is that of the same history
pub roster_kept : (g : ℕ) (here : List LocalEvent) (old new : List Name) (before after : Roster) → AreMore old new → IsKept new before after
    → IsRoster g here (table old before) → IsRoster g here (table new after)
roster_kept g here old new before after more kept is =
    let longer : length new ≡ length old + length more.added = ap length more.behind ∙ length-append old more.added in
    subst (IsRoster g here) (sym (table_kept old new before after more kept is.indexed.room))
    (roster_more g here (table old before) new (length after.at) (omega (arith, kept.within, is.indexed.room, longer)) is)
