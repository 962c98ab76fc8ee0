-- What the tables hold after each statement.
use Rattle.std.proofs.Common.{◌≡◌, ℕ, ◌≤◌, ℤ, pos, List, [], ◌∷◌, ◌++◌, codes, Bool, true, false, cond, None, Some, Option, refl, sym, ap, subst, ◌∙◌, nat_cmp, true≢false, arith, Ordering, Less, Equal, Greater}
use Rattle.std.specs.Ordering.{is_eq, is_lt, eq_by_cmp, ordering_reverse}
use Rattle.std.specs.Cmp.{nat_cmp_total}
use Rattle.std.specs.FinMap as map
use Rattle.std.specs.FinMap.Entries.{below_all, find-append}
use Rattle.std.specs.FinSet as set
use Rattle.std.specs.List.{AllByRecursion}
use Rattle.std.proofs.Common.{map as each, append_assoc, append-nil}
use Rattle.std.proofs.lemmas.Bool.{and_parts, and_from}
use Rattle.sqlite.specs.declared.types.Value.TheVariants.{Null, Int, Text}
use Rattle.sqlite.specs.Tree.{Trees}
use Rattle.sqlite.specs.Edit.{id_in}
use Rattle.sqlite_trees.specs.Tree.{rowid}
use Rattle.sqlite_rules.specs.Edit.{next_rowid}
use Rattle.sqlite_rules.specs.Lists.{Has}
use Rattle.sqlite_catalog.specs.Listing.{IsSound}
use Rattle.values.specs.Totals.{IsCounter}
use Rattle.atomic_types.specs.declared.part.Part.{Part}
use Rattle.atomic_types.specs.declared.part.Part.TheVariants.{Value, Delta}
use Rattle.store_tables.specs.PartTexts.{IsStoredPart, part_text}
use Rattle.stable_store.specs.Stored.{Stored, Record, after_decide, after_discard}
use Rattle.store_tables.specs.Tables.{stable_schema, meta}
use Rattle.store_tables.specs.Rows.{HasRowids}
use Rattle.store_tables.proofs.Keys.{tied_id}
use Rattle.store_tables.proofs.PartRows.{ReplacesRow, PutsRow, InTurn, made_of}
use Rattle.store_tables.proofs.Decides.{decided_table, pair_row, number_row, home_row, value_row, delta_row, ReplacesPart, PutsValue}
use Rattle.store_tables.proofs.Placed.{placed_put, placed_left, ints}
use Rattle.store_tables.proofs.Discards.{Discards}
use Rattle.store_tables.proofs.Forgets.{Forgets}
use Rattle.store_tables.specs.Listed.{Lists}
use Rattle.store_tables.specs.Shown.{ShowsPart, ShowsHome, ShowsRecord, ShowsTop, ShowsNumber, IsValueText, IsAddedBy, IsValue, IsDelta}
use Rattle.store_tables.specs.Parts.{HasBase, HasHome, HasPart, IsDecided}
use Rattle.store_tables.specs.Holds.{IsStore, IsLaidOut, Holds, tables_of, numbers, greatest_next}
use Rattle.store_tables.specs.Grown.{Adds, HaveSameHomes}
use Rattle.store_tables.specs.Changes.{with_count, with_next, with_part, with_base, all_put, with_record, with_none_decided}
use Rattle.store_tables.proofs.Numbers.{itself}
use Rattle.store_tables.proofs.Listed.{same, renamed, grown, taken}
use Rattle.store_tables.proofs.Tables.{Others, same_numbers, same_base, same_homes, same_values, same_decided, same_deltas, placed_after, InRange, number_of, decided_put, base_put, count_put, next_put}
use Rattle.store_tables.proofs.Records.{home_adds, part_stays, part_was, part_adds, homes_same, still_rising, homes_to, homes_back, kind_adds, kind_stays, kind_was, home_taken, parts_taken, rising_left}

-- ---- a store, and what its rows alone are

laid : (db : Trees) (c : Stored) → IsStore db c → IsLaidOut db c
laid db c was = (was.placed, was.holds)

sound_store : (db : Trees) (c : Stored) → IsSound stable_schema db → IsLaidOut db c → IsStore db c
sound_store db c sound was = record { sound = sound; placed = was.0; holds = was.1 }

-- an object with the text of its part
abbrev pub spelled : ℕ × Part → ℕ × List ℕ
spelled e = (e.0, part_text e.1)

-- ---- the statements that replace a row

pub after_decides : (n : ℕ) (db after : Trees) (c : Stored) → InRange n → IsStore db c → IsSound stable_schema after
    → ReplacesRow decided_table (Int (pos n) ∷ Null ∷ []) (Int (pos n) ∷ Null ∷ []) db after → IsStore after (after_decide n c)
after_decides n db after c fits was sound made =
    let others = made.puts.others in
    let h = was.holds in
    let placed : HasRowids (db 6) = was.placed.1.1.1.1.0 in
    record {
      sound = sound;
      placed = placed_after 6 db after others (subst HasRowids (sym made.puts.rows) (placed_put (Int (pos n) ∷ Null ∷ []) (db 6) made.gone (pos n) refl made.puts.free placed)) was.placed;
      holds = record {
        numbered = same ShowsNumber (db 0) (after 0) (Has (numbers c.count c.next_top)) (same_numbers 6 db after others (λ e. omega (arith, e))) h.numbered;
        next_low = h.next_low;
        next_high = h.next_high;
        base = same (ShowsPart 1) (db 2) (after 2) (HasBase c.base) (same_base 6 db after others (λ e. omega (arith, e))) h.base;
        homes = same (ShowsHome 1) (db 3) (after 3) (HasHome c.prepared) (same_homes 6 db after others (λ e. omega (arith, e))) h.homes;
        values = same (ShowsRecord IsValueText 1) (db 4) (after 4) _ (same_values 6 db after others (λ e. omega (arith, e))) h.values;
        deltas = same (ShowsRecord IsAddedBy 1) (db 7) (after 7) _ (same_deltas 6 db after others (λ e. omega (arith, e))) h.deltas;
        rising = h.rising;
        decided = decided_put n db after c.decided fits placed made h.decided;
      };
    }

part_laid : (n : ℕ) (p : Part) (db after : Trees) (c : Stored) → InRange n → IsStoredPart p → IsLaidOut db c → ReplacesPart (n, part_text p) db after
    → IsLaidOut after (with_part n p c)
part_laid n p db after c fits stored was made =
    let others = made.puts.others in
    let h = was.1 in
    let placed : HasRowids (db 2) = was.0.1.0 in (
      placed_after 2 db after others (subst HasRowids (sym made.puts.rows) (placed_put (pair_row n (part_text p)) (db 2) made.gone (pos n) refl made.puts.free placed)) was.0,
      record {
        numbered = same ShowsNumber (db 0) (after 0) (Has (numbers c.count c.next_top)) (same_numbers 2 db after others (λ e. omega (arith, e))) h.numbered;
        next_low = h.next_low;
        next_high = h.next_high;
        base = base_put n p db after c.base fits stored placed made h.base;
        homes = same (ShowsHome 1) (db 3) (after 3) (HasHome c.prepared) (same_homes 2 db after others (λ e. omega (arith, e))) h.homes;
        values = same (ShowsRecord IsValueText 1) (db 4) (after 4) _ (same_values 2 db after others (λ e. omega (arith, e))) h.values;
        deltas = same (ShowsRecord IsAddedBy 1) (db 7) (after 7) _ (same_deltas 2 db after others (λ e. omega (arith, e))) h.deltas;
        rising = h.rising;
        decided = same ShowsTop (db 6) (after 6) (IsDecided c.decided) (same_decided 2 db after others (λ e. omega (arith, e))) h.decided;
      },
    )

-- a part that the base may have
abbrev pub FitsBase : ℕ × Part → Type 0
FitsBase e = InRange e.0 × IsStoredPart e.1

parts_laid : (es : List (ℕ × Part)) (db after : Trees) (c : Stored) → AllByRecursion FitsBase es → IsLaidOut db c
    → InTurn (λ e. ReplacesPart (spelled e)) es db after → IsLaidOut after (with_base (all_put es c.base) c)
parts_laid [] db after c fit was made = subst (λ t. IsLaidOut t c) (sym made) was
parts_laid (e ∷ es) db after c fit was made =
    parts_laid es made.0 after (with_part e.0 e.1 c) fit.1 (part_laid e.0 e.1 db made.0 c fit.0.0 fit.0.1 was made.1) made.2

pub after_puts_base : (es : List (ℕ × Part)) (db after : Trees) (c : Stored) → AllByRecursion FitsBase es → IsStore db c
    → IsSound stable_schema after → InTurn ReplacesPart (each spelled es) db after → IsStore after (with_base (all_put es c.base) c)
after_puts_base es db after c fit was sound made =
    sound_store after (with_base (all_put es c.base) c) sound
    (parts_laid es db after c fit (laid db c was) (made_of ReplacesPart spelled es db after made))

-- one of the three numbers
module _ (db after : Trees) (c : Stored) (count next : ℕ) (others : Others 0 db after) (was : IsStore db c) (sound : IsSound stable_schema after) (placed : HasRowids (after 0))
    (listed : Lists ShowsNumber (after 0) (Has (numbers count next))) (low : 1 ≤ next) (high : next ≤ greatest_next) where
  pub after_number : IsStore after (record c { count = count; next_top = next })
  after_number = let h = was.holds in record {
    sound = sound;
    placed = placed_after 0 db after others placed was.placed;
    holds = record {
      numbered = listed;
      next_low = low;
      next_high = high;
      base = same (ShowsPart 1) (db 2) (after 2) (HasBase c.base) (same_base 0 db after others (λ e. omega (arith, e))) h.base;
      homes = same (ShowsHome 1) (db 3) (after 3) (HasHome c.prepared) (same_homes 0 db after others (λ e. omega (arith, e))) h.homes;
      values = same (ShowsRecord IsValueText 1) (db 4) (after 4) _ (same_values 0 db after others (λ e. omega (arith, e))) h.values;
      deltas = same (ShowsRecord IsAddedBy 1) (db 7) (after 7) _ (same_deltas 0 db after others (λ e. omega (arith, e))) h.deltas;
      rising = h.rising;
      decided = same ShowsTop (db 6) (after 6) (IsDecided c.decided) (same_decided 0 db after others (λ e. omega (arith, e))) h.decided;
    };
  }

pub after_counts : (n : ℕ) (db after : Trees) (c : Stored) → IsStore db c → IsSound stable_schema after
    → ReplacesRow meta (number_row 2 (codes "count") (pos n)) (number_row 2 (codes "count") (pos n)) db after → IsStore after (with_count n c)
after_counts n db after c was sound made = after_number db after c n c.next_top made.puts.others was sound
    (subst HasRowids (sym made.puts.rows) (placed_put (number_row 2 (codes "count") (pos n)) (db 0) made.gone (pos 2) refl made.puts.free was.placed.0))
    (count_put c.count c.next_top n db after made was.holds.numbered) was.holds.next_low was.holds.next_high

pub after_raises : (n : ℕ) (db after : Trees) (c : Stored) → 1 ≤ n → n ≤ greatest_next → IsStore db c → IsSound stable_schema after
    → ReplacesRow meta (number_row 3 (codes "next_top") (pos n)) (number_row 3 (codes "next_top") (pos n)) db after → IsStore after (with_next n c)
after_raises n db after c low high was sound made = after_number db after c c.count n made.puts.others was sound
    (subst HasRowids (sym made.puts.rows) (placed_put (number_row 3 (codes "next_top") (pos n)) (db 0) made.gone (pos 3) refl made.puts.free was.placed.0))
    (next_put c.count c.next_top n db after made was.holds.numbered) low high

-- ---- the statements on records

pub after_puts_home : (n home : ℕ) (db after : Trees) (c : Stored) → InRange n → InRange home → map.get c.prepared n ≡ None → IsStore db c
    → IsSound stable_schema after → PutsRow 3 (home_row n home) [] db after
    → IsStore after (with_record n home [] c)
after_puts_home n home db after c fits home_fits none was sound puts =
    let others = puts.others in
    let h = was.holds in
    let r : Record = record { home = home; parts = [] } in
    let now = map.insert c.prepared n r in
    let is = λ (t : ℕ). map.get-insert nat_cmp_total c.prepared n r t in
    record {
      sound = sound;
      placed = placed_after 3 db after others (subst HasRowids (sym puts.rows) (placed_put (home_row n home) (db 3) [] (pos n) refl puts.free was.placed.1.1.0)) was.placed;
      holds = record {
        numbered = same ShowsNumber (db 0) (after 0) (Has (numbers c.count c.next_top)) (same_numbers 3 db after others (λ e. omega (arith, e))) h.numbered;
        next_low = h.next_low;
        next_high = h.next_high;
        base = same (ShowsPart 1) (db 2) (after 2) (HasBase c.base) (same_base 3 db after others (λ e. omega (arith, e))) h.base;
        homes = grown (ShowsHome 1) (db 3) (after 3) (home_row n home) (HasHome c.prepared) (HasHome now) (n, home) puts.rows puts.free
            (record { top = number_of n fits; home = number_of home home_fits }) (home_adds c.prepared now n r is none refl) h.homes;
        values = renamed (ShowsRecord IsValueText 1) (after 4) (λ e. HasPart c.prepared e × IsValue e.1.1) (λ e. HasPart now e × IsValue e.1.1)
            (λ e k. (part_stays c.prepared now n r is none refl e k.0, k.1)) (λ e k. (part_was c.prepared now n r is none refl e k.0, k.1))
            (same (ShowsRecord IsValueText 1) (db 4) (after 4) _ (same_values 3 db after others (λ e. omega (arith, e))) h.values);
        deltas = renamed (ShowsRecord IsAddedBy 1) (after 7) (λ e. HasPart c.prepared e × IsDelta e.1.1) (λ e. HasPart now e × IsDelta e.1.1)
            (λ e k. (part_stays c.prepared now n r is none refl e k.0, k.1)) (λ e k. (part_was c.prepared now n r is none refl e k.0, k.1))
            (same (ShowsRecord IsAddedBy 1) (db 7) (after 7) _ (same_deltas 3 db after others (λ e. omega (arith, e))) h.deltas);
        rising = still_rising c.prepared now n r is refl h.rising;
        decided = same ShowsTop (db 6) (after 6) (IsDecided c.decided) (same_decided 3 db after others (λ e. omega (arith, e))) h.decided;
      };
    }

-- ---- one part more of a record

not_less : (o : Ordering) → is_lt (ordering_reverse o) ≡ true → is_eq o ≡ false
not_less Less h = refl
not_less Equal h = absurd (true≢false (sym h))
not_less Greater h = refl

last_above : (es : List (ℕ × Part)) (x : ℕ) (o : ℕ) (p : Part) → below_all nat_cmp x (es ++ (o, p) ∷ []) ≡ true → is_lt (nat_cmp x o) ≡ true
last_above [] x o p h = (and_parts _ _ h).0
last_above (e ∷ es) x o p h = last_above es x o p (and_parts _ _ h).1

-- the last of rising objects is none of those before
pub not_before : (es : List (ℕ × Part)) (o : ℕ) (p : Part) → map.is_sorted nat_cmp (es ++ (o, p) ∷ []) ≡ true → map.find nat_cmp o es ≡ None
not_before [] o p h = refl
not_before (e ∷ es) o p h =
    let low = last_above es e.0 o p (and_parts _ _ h).0 in
    let other : eq_by_cmp nat_cmp o e.0 ≡ false = not_less (nat_cmp o e.0) (ap is_lt (sym (nat_cmp_total.antisymm e.0 o)) ∙ low) in
    ap (λ b. cond b (Some e.1) (map.find nat_cmp o es)) other ∙ not_before es o p (and_parts _ _ h).1

abbrev pub more : List (ℕ × Part) → ℕ → Part → List (ℕ × Part)
more es o p = es ++ (o, p) ∷ []

value_text_of : (p : Part) → IsStoredPart p → IsValue p → IsValueText (Text (part_text p)) p
value_text_of (Value k) stored kind = record { is = refl; stored = stored }
value_text_of (Delta z) stored kind = absurd kind

no_delta : (p : Part) → IsValue p → IsDelta p → ⊥
no_delta (Value k) kind other = other
no_delta (Delta z) kind other = kind

module _ (n home o : ℕ) (p : Part) (before : List (ℕ × Part)) (c : Stored) (fits : InRange n) (object_fits : InRange o) (sorted : map.is_sorted nat_cmp (more before o p) ≡ true) where
  abbrev had : Record
  had = record { home = home; parts = before }

  abbrev has : Record
  has = record { home = home; parts = more before o p }

  abbrev pub from : Stored
  from = with_record n home before c

  abbrev pub to : Stored
  to = with_record n home (more before o p) c

  twice : {X : Type 0} (b : Bool) (x y : X) (o : Option X) → cond b (Some x) o ≡ cond b (Some x) (cond b (Some y) o)
  twice true x y o = refl
  twice false x y o = refl

  is : (t : ℕ) → map.get to.prepared t ≡ cond (eq_by_cmp nat_cmp t n) (Some has) (map.get from.prepared t)
  is t =
      map.get-insert nat_cmp_total c.prepared n has t
      ∙ (twice (eq_by_cmp nat_cmp t n) has had (map.get c.prepared t) ∙ ap (cond (eq_by_cmp nat_cmp t n) (Some has)) (sym (map.get-insert nat_cmp_total c.prepared n had t)))

  was_there : map.get from.prepared n ≡ Some had
  was_there = map.get-insert nat_cmp_total c.prepared n had n ∙ ap (λ b. cond b (Some had) (map.get c.prepared n)) (itself n)

  absent : map.find nat_cmp o before ≡ None
  absent = not_before before o p sorted

  found : (q : ℕ) → map.find nat_cmp q (more before o p) ≡ cond (eq_by_cmp nat_cmp q o) (Some p) (map.find nat_cmp q before)
  found q = find-append nat_cmp nat_cmp_total before o p q absent

  abbrev adds_part : Adds (HasPart from.prepared) (HasPart to.prepared) (n, (o, p))
  adds_part = part_adds from.prepared to.prepared n has is had was_there refl o p absent found

  abbrev same_home : HaveSameHomes from.prepared to.prepared
  same_home = homes_same from.prepared to.prepared n has is had was_there refl o p absent found

  -- a table that holds parts of another kind
  module _ (db after : Trees) (was : IsLaidOut db from) where
    abbrev h : Holds 1 (tables_of db) from
    h = was.1

    value_laid : IsStoredPart p → IsValue p → PutsValue n (o, part_text p) db after → IsLaidOut after to
    value_laid stored kind puts =
        let others = puts.others in
        let row = value_row (Int (next_rowid (db 4))) n o (part_text p) in (
          placed_after 4 db after others (subst HasRowids (sym puts.rows) (placed_put row (db 4) [] (next_rowid (db 4)) refl puts.free was.0.1.1.1.0)) was.0,
          record {
            numbered = same ShowsNumber (db 0) (after 0) (Has (numbers c.count c.next_top)) (same_numbers 4 db after others (λ e. omega (arith, e))) h.numbered;
            next_low = h.next_low;
            next_high = h.next_high;
            base = same (ShowsPart 1) (db 2) (after 2) (HasBase c.base) (same_base 4 db after others (λ e. omega (arith, e))) h.base;
            homes = renamed (ShowsHome 1) (after 3) (HasHome from.prepared) (HasHome to.prepared) (homes_to from.prepared to.prepared same_home) (homes_back from.prepared to.prepared same_home)
                (same (ShowsHome 1) (db 3) (after 3) (HasHome from.prepared) (same_homes 4 db after others (λ e. omega (arith, e))) h.homes);
            values = grown (ShowsRecord IsValueText 1) (db 4) (after 4) row (λ e. HasPart from.prepared e × IsValue e.1.1) (λ e. HasPart to.prepared e × IsValue e.1.1) (n, (o, p)) puts.rows puts.free
                (record { top = number_of n fits; object = number_of o object_fits; part = value_text_of p stored kind })
                (kind_adds from.prepared to.prepared n o p adds_part IsValue kind) h.values;
            deltas = renamed (ShowsRecord IsAddedBy 1) (after 7) (λ e. HasPart from.prepared e × IsDelta e.1.1) (λ e. HasPart to.prepared e × IsDelta e.1.1)
                (kind_stays from.prepared to.prepared n o p adds_part IsDelta) (kind_was from.prepared to.prepared n o p adds_part IsDelta (no_delta p kind))
                (same (ShowsRecord IsAddedBy 1) (db 7) (after 7) _ (same_deltas 4 db after others (λ e. omega (arith, e))) h.deltas);
            rising = still_rising from.prepared to.prepared n has is sorted h.rising;
            decided = same ShowsTop (db 6) (after 6) (IsDecided c.decided) (same_decided 4 db after others (λ e. omega (arith, e))) h.decided;
          },
        )

    delta_laid : (z : ℤ) → p ≡ Delta z → IsCounter z → PutsRow 7 (delta_row (Int (next_rowid (db 7))) n o z) [] db after → IsLaidOut after to
    delta_laid z kind stored puts =
        let others = puts.others in
        let row = delta_row (Int (next_rowid (db 7))) n o z in (
          placed_after 7 db after others (subst HasRowids (sym puts.rows) (placed_put row (db 7) [] (next_rowid (db 7)) refl puts.free was.0.1.1.1.1.1.0)) was.0,
          record {
            numbered = same ShowsNumber (db 0) (after 0) (Has (numbers c.count c.next_top)) (same_numbers 7 db after others (λ e. omega (arith, e))) h.numbered;
            next_low = h.next_low;
            next_high = h.next_high;
            base = same (ShowsPart 1) (db 2) (after 2) (HasBase c.base) (same_base 7 db after others (λ e. omega (arith, e))) h.base;
            homes = renamed (ShowsHome 1) (after 3) (HasHome from.prepared) (HasHome to.prepared) (homes_to from.prepared to.prepared same_home) (homes_back from.prepared to.prepared same_home)
                (same (ShowsHome 1) (db 3) (after 3) (HasHome from.prepared) (same_homes 7 db after others (λ e. omega (arith, e))) h.homes);
            deltas = grown (ShowsRecord IsAddedBy 1) (db 7) (after 7) row (λ e. HasPart from.prepared e × IsDelta e.1.1) (λ e. HasPart to.prepared e × IsDelta e.1.1) (n, (o, p)) puts.rows puts.free
                (record { top = number_of n fits; object = number_of o object_fits; part = subst (λ q. IsAddedBy (Int z) q) (sym kind) (refl, stored) })
                (kind_adds from.prepared to.prepared n o p adds_part IsDelta (subst IsDelta (sym kind) tt)) h.deltas;
            values = renamed (ShowsRecord IsValueText 1) (after 4) (λ e. HasPart from.prepared e × IsValue e.1.1) (λ e. HasPart to.prepared e × IsValue e.1.1)
                (kind_stays from.prepared to.prepared n o p adds_part IsValue) (kind_was from.prepared to.prepared n o p adds_part IsValue (λ d. subst IsValue kind d))
                (same (ShowsRecord IsValueText 1) (db 4) (after 4) _ (same_values 7 db after others (λ e. omega (arith, e))) h.values);
            rising = still_rising from.prepared to.prepared n has is sorted h.rising;
            decided = same ShowsTop (db 6) (after 6) (IsDecided c.decided) (same_decided 7 db after others (λ e. omega (arith, e))) h.decided;
          },
        )

  pub after_puts_delta : (db after : Trees) → IsStore db from → IsSound stable_schema after → (z : ℤ) → p ≡ Delta z → IsCounter z
      → PutsRow 7 (delta_row (Int (next_rowid (db 7))) n o z) [] db after → IsStore after to
  after_puts_delta db after was sound z kind stored puts =
      sound_store after to sound (delta_laid db after (laid db from was) z kind stored puts)

-- ---- values of a record

-- a value that a record may have
abbrev pub FitsRecord : ℕ × Part → Type 0
FitsRecord e = InRange e.0 × IsStoredPart e.1 × IsValue e.1

front_below : (xs ys : List (ℕ × Part)) (k : ℕ) → below_all nat_cmp k (xs ++ ys) ≡ true → below_all nat_cmp k xs ≡ true
front_below [] ys k h = refl
front_below (x ∷ xs) ys k h =
    let both = and_parts (is_lt (nat_cmp k x.0)) (below_all nat_cmp k (xs ++ ys)) h in and_from _ _ both.0 (front_below xs ys k both.1)

-- the first of entries that rise do so too
pub front_rises : (xs ys : List (ℕ × Part)) → map.is_sorted nat_cmp (xs ++ ys) ≡ true → map.is_sorted nat_cmp xs ≡ true
front_rises [] ys h = refl
front_rises (x ∷ xs) ys h =
    let both = and_parts (below_all nat_cmp x.0 (xs ++ ys)) (map.is_sorted nat_cmp (xs ++ ys)) h in
    and_from _ _ (front_below xs ys x.0 both.0) (front_rises xs ys both.1)

module _ (n home : ℕ) (c : Stored) (fits : InRange n) where
  values_laid : (es before : List (ℕ × Part)) (db after : Trees) → AllByRecursion FitsRecord es → map.is_sorted nat_cmp (before ++ es) ≡ true
      → IsLaidOut db (with_record n home before c) → InTurn (λ e. PutsValue n (spelled e)) es db after
      → IsLaidOut after (with_record n home (before ++ es) c)
  values_laid [] before db after fit sorted was made =
      subst (λ l. IsLaidOut after (with_record n home l c)) (sym (append-nil before)) (subst (λ t. IsLaidOut t (with_record n home before c)) (sym made) was)
  values_laid (e ∷ es) before db after fit sorted was made =
      let next = more before e.0 e.1 in
      let all : next ++ es ≡ before ++ e ∷ es = append_assoc before (e ∷ []) es in
      let rises : map.is_sorted nat_cmp (next ++ es) ≡ true = ap (map.is_sorted nat_cmp) all ∙ sorted in
      let one = value_laid n home e.0 e.1 before c fits fit.0.0 (front_rises next es rises) db made.0 was fit.0.1 fit.0.2 made.1 in
      subst (λ l. IsLaidOut after (with_record n home l c)) all (values_laid es next made.0 after fit.1 rises one made.2)

  pub after_puts_values : (es before : List (ℕ × Part)) (db after : Trees) → AllByRecursion FitsRecord es → map.is_sorted nat_cmp (before ++ es) ≡ true
      → IsStore db (with_record n home before c) → IsSound stable_schema after → InTurn (PutsValue n) (each spelled es) db after
      → IsStore after (with_record n home (before ++ es) c)
  after_puts_values es before db after fit sorted was sound made =
      let begun = with_record n home before c in
      sound_store after (with_record n home (before ++ es) c) sound
      (values_laid es before db after fit sorted (laid db begun was) (made_of (PutsValue n) spelled es db after made))

-- ---- the statements that delete

pub after_discards : (n : ℕ) (db after : Trees) (c : Stored) → IsStore db c → IsSound stable_schema after → Discards n db after → IsStore after (after_discard n c)
after_discards n db after c was sound made =
    let h = was.holds in
    record {
      sound = sound;
      placed = (
        subst HasRowids (sym made.others.0) was.placed.0,
        (
          subst HasRowids (sym made.others.1) was.placed.1.0,
          (
            subst HasRowids (sym made.rows) (placed_left (db 3) made.gone was.placed.1.1.0),
            (
              subst HasRowids (sym made.values.rows) (placed_left (db 4) made.values.ids was.placed.1.1.1.0),
              (
                subst HasRowids (sym made.others.2) was.placed.1.1.1.1.0,
                (subst HasRowids (sym made.deltas.rows) (placed_left (db 7) made.deltas.ids was.placed.1.1.1.1.1.0), tt),
              ),
            ),
          ),
        ),
      );
      holds = record {
        numbered = same ShowsNumber (db 0) (after 0) (Has (numbers c.count c.next_top)) made.others.0 h.numbered;
        next_low = h.next_low;
        next_high = h.next_high;
        base = same (ShowsPart 1) (db 2) (after 2) (HasBase c.base) made.others.1 h.base;
        homes = home_taken n db after c.prepared h.homes made;
        values = parts_taken n db after c.prepared h.homes IsValueText IsValue 4 was.placed.1.1.1.0 made.values h.values;
        deltas = parts_taken n db after c.prepared h.homes IsAddedBy IsDelta 7 was.placed.1.1.1.1.1.0 made.deltas h.deltas;
        rising = rising_left c.prepared n h.rising;
        decided = same ShowsTop (db 6) (after 6) (IsDecided c.decided) made.others.2 h.decided;
      };
    }

pub after_forgets : (db after : Trees) (c : Stored) → IsStore db c → IsSound stable_schema after → Forgets db after → IsStore after (with_none_decided c)
after_forgets db after c was sound made =
    let others = made.takes.others in
    let h = was.holds in
    record {
      sound = sound;
      placed = placed_after 6 db after others (subst HasRowids (sym made.takes.rows) (placed_left (db 6) made.gone was.placed.1.1.1.1.0)) was.placed;
      holds = record {
        numbered = same ShowsNumber (db 0) (after 0) (Has (numbers c.count c.next_top)) (same_numbers 6 db after others (λ e. omega (arith, e))) h.numbered;
        next_low = h.next_low;
        next_high = h.next_high;
        base = same (ShowsPart 1) (db 2) (after 2) (HasBase c.base) (same_base 6 db after others (λ e. omega (arith, e))) h.base;
        homes = same (ShowsHome 1) (db 3) (after 3) (HasHome c.prepared) (same_homes 6 db after others (λ e. omega (arith, e))) h.homes;
        values = same (ShowsRecord IsValueText 1) (db 4) (after 4) _ (same_values 6 db after others (λ e. omega (arith, e))) h.values;
        deltas = same (ShowsRecord IsAddedBy 1) (db 7) (after 7) _ (same_deltas 6 db after others (λ e. omega (arith, e))) h.deltas;
        rising = h.rising;
        decided = taken ShowsTop (db 6) (after 6) made.gone (IsDecided c.decided) (IsDecided set.empty) made.takes.rows
            (λ r k has stays _ _. absurd (true≢false (sym (tied_id (rowid r) (ints (db 6) r was.placed.1.1.1.1.0 has)) ∙ stays (id_in (rowid r)) (made.each r has))))
            (λ k none. absurd (true≢false (sym none ∙ set.contains-from_list nat_cmp_total [] k)))
            h.decided;
      };
    }
