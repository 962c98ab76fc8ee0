-- The rows of one table, after a statement on it.
use Rattle.std.proofs.Common.{◌≡◌, ◌≢◌, ◌⊎◌, inl, inr, ℕ, ◌≤◌, ℤ, pos, List, [], ◌∷◌, codes, true, false, ◌||◌, ◌&&◌, None, refl, sym, ap, subst, ◌∙◌, nat_cmp, true≢false, arith}
use Rattle.std.specs.Ordering.{is_eq, eq_by_cmp}
use Rattle.std.specs.Cmp.{nat_cmp_total}
use Rattle.std.specs.List.{AllByRecursion}
use Rattle.std.proofs.lemmas.Bool.{or_cases, or_left, or_right, and_parts}
use Rattle.std.specs.FinMap as map
use Rattle.std.specs.FinSet as set
use Rattle.sqlite.specs.declared.types.Value.TheVariants.{Null, Int, Text}
use Rattle.sqlite.specs.Order.{Row, column}
use Rattle.sqlite_value.specs.Order.{value_cmp}
use Rattle.sqlite.specs.Collation.TheVariants.{Binary}
use Rattle.sqlite.specs.Ops.{binary}
use Rattle.sqlite.specs.Table.{Table}
use Rattle.sqlite.specs.Tree.{Trees}
use Rattle.sqlite_value.specs.Keys.{first_key}
use Rattle.sqlite.specs.Edit.{id_in}
use Rattle.sqlite_trees.specs.Tree.{rowid, has_rowid}
use Rattle.sqlite_schema.specs.Rules.{equal}
use Rattle.sqlite_rules.specs.Keys.{conflicts}
use Rattle.sqlite_rules.specs.Lists.{Has}
use Rattle.sqlite_rules.proofs.ListLemmas.{all_has, all_from}
use Rattle.atomic_types.specs.declared.part.Part.{Part}
use Rattle.store_tables.specs.PartTexts.{IsStoredPart, part_text}
use Rattle.store_tables.specs.Tables.{stable_schema, meta}
use Rattle.store_tables.specs.Rows.{HasRowids, HaveRowids}
use Rattle.store_tables.proofs.Keys.{key_is, equal_number, equal_word, int_key, plainly}
use Rattle.store_tables.proofs.PartRows.{ReplacesRow, AreInTheWay}
use Rattle.store_tables.proofs.Decides.{decided_table, base_table, pair_row, number_row}
use Rattle.store_tables.proofs.Placed.{ints}
use Rattle.store_tables.specs.Listed.{Lists}
use Rattle.store_tables.specs.Shown.{IsNumber, ShowsPart, ShowsTop, ShowsNumber, greatest_number}
use Rattle.store_tables.specs.Parts.{Base, HasBase, IsDecided}
use Rattle.store_tables.specs.Holds.{numbers}
use Rattle.store_tables.proofs.Numbers.{itself, tied, apart, same_or_not, put_here, put_other, put_cases}
use Rattle.store_tables.proofs.Listed.{Stays, replaced}

-- ---- the tables that stay

abbrev pub Others : ℕ → Trees → Trees → Type 0
Others tree db next = AllByRecursion (λ t. t.tree ≢ tree → next t.tree ≡ db t.tree) stable_schema.tables

module _ (tree : ℕ) (db next : Trees) (others : Others tree db next) where
  pub same_numbers : 0 ≢ tree → next 0 ≡ db 0
  same_numbers = others.0

  pub same_base : 2 ≢ tree → next 2 ≡ db 2
  same_base = others.1.0

  pub same_homes : 3 ≢ tree → next 3 ≡ db 3
  same_homes = others.1.1.0

  pub same_values : 4 ≢ tree → next 4 ≡ db 4
  same_values = others.1.1.1.0

  pub same_decided : 6 ≢ tree → next 6 ≡ db 6
  same_decided = others.1.1.1.1.0

  pub same_deltas : 7 ≢ tree → next 7 ≡ db 7
  same_deltas = others.1.1.1.1.1.0

  -- rows of each table have rowids of their own where those of the table that changed have
  pub placed_after : HasRowids (next tree) → HaveRowids db → HaveRowids next
  placed_after new was = all_from (λ t. HasRowids (next t.tree)) stable_schema.tables (λ t h. elim (same_or_not t.tree tree) [
    | inl same ↦ subst (λ k. HasRowids (next k)) (sym same) new
    | inr other ↦ subst HasRowids (sym (all_has (λ u. u.tree ≢ tree → next u.tree ≡ db u.tree) stable_schema.tables t others h other)) (all_has (λ u. HasRowids (db u.tree)) stable_schema.tables t was h)
  ])

-- ---- rows by their numbers

abbrev pub InRange : ℕ → Type 0
InRange n = (1 ≤ n) × (n ≤ greatest_number)

pub number_of : (n : ℕ) → InRange n → IsNumber (Int (pos n)) n
number_of n h = record { is = refl; low = h.0; high = h.1 }

-- a row with another number stays
pub other_stays : (r : Row) (k n : ℕ) (gone : List ℤ) → rowid r ≡ Int (pos k) → k ≢ n → ((id : ℤ) → Has gone id → id ≡ pos n) → Stays gone r
other_stays r k n gone is other all id h =
    ap (λ x. has_rowid x r) (all id h) ∙ (key_is (rowid r) k n is ∙ apart n k (λ same. other (sym same)))

-- the row of a number has that rowid
pub has_key : (r row : Row) (k n : ℕ) → rowid r ≡ Int (pos k) → rowid row ≡ Int (pos n) → k ≡ n
    → is_eq (value_cmp (rowid r) (rowid row)) ≡ true
has_key r row k n is key same =
    ap (λ v. is_eq (value_cmp (rowid r) v)) key ∙ (key_is (rowid r) k n is ∙ (ap (λ x. eq_by_cmp nat_cmp x k) (sym same) ∙ itself k))

-- the rows in the way of a number have that number
pub way_of : (t : Table) (rows : List Row) (row : Row) (n : ℕ) (gone : List ℤ) → HasRowids rows → AreInTheWay t rows row gone
    → ((r : Row) → conflicts None stable_schema.indexes t row r ≡ true → is_eq (value_cmp (rowid r) (Int (pos n))) ≡ true) → (id : ℤ)
    → Has gone id → id ≡ pos n
way_of t rows row n gone p way reads id h =
    let r = way.sound id h in
    r.3 ∙ int_key (rowid r.0) n (ints rows r.0 p r.1) (reads r.0 r.2)

-- ---- the decided

decided_conflict : (n : ℕ) (r : Row) → conflicts None stable_schema.indexes decided_table (Int (pos n) ∷ Null ∷ []) r ≡ true
    → is_eq (value_cmp (rowid r) (Int (pos n))) ≡ true
unfolding binary first_key
decided_conflict n r h =
    let both : ((equal Binary (rowid r) (Int (pos n)) && true) || false) ≡ true = h in
    sym (equal_number (rowid r) (pos n)) ∙ plainly _ both

is_in : (decided : set.FinSet nat_cmp) (n k : ℕ) → set.contains (set.insert decided n) k ≡ (eq_by_cmp nat_cmp k n || set.contains decided k)
is_in decided n k = set.contains-insert nat_cmp_total decided n k

pub decided_put : (n : ℕ) (db next : Trees) (decided : set.FinSet nat_cmp) → InRange n → HasRowids (db 6)
    → ReplacesRow decided_table (Int (pos n) ∷ Null ∷ []) (Int (pos n) ∷ Null ∷ []) db next → Lists ShowsTop (db 6) (IsDecided decided)
    → Lists ShowsTop (next 6) (IsDecided (set.insert decided n))
decided_put n db next decided fits placed made was =
    let row : Row = Int (pos n) ∷ Null ∷ [] in
    let all = way_of decided_table (db 6) row n made.gone placed made.way (decided_conflict n) in
    replaced ShowsTop (db 6) (next 6) row made.gone (IsDecided decided) (IsDecided (set.insert decided n)) n made.puts.rows made.puts.free
    (number_of n fits)
    (is_in decided n n ∙ or_left _ _ (itself n))
    (λ r k _ _ _ _ old. is_in decided n k ∙ or_right _ _ old)
    (λ k now. elim (same_or_not k n) [
      | inl same ↦ inl same
      | inr other ↦ inr (other_in k other now, λ r _ shows. other_stays r k n made.gone shows.is other all)
    ])
    was
  where
    other_in : (k : ℕ) → k ≢ n → IsDecided (set.insert decided n) k → IsDecided decided k
    other_in k other now = elim (or_cases _ _ (sym (is_in decided n k) ∙ now)) [ inl same ↦ absurd (other (tied k n same)) | inr old ↦ old ]

-- ---- the base

base_conflict : (n : ℕ) (t : List ℕ) (r : Row) → conflicts None stable_schema.indexes base_table (pair_row n t) r ≡ true
    → is_eq (value_cmp (rowid r) (Int (pos n))) ≡ true
unfolding binary first_key
base_conflict n t r h =
    let both : ((equal Binary (rowid r) (Int (pos n)) && true) || false) ≡ true = h in
    sym (equal_number (rowid r) (pos n)) ∙ plainly _ both

pub base_put : (n : ℕ) (p : Part) (db next : Trees) (base : Base) → InRange n → IsStoredPart p → HasRowids (db 2)
    → ReplacesRow base_table (pair_row n (part_text p)) (pair_row n (part_text p)) db next → Lists (ShowsPart 1) (db 2) (HasBase base)
    → Lists (ShowsPart 1) (next 2) (HasBase (map.insert base n p))
base_put n p db next base fits stored placed made was =
    let row : Row = pair_row n (part_text p) in
    let all = way_of base_table (db 2) row n made.gone placed made.way (base_conflict n (part_text p)) in
    replaced (ShowsPart 1) (db 2) (next 2) row made.gone (HasBase base) (HasBase (map.insert base n p)) (n, p) made.puts.rows made.puts.free
    (record { object = number_of n fits; part = record { is = refl; stored = stored } })
    (put_here base n p)
    (λ r e _ _ free shows old. put_other base n p e.0 (λ same. free (has_key r row e.0 n shows.object.is refl same)) ∙ old)
    (λ e now. elim (put_cases base n p e.0 e.1 now) [
      | inl new ↦ inl (λ i. (new.0 i, new.1 i))
      | inr old ↦ inr (old.1, λ r _ shows. other_stays r e.0 n made.gone shows.object.is old.0 all)
    ])
    was

-- ---- the numbers of `meta`

-- a row in the way has the place or the name
number_conflict : (place : ℕ) (name : List ℕ) (n : ℤ) (r : Row) → conflicts None stable_schema.indexes meta (number_row place name n) r ≡ true
    → (is_eq (value_cmp (rowid r) (Int (pos place))) ≡ true) ⊎ (is_eq (value_cmp (column r 1) (Text name)) ≡ true)
unfolding binary first_key
number_conflict place name n r h = elim (or_cases _ _ h) [
  | inl key ↦ inl (sym (equal_number (rowid r) (pos place)) ∙ (and_parts _ _ key).0)
  | inr word ↦ inr (sym (equal_word (column r 1) name) ∙ plainly _ word)
]

version_count : is_eq (value_cmp (Text (codes "version")) (Text (codes "count"))) ≡ false
unfolding value_cmp lib.Ieee.is_nan lib.Ieee.lt
version_count = refl

version_next : is_eq (value_cmp (Text (codes "version")) (Text (codes "next_top"))) ≡ false
unfolding value_cmp lib.Ieee.is_nan lib.Ieee.lt
version_next = refl

next_count : is_eq (value_cmp (Text (codes "next_top")) (Text (codes "count"))) ≡ false
unfolding value_cmp lib.Ieee.is_nan lib.Ieee.lt
next_count = refl

count_next : is_eq (value_cmp (Text (codes "count")) (Text (codes "next_top"))) ≡ false
unfolding value_cmp lib.Ieee.is_nan lib.Ieee.lt
count_next = refl

abbrev Entry : Type 0
Entry = ℕ × (List ℕ × ℕ)

-- a row that shows a number of another place and another name is not in the way
not_in_way : (place : ℕ) (name : List ℕ) (n : ℤ) (r : Row) (e : Entry) → ShowsNumber r e → place ≢ e.0 → is_eq (value_cmp (Text e.1.0) (Text name)) ≡ false
    → conflicts None stable_schema.indexes meta (number_row place name n) r ≡ true → ⊥
not_in_way place name n r e shows other word h = elim (number_conflict place name n r h) [
  | inl key ↦ other (tied place e.0 (sym (key_is (rowid r) e.0 place shows.place) ∙ key))
  | inr same ↦ true≢false (sym same ∙ (ap (λ v. is_eq (value_cmp v (Text name))) shows.name ∙ word))
]

-- The row of one number is replaced: `is_place` says of each entry whether it is that number's.
module _ (place : ℕ) (name : List ℕ) (n : ℕ) (db next : Trees) (was now : List Entry) (made : ReplacesRow meta (number_row place name (pos n)) (number_row place name (pos n)) db next)
    (listed : Lists ShowsNumber (db 0) (Has was))
    (old : (e : Entry) → Has was e → (e.0 ≡ place) ⊎ (Has now e × ((place ≢ e.0) × (is_eq (value_cmp (Text e.1.0) (Text name)) ≡ false))))
    (new : (e : Entry) → Has now e → (e ≡ (place, (name, n))) ⊎ (Has was e × (e.0 ≢ place)))
    (here : Has now (place, (name, n))) where
  abbrev row : Row
  row = number_row place name (pos n)

  gone_is : (id : ℤ) → Has made.gone id → id ≡ pos place
  gone_is id h =
      let r = made.way.sound id h in
      let e = listed.each r.0 r.1 in
      elim (old e.0 e.2) [
        | inl same ↦ r.3 ∙ (ap id_in e.1.place ∙ ap pos same)
        | inr other ↦ absurd (not_in_way place name (pos n) r.0 e.0 e.1 other.1.0 other.1.1 r.2)
      ]

  pub number_put : Lists ShowsNumber (next 0) (Has now)
  number_put = replaced ShowsNumber (db 0) (next 0) row made.gone (Has was) (Has now) (place, (name, n)) made.puts.rows made.puts.free
      (record { place = refl; name = refl; number = refl })
      here
      (λ r e _ _ free shows is. elim (old e is) [
        | inl same ↦ absurd (free (has_key r row e.0 place shows.place refl same))
        | inr other ↦ other.0
      ])
      (λ e is. elim (new e is) [
        | inl same ↦ inl same
        | inr other ↦ inr (other.0, λ r _ shows. other_stays r e.0 place made.gone shows.place other.1 gone_is)
      ])
      listed

abbrev version_entry : Entry
version_entry = (1, (codes "version", 2))

abbrev count_entry : ℕ → Entry
count_entry n = (2, (codes "count", n))

abbrev next_entry : ℕ → Entry
next_entry n = (3, (codes "next_top", n))

place_is : (e f : Entry) (k : ℕ) → e ≡ f → f.0 ≡ k → e.0 ≡ k
place_is e f k same is = ap (λ (x : Entry). x.0) same ∙ is

-- another place, and another name
other_than : (place : ℕ) (name : List ℕ) (e f : Entry) → e ≡ f → place ≢ f.0 → is_eq (value_cmp (Text f.1.0) (Text name)) ≡ false
    → (place ≢ e.0) × (is_eq (value_cmp (Text e.1.0) (Text name)) ≡ false)
other_than place name e f same place_apart word = (
  λ h. place_apart (h ∙ ap (λ (x : Entry). x.0) same),
  ap (λ (x : Entry). is_eq (value_cmp (Text x.1.0) (Text name))) same ∙ word,
)

not_place : (e f : Entry) (k : ℕ) → e ≡ f → f.0 ≢ k → e.0 ≢ k
not_place e f k same other h = other (ap (λ (x : Entry). x.0) (sym same) ∙ h)

pub count_put : (was next n : ℕ) (db after : Trees) → ReplacesRow meta (number_row 2 (codes "count") (pos n)) (number_row 2 (codes "count") (pos n)) db after
    → Lists ShowsNumber (db 0) (Has (numbers was next)) → Lists ShowsNumber (after 0) (Has (numbers n next))
count_put was next n db after made listed =
    number_put 2 (codes "count") n db after (numbers was next) (numbers n next) made listed old new (inr (inl refl))
  where
    old : (e : Entry) → Has (numbers was next) e
        → (e.0 ≡ 2) ⊎ (Has (numbers n next) e × ((2 ≢ e.0) × (is_eq (value_cmp (Text e.1.0) (Text (codes "count"))) ≡ false)))
    old e (inl h) = inr (inl h, other_than 2 (codes "count") e version_entry h (λ k. omega (arith, k)) version_count)
    old e (inr (inl h)) = inl (place_is e (count_entry was) 2 h refl)
    old e (inr (inr (inl h))) =
        inr (inr (inr (inl h)), other_than 2 (codes "count") e (next_entry next) h (λ k. omega (arith, k)) next_count)
    old e (inr (inr (inr h))) = absurd h

    new : (e : Entry) → Has (numbers n next) e → (e ≡ (2, (codes "count", n))) ⊎ (Has (numbers was next) e × (e.0 ≢ 2))
    new e (inl h) = inr (inl h, not_place e version_entry 2 h (λ k. omega (arith, k)))
    new e (inr (inl h)) = inl h
    new e (inr (inr (inl h))) = inr (inr (inr (inl h)), not_place e (next_entry next) 2 h (λ k. omega (arith, k)))
    new e (inr (inr (inr h))) = absurd h

pub next_put : (count was n : ℕ) (db after : Trees) → ReplacesRow meta (number_row 3 (codes "next_top") (pos n)) (number_row 3 (codes "next_top") (pos n)) db after
    → Lists ShowsNumber (db 0) (Has (numbers count was)) → Lists ShowsNumber (after 0) (Has (numbers count n))
next_put count was n db after made listed =
    number_put 3 (codes "next_top") n db after (numbers count was) (numbers count n) made listed old new (inr (inr (inl refl)))
  where
    old : (e : Entry) → Has (numbers count was) e
        → (e.0 ≡ 3) ⊎ (Has (numbers count n) e × ((3 ≢ e.0) × (is_eq (value_cmp (Text e.1.0) (Text (codes "next_top"))) ≡ false)))
    old e (inl h) = inr (inl h, other_than 3 (codes "next_top") e version_entry h (λ k. omega (arith, k)) version_next)
    old e (inr (inl h)) = inr (inr (inl h), other_than 3 (codes "next_top") e (count_entry count) h (λ k. omega (arith, k)) count_next)
    old e (inr (inr (inl h))) = inl (place_is e (next_entry was) 3 h refl)
    old e (inr (inr (inr h))) = absurd h

    new : (e : Entry) → Has (numbers count n) e → (e ≡ (3, (codes "next_top", n))) ⊎ (Has (numbers count was) e × (e.0 ≢ 3))
    new e (inl h) = inr (inl h, not_place e version_entry 3 h (λ k. omega (arith, k)))
    new e (inr (inl h)) = inr (inr (inl h), not_place e (count_entry count) 3 h (λ k. omega (arith, k)))
    new e (inr (inr (inl h))) = inl h
    new e (inr (inr (inr h))) = absurd h
