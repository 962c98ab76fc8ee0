-- Rows whose rowids rise.
use Rattle.std.proofs.Common.{◌≡◌, ◌⊎◌, inl, inr, List, [], ◌∷◌, ◌++◌, ℕ, zero, suc, ℤ, ◌<ℤ◌, arith, refl, ap₂, true, Option, None, Some, ◌+◌, ◌<◌, length, take, get_or}
use Rattle.std.proofs.Common.{IfSome, IsTrue, is_some, sym, ap, subst, ◌∙◌, true≢false, Less}
use Rattle.std.specs.Cmp.{int_cmp_is}
use Rattle.std.proofs.lemmas.Cmp.{int_ranked}
use Rattle.std.proofs.lemmas.List.{take_more}
use Rattle.sqlite.specs.declared.types.Value.{Value}
use Rattle.sqlite.specs.declared.types.Value.TheVariants.{Int}
use Rattle.sqlite.specs.Order.{Row}
use Rattle.sqlite_value.specs.Order.{value_cmp}
use Rattle.sqlite_value.proofs.OrderLemmas.{value_cmp_total, value_cmp-Int}
use Rattle.sqlite_trees.specs.Tree.{rowid, IsTable}
use Rattle.sqlite_trees.specs.View.{is_int, IsShaped}
use Rattle.sqlite_trees.specs.declared.store.Shape.TheVariants.{Table}
use Rattle.sqlite_rules.specs.Lists.{Has}
use Rattle.sqlite_rules.proofs.ListLemmas.{all_from, all_has, has_either, has_right}
use Rattle.sqlite_rules.proofs.TableLemmas.{int_is}
use Rattle.sqlite.specs.Edit.{id_in}
use Rattle.sqlite_catalog.proofs.ListFacts.{ascending_push}
use Rattle.store_tables.specs.Rising.{ShowsAbove}
use Rattle.store_tables.specs.Answered.{rows_of}
use Rattle.store_tables.proofs.Counts.{has_item}
use Rattle.std.specs.List.{AllByRecursion}
use Rattle.std.specs.Prelude.{Vec}
use Rattle.std.specs.declared.alloc.Global.{Global}

-- the rows so far, with the next
pub next_row : {X : Type 0} (xs : List X) (i : ℕ) (x : X) → i < length xs → x ≡ get_or xs i x → take (i + 1) xs ≡ take i xs ++ x ∷ []
next_row xs i x low is = take_more xs i x low ∙ ap (λ y. take i xs ++ y ∷ []) (sym is)

has_last : {X : Type 0} (x y : X) → Has (y ∷ []) x → x ≡ y
has_last x y (inl same) = same
has_last x y (inr h) = absurd h

-- an integer up to the last one
abbrev pub IsUpTo : Option ℤ → Value → Type 0
IsUpTo None v = ⊥
IsUpTo (Some n) v = IsTrue (is_int v) × ((value_cmp v (Int n) ≡ Less) ⊎ (v ≡ Int n))

abbrev pub AreUpTo : Option ℤ → List Row → Type 0
AreUpTo last rows = (r : Row) → Has rows r → IsUpTo last (rowid r)

below_next : (last : Option ℤ) (row : Row) (id : ℤ) (v : Value) → ShowsAbove last row id → IsUpTo last v → value_cmp v (Int id) ≡ Less
below_next None row id v above low = absurd low
below_next (Some n) row id v above low =
    let up : value_cmp (Int n) (Int id) ≡ Less = value_cmp-Int n id ∙ sym (int_cmp_is n id Less above.1) in
    elim low.1 [
      | inl less ↦ value_cmp_total.trans v (Int n) (Int id) less up
      | inr same ↦ ap (λ w. value_cmp w (Int id)) same ∙ up
    ]

ints_up_to : (last : Option ℤ) (v : Value) → IsUpTo last v → IsTrue (is_int v)
ints_up_to None v low = absurd low
ints_up_to (Some n) v low = low.0

module _ (rows : List Row) (row : Row) (last : Option ℤ) (id : ℤ) (low : AreUpTo last rows) (above : ShowsAbove last row id) where
  rises_on : IsTable rows → IsTable (rows ++ row ∷ [])
  rises_on up = ascending_push (λ a b. value_cmp (rowid a) (rowid b) ≡ Less) rows row up (λ r h.
      ap (value_cmp (rowid r)) above.0 ∙ below_next last row id (rowid r) above (low r h))

  up_to_next : AreUpTo (Some id) (rows ++ row ∷ [])
  up_to_next r h = elim (has_either rows (row ∷ []) r h) [
    | inl old ↦ (ints_up_to last (rowid r) (low r old), inl (below_next last row id (rowid r) above (low r old)))
    | inr new ↦ let is : rowid r ≡ Int id = ap rowid (has_last r row new) ∙ above.0 in (ap is_int is, inr is)
  ]

-- one row more
pub goes_on : (rows : List Row) (row : Row) (last next : Option ℤ) → is_some next ≡ true → IfSome next (ShowsAbove last row)
    → IsTable rows × AreUpTo last rows → IsTable (rows ++ row ∷ []) × AreUpTo next (rows ++ row ∷ [])
goes_on rows row last None is above so_far = absurd (true≢false (sym is))
goes_on rows row last (Some id) is above so_far =
    (rises_on rows row last id so_far.1 above so_far.0, up_to_next rows row last id so_far.1 above)

pub all_rise : (rows : List Row) (last : Option ℤ) → IsTable rows → AreUpTo last rows → IsShaped Table rows
all_rise rows last up low = (up, all_from (λ r. IsTrue (is_int (rowid r))) rows (λ r h. ints_up_to last (rowid r) (low r h)))

-- one answer more that rises
pub rises_too : (answers : List (Vec Row Global)) (i : ℕ) (a : Vec Row Global) → i < length answers → a ≡ get_or answers i a → IsShaped Table a.items
    → AllByRecursion (IsShaped Table) (rows_of (take i answers)) → AllByRecursion (IsShaped Table) (rows_of (take (i + 1) answers))
rises_too answers i a low is up so_far =
    subst (λ l. AllByRecursion (IsShaped Table) (rows_of l)) (sym (next_row answers i a low is)) (pushed (take i answers) so_far)
  where
    pushed : (xs : List (Vec Row Global)) → AllByRecursion (IsShaped Table) (rows_of xs) → AllByRecursion (IsShaped Table) (rows_of (xs ++ a ∷ []))
    pushed [] h = (up, tt)
    pushed (x ∷ xs) h = (h.0, pushed xs h.1)

-- ---- rows that rise are seen to

-- the last one is that of a row so far; there is none where there was no row
abbrev pub IsSeen : Option ℤ → List Row → Type 0
IsSeen None rows = rows ≡ []
IsSeen (Some n) rows = (r : Row) × Has rows r × (rowid r ≡ Int n)

pub seen_next : (rows : List Row) (row : Row) (last next : Option ℤ) → is_some next ≡ true → IfSome next (ShowsAbove last row) → IsSeen next (rows ++ row ∷ [])
seen_next rows row last None is above = absurd (true≢false (sym is))
seen_next rows row last (Some id) is above = (row, has_right rows (row ∷ []) row (inl refl), above.0)

before_less : (rows : List Row) (i : ℕ) (r row d : Row) → IsTable rows → i < length rows → row ≡ get_or rows i d → Has (take i rows) r
    → value_cmp (rowid r) (rowid row) ≡ Less
before_less [] i r row d up low is before = absurd (omega (arith, low))
before_less (x ∷ rows) zero r row d up low is before = absurd before
before_less (x ∷ rows) (suc i) r row d up low is (inl same) =
    ap (λ z. value_cmp (rowid z) (rowid row)) same
    ∙ all_has (λ z. value_cmp (rowid x) (rowid z) ≡ Less) rows row up.0 (has_item rows i row d (omega (arith, low)) is)
before_less (x ∷ rows) (suc i) r row d up low is (inr before) = before_less rows i r row d up.1 (omega (arith, low)) is before

-- a row of these is above the last one
pub above_last : (rows : List Row) (i : ℕ) (row d : Row) (last : Option ℤ) → IsShaped Table rows → i < length rows → row ≡ get_or rows i d
    → IsSeen last (take i rows) → ((id : ℤ) → ShowsAbove last row id → ⊥) → ⊥
above_last rows i row d last shaped low is seen never =
    let int = int_is (rowid row) (all_has (λ r. IsTrue (is_int (rowid r))) rows row shaped.1 (has_item rows i row d low is)) in
    never (id_in (rowid row)) (int, below last seen)
  where
    below : (o : Option ℤ) → IsSeen o (take i rows) → IfSome o (λ n. n <ℤ id_in (rowid row))
    below None seen = tt
    below (Some n) seen =
        let int = int_is (rowid row) (all_has (λ r. IsTrue (is_int (rowid r))) rows row shaped.1 (has_item rows i row d low is)) in
        let less : value_cmp (Int n) (Int (id_in (rowid row))) ≡ Less =
        ap₂ value_cmp (sym seen.2) (sym int) ∙ before_less rows i seen.0 row d shaped.0 low is seen.1 in
        int_ranked n (id_in (rowid row)) Less (sym (sym (value_cmp-Int n (id_in (rowid row))) ∙ less))

pub shape_at : (xs : List (Vec Row Global)) (i : ℕ) (a d : Vec Row Global) → i < length xs → a ≡ get_or xs i d → AllByRecursion (IsShaped Table) (rows_of xs)
    → IsShaped Table a.items
shape_at [] i a d low is all = absurd (omega (arith, low))
shape_at (x ∷ xs) zero a d low is all = subst (λ (v : Vec Row Global). IsShaped Table v.items) (sym is) all.0
shape_at (x ∷ xs) (suc i) a d low is all = shape_at xs i a d (omega (arith, low)) is all.1
