-- A table with more rows.
use Rattle.std.proofs.Common.{Bool, List, [], None, Option, Some, ap, arith, cond, false, length, length-append, refl, subst, suc, sym, true, zero, ℕ, ◌++◌, ◌+◌, ◌<◌, ◌∙◌, ◌∷◌, ◌≡◌, ◌||◌}
use Rattle.std.specs.Prelude.{is_some, slice_get}
use Rattle.std.specs.List.{AllByRecursion}
use Rattle.std.proofs.lemmas.Option.{same_Some}
use Rattle.action_names.specs.Names.{Name, same_name}
use Rattle.action_names.proofs.Ancestry.{same_is}
use Rattle.holders.specs.Held.{value_at}
use Rattle.run_model.specs.Telling.{or_else}
use Rattle.roster.proofs.Changed.{standing}
use Rattle.roster.specs.Rosters.{IsIndexed}
use Rattle.roster.specs.Tables.{Table, added, all_added, place_of, row_at, row_of}
use Rattle.roster.specs.declared.entry.Row.{Row}

get_before : (xs ys : List Row) (i : ℕ) → i < length xs → slice_get (xs ++ ys) i ≡ slice_get xs i
get_before [] ys i h = absurd (omega arith)
get_before (x ∷ xs) ys zero h = refl
get_before (x ∷ xs) ys (suc i) h = get_before xs ys i (omega arith)

get_last : (xs : List Row) (y : Row) → slice_get (xs ++ y ∷ []) (length xs) ≡ Some y
get_last [] y = refl
get_last (x ∷ xs) y = get_last xs y

place_added : (x : Name × Row) (t : Table) (a : Name) → place_of (added x t) a ≡ cond (same_name x.0 a) (Some (length t.rows)) (place_of t a)
place_added x t a = refl

row_added : (x : Name × Row) (t : Table) → IsIndexed t → (a : Name) → row_of (added x t) a ≡ cond (same_name x.0 a) (Some x.1) (row_of t a)
row_added x t h a = ap (row_at (added x t)) (place_added x t a) ∙ of (same_name x.0 a) (place_of t a) refl
  where
    of : (b : Bool) (p : Option ℕ) → place_of t a ≡ p → row_at (added x t) (cond b (Some (length t.rows)) p) ≡ cond b (Some x.1) (row_at t p)
    of true p e = get_last t.rows x.1
    of false None e = refl
    of false (Some i) e = get_before t.rows (x.1 ∷ []) i (h.within a i e)

indexed_added : (x : Name × Row) (t : Table) → IsIndexed t → IsIndexed (added x t)
indexed_added x t h = record {
  within = λ a i at. inside a i (same_name x.0 a) (sym (place_added x t a) ∙ at);
  apart = λ a b i at too. one a b i (same_name x.0 a) refl (same_name x.0 b) refl (sym (place_added x t a) ∙ at) (sym (place_added x t b) ∙ too);
  room = h.room;
}
  where
    longer : length (t.rows ++ x.1 ∷ []) ≡ length t.rows + 1
    longer = length-append t.rows (x.1 ∷ [])

    inside : (a : Name) (i : ℕ) (s : Bool) → cond s (Some (length t.rows)) (place_of t a) ≡ Some i → i < length (t.rows ++ x.1 ∷ [])
    inside a i true at = let same = same_Some (length t.rows) i at in omega (arith, longer)
    inside a i false at = omega (arith, longer, h.within a i at)

    one : (a b : Name) (i : ℕ) (s : Bool) → same_name x.0 a ≡ s → (r : Bool) → same_name x.0 b ≡ r
        → cond s (Some (length t.rows)) (place_of t a) ≡ Some i → cond r (Some (length t.rows)) (place_of t b) ≡ Some i → a ≡ b
    one a b i true is true too at also = sym (same_is x.0 a is) ∙ same_is x.0 b too
    one a b i true is false too at also =
        let same = same_Some (length t.rows) i at in let less = h.within b i also in absurd (omega arith)
    one a b i false is true too at also =
        let same = same_Some (length t.rows) i also in let less = h.within a i at in absurd (omega arith)
    one a b i false is false too at also = h.apart a b i at also

-- ---- all rows

pub indexed_all : (xs : List (Name × Row)) (t : Table) → IsIndexed t → IsIndexed (all_added xs t)
indexed_all [] t h = h
indexed_all (x ∷ xs) t h = indexed_added x (all_added xs t) (indexed_all xs t h)

-- the first row of a name is its row, and other names have theirs
pub row_all : (xs : List (Name × Row)) (t : Table) → IsIndexed t → (a : Name) → row_of (all_added xs t) a ≡ or_else (value_at xs a) (row_of t a)
row_all [] t h a = refl
row_all (x ∷ xs) t h a = row_added x (all_added xs t) (indexed_all xs t h) a ∙ of (same_name x.0 a) (row_all xs t h a)
  where
    of : (s : Bool) → row_of (all_added xs t) a ≡ or_else (value_at xs a) (row_of t a)
        → cond s (Some x.1) (row_of (all_added xs t) a) ≡ or_else (cond s (Some x.1) (value_at xs a)) (row_of t a)
    of true e = refl
    of false e = e

-- who has no new row stands where it stood
pub place_all : (xs : List (Name × Row)) (t : Table) (a : Name) → value_at xs a ≡ None → place_of (all_added xs t) a ≡ place_of t a
place_all [] t a none = refl
place_all (x ∷ xs) t a none = place_added x (all_added xs t) a ∙ of (same_name x.0 a) none (place_all xs t a)
  where
    of : (s : Bool) → cond s (Some x.1) (value_at xs a) ≡ None → (value_at xs a ≡ None → place_of (all_added xs t) a ≡ place_of t a)
        → cond s (Some (length (all_added xs t).rows)) (place_of (all_added xs t) a) ≡ place_of t a
    of true k rest = absurd (cc)
    of false k rest = rest k

pub found_all : (xs : List (Name × Row)) (t : Table) (a : Name)
    → is_some (place_of (all_added xs t) a) ≡ (is_some (value_at xs a) || is_some (place_of t a))
found_all [] t a = refl
found_all (x ∷ xs) t a = ap is_some (place_added x (all_added xs t) a) ∙ of (same_name x.0 a) (found_all xs t a)
  where
    of : (s : Bool) → is_some (place_of (all_added xs t) a) ≡ (is_some (value_at xs a) || is_some (place_of t a))
        → is_some (cond s (Some (length (all_added xs t).rows)) (place_of (all_added xs t) a))
        ≡ (is_some (cond s (Some x.1) (value_at xs a)) || is_some (place_of t a))
    of true rest = refl
    of false rest = rest

-- the guardian stands as it stood
pub standing_all : (xs : List (Name × Row)) (t : Table) → standing (all_added xs t) ≡ standing t
standing_all [] t = refl
standing_all (x ∷ xs) t = standing_all xs t

-- the last row is added first
pub added_last : (xs : List (Name × Row)) (x : Name × Row) (t : Table) → all_added (xs ++ x ∷ []) t ≡ all_added xs (added x t)
added_last [] x t = refl
added_last (y ∷ xs) x t = ap (added y) (added_last xs x t)

-- what holds of each row holds of the one that is found
pub all_found : (P : Name → Row → Type 0) (xs : List (Name × Row)) → AllByRecursion (λ (x : Name × Row). P x.0 x.1) xs → (a : Name) (row : Row)
    → value_at xs a ≡ Some row → P a row
all_found P [] all a row found = absurd (cc)
all_found P (x ∷ xs) all a row found = of (same_name x.0 a) refl found (all_found P xs all.1 a row)
  where
    of : (s : Bool) → same_name x.0 a ≡ s → cond s (Some x.1) (value_at xs a) ≡ Some row → (value_at xs a ≡ Some row → P a row) → P a row
    of true same k rest = subst (λ n. P n row) (same_is x.0 a same) (subst (P x.0) (same_Some x.1 row k) all.0)
    of false differ k rest = rest k
