-- Rows of marks, beside the table that keeps them.
use Rattle.std.proofs.Common.{◌≡◌, ◌<◌, ℕ, zero, suc, List, [], ◌∷◌, length, get_or, Bool, Vec, Global, refl, sym, ap, subst, arith}
use Rattle.script.specs.Marks.{rows_of, AddsRow}
use Rattle.script.proofs.Spreading.{SpreadsUpTo}

pub length-rows_of : (table : List (Vec Bool Global)) → length (rows_of table) ≡ length table
length-rows_of [] = refl
length-rows_of (row ∷ table) = ap suc (length-rows_of table)

pub row_of : (table : List (Vec Bool Global)) (i : ℕ) (row : Vec Bool Global) → i < length table → row ≡ get_or table i row → row.items ≡ get_or (rows_of table) i []
row_of [] i row h is = absurd (omega arith)
row_of (r ∷ table) zero row h is = ap (λ v. v.items) is
row_of (r ∷ table) (suc i) row h is = row_of table i row (omega arith) is

pub adds_at : (rows : List (List Bool)) (i : ℕ) (row now new : List Bool) (grew told : Bool) → row ≡ get_or rows i [] → grew ≡ told → AddsRow row now new grew
    → AddsRow (get_or rows i []) now new told
adds_at rows i row now new grew told is same adds = subst (λ r. AddsRow r now new told) is (subst (λ g. AddsRow row now new g) same adds)

pub spreads_is : (i : ℕ) (rows : List (List Bool)) (old now other : List Bool) (grew more : Bool) → SpreadsUpTo i rows old now grew → other ≡ now → more ≡ grew
    → SpreadsUpTo i rows old other more
spreads_is i rows old now other grew more upto marks same =
    subst (λ m. SpreadsUpTo i rows old m more) (sym marks) (subst (λ g. SpreadsUpTo i rows old now g) (sym same) upto)
