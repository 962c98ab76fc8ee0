-- Values of columns, and how they read.
use Rattle.std.proofs.Common.{◌≡◌, inl, inr, ℕ, ℤ, zero, suc, pos, ◌<◌, ◌≤◌, ◌^◌, arith, List, [], ◌∷◌, length, IsUtf8, refl, sym, ◌∙◌}
use Rattle.std.proofs.lemmas.Bool.{cases_lt}
use Rattle.sqlite.specs.declared.types.Value.{Value}
use Rattle.sqlite.specs.declared.types.Value.TheVariants.{Null, Int, Text}
use Rattle.sqlite.specs.Order.{Row, column}
use Rattle.atomic_types.specs.declared.part.Part.{Part}
use Rattle.store_tables.specs.PartTexts.{part_text}
use Rattle.store_tables.specs.Shown.{IsNumber, IsText}
use Rattle.store_tables.proofs.Utf8.{spelled}

pub column_past : (row : Row) (at : ℕ) → length row ≤ at → column row at ≡ Null
column_past [] at low = refl
column_past (v ∷ row) zero low = absurd (omega (arith, low))
column_past (v ∷ row) (suc at) low = column_past row at (omega (arith, low))

pub past_no_number : (row : Row) (at : ℕ) (n : ℤ) → length row ≤ at → column row at ≡ Int n → ⊥
past_no_number row at n low is = let e : ◌≡◌ {A = Value} Null (Int n) = sym (column_past row at low) ∙ is in absurd (cc)

pub past_no_text : (row : Row) (at : ℕ) (t : List ℕ) → length row ≤ at → column row at ≡ Text t → ⊥
past_no_text row at t low is = let e : ◌≡◌ {A = Value} Null (Text t) = sym (column_past row at low) ∙ is in absurd (cc)

-- a column that has something is within the row
pub has_number : (row : Row) (at : ℕ) (n : ℤ) → column row at ≡ Int n → at < length row
has_number row at n is = elim (cases_lt at (length row)) [ inl within ↦ within | inr past ↦ absurd (past_no_number row at n past is) ]

pub has_text : (row : Row) (at : ℕ) (t : List ℕ) → column row at ≡ Text t → at < length row
has_text row at t is = elim (cases_lt at (length row)) [ inl within ↦ within | inr past ↦ absurd (past_no_text row at t past is) ]

pub one_number : (v : Value) (m n : ℕ) → v ≡ Int (pos m) → v ≡ Int (pos n) → m ≡ n
one_number v m n is also = let e : ◌≡◌ {A = Value} (Int (pos m)) (Int (pos n)) = sym is ∙ also in cc

pub one_text : (v : Value) (s t : List ℕ) → v ≡ Text s → v ≡ Text t → s ≡ t
one_text v s t is also = let e : ◌≡◌ {A = Value} (Text s) (Text t) = sym is ∙ also in cc

-- a number from 1 to 4294967295 reads
pub reads_number : (row : Row) (at n : ℕ) → IsNumber (column row at) n → (at < length row → ((k : ℕ) × (column row at ≡ Int (pos k)) × (k < 2 ^ 32)) → ⊥) → ⊥
reads_number row at n h unread = unread (has_number row at (pos n) h.is) (n, h.is, omega (arith, h.high))

-- a part's text reads
pub reads_text : (row : Row) (at : ℕ) (p : Part) → IsText (column row at) p → (at < length row → ((t : List ℕ) × (column row at ≡ Text t) × IsUtf8 t) → ⊥) → ⊥
reads_text row at p h unread = unread (has_text row at (part_text p) h.is) (part_text p, h.is, spelled p h.stored)
