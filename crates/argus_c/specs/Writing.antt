-- Texts that are written to the caller's memory.
use Rattle.std.specs.Prelude.{◌≡◌, ◌<◌, ◌++◌, ℕ, List, length, drop, Option, Result, IsOkAnd, IsSomeAnd, String}
use Rattle.std.specs.Global.{Global}

-- The text is written to the start of the place.
pub record IsWritten (text old new : List ℕ) (len : ℕ) : Type 0 where
  pub bytes : new ≡ text ++ drop (length text) old
  pub length_told : len ≡ length text

-- The place is too small for the text, whose length is told.
pub record IsTooSmall (text old : List ℕ) (len : ℕ) : Type 0 where
  pub small : length old < length text
  pub length_told : len ≡ length text

-- a text was found, of which this is said
abbrev pub IsFound : {E : Type 0} → Result (Option (String Global)) E
    → (String Global → Type 0) → Type 0
IsFound found Is = IsOkAnd found (λ told. IsSomeAnd told Is)
