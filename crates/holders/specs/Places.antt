-- Where a name's row stands among rows in the order of their names, or would stand.
use Rattle.std.specs.Prelude.{◌≡◌, ℕ, zero, suc, true, List, [], ◌∷◌}
use Rattle.std.specs.Ordering.{is_le}
use Rattle.std.specs.declared.cmp.Ordering.TheVariants.{Less, Equal, Greater}
use Rattle.action_names.specs.Names.{Name, name_cmp}

module _ {R : Type 0} where
  -- the name's row stands there, behind those of lesser names
  abbrev pub IsRowAt : List (Name × R) → Name → ℕ → Type 0
  IsRowAt [] a i = ⊥
  IsRowAt (r ∷ rs) a zero = name_cmp a r.0 ≡ Equal
  IsRowAt (r ∷ rs) a (suc i) = (name_cmp a r.0 ≡ Greater) × IsRowAt rs a i

  -- the name has no row, and would have it there
  abbrev pub IsGapAt : List (Name × R) → Name → ℕ → Type 0
  IsGapAt [] a zero = Unit {0}
  IsGapAt [] a (suc i) = ⊥
  IsGapAt (r ∷ rs) a zero = name_cmp a r.0 ≡ Less
  IsGapAt (r ∷ rs) a (suc i) = (name_cmp a r.0 ≡ Greater) × IsGapAt rs a i

  -- the rows before that place are of lesser names, and the row there, if there is one, is not
  abbrev pub IsStartAt : List (Name × R) → Name → ℕ → Type 0
  IsStartAt [] a i = Unit {0}
  IsStartAt (r ∷ rs) a zero = is_le (name_cmp a r.0) ≡ true
  IsStartAt (r ∷ rs) a (suc i) = (name_cmp a r.0 ≡ Greater) × IsStartAt rs a i
