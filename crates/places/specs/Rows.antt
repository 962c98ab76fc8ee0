-- Rows by place, of names.
use Rattle.std.specs.Prelude.{ℕ, List, Option, slice_get}
use Rattle.std.specs.Option.{option_and_then}
use Rattle.action_names.specs.Names.{Name}
use Rattle.places.specs.Placed.{place_in}

module _ {V : Type 0} where
  -- the row at a place, if there is one
  abbrev pub row_at : List (Option V) → ℕ → Option V
  row_at rows i = option_and_then (λ row. row) (slice_get rows i)

  -- the row of a name that stands by place, if it has one
  abbrev pub row_of : List Name → List (Option V) → Name → Option V
  row_of names rows a = option_and_then (λ i. row_at rows i) (place_in names a)
