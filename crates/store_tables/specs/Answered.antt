-- What queries showed of the tables of a store.
use Rattle.std.specs.Prelude.{Vec, ℕ, List, [], ◌∷◌, codes, slice_index_or, map}
use Rattle.std.specs.declared.alloc.Global.{Global}
use Rattle.sqlite.specs.Order.{Row}
use Rattle.store_tables.specs.Holds.{Tables}

-- the queries whose answers are a content, by the columns that are read
abbrev pub queries : List (List ℕ)
queries =
    codes "SELECT rowid, k, v FROM meta ORDER BY rowid"
    ∷ codes "SELECT obj, val FROM base"
    ∷ codes "SELECT top, home FROM prepared"
    ∷ codes "SELECT top, obj, val FROM prepared_val"
    ∷ codes "SELECT top, obj, add_by FROM prepared_delta"
    ∷ codes "SELECT top FROM decided"
    ∷ []

abbrev pub rows_of : List (Vec Row Global) → List (List Row)
rows_of answers = map (λ a. a.items) answers

abbrev pub answered : List (List Row) → Tables
answered answers = record {
  numbers = slice_index_or answers 0 [];
  base = slice_index_or answers 1 [];
  homes = slice_index_or answers 2 [];
  values = slice_index_or answers 3 [];
  deltas = slice_index_or answers 4 [];
  decided = slice_index_or answers 5 [];
}
