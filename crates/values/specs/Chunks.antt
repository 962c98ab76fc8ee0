-- The items of an array: those at the low end, those in chunks, and those at the high end.
use Rattle.std.specs.Prelude.{ℕ, ℤ, ◌-ℤ◌, int_le, unsigned_abs, ◌≤◌, ◌≡◌, List, [], ◌∷◌, ◌++◌, length, take, drop, replicate, slice_set, if◌then◌else◌}
use Rattle.std.specs.List.{AllByRecursion}
use Rattle.json.specs.Token.{Token}
use Rattle.json.specs.Tree.{json_tokens}
use Rattle.serde_json.specs.Written.{outline}
use Rattle.values.specs.declared.value.Value.{Value}
use Rattle.values.specs.Values.{IsValue, value_data}
use Rattle.values.specs.Items.{max_items}

abbrev pub Values : Type 0
Values = List Value

-- how many items a chunk has
abbrev pub chunk_size : ℕ
chunk_size = 256

-- the items of chunks, those of one after those of another
abbrev pub joined : List Values → Values
joined [] = []
joined (c ∷ cs) = c ++ joined cs

abbrev pub chunked : Values → List Values → Values → Values
chunked front middle back = front ++ (joined middle ++ back)

-- a chunk has its full number of items, each within its limits
pub record IsFull (c : Values) : Type 0 where
  pub full : length c ≡ chunk_size
  pub each : AllByRecursion IsValue c

abbrev pub AreFull : List Values → Type 0
AreFull cs = AllByRecursion IsFull cs

-- full chunks, and no more items than an array has
pub record HasChunks (front : Values) (middle : List Values) (back : Values) : Type 0 where
  pub full : AreFull middle
  pub within_limit : length (chunked front middle back) ≤ max_items

-- so many items dropped in front and so many kept, with so many others before and behind them
abbrev pub cut_items : ℕ → ℕ → ℕ → ℕ → Value → Values → Values
cut_items dropped kept below above v xs =
    replicate below v ++ (take kept (drop dropped xs) ++ replicate above v)

-- the items with another one at an index, where the first has the low one; without such an index, the same items
abbrev pub item_stored : ℤ → Values → ℤ → Value → Values
item_stored low xs index v =
    if int_le low index then slice_set xs (unsigned_abs (index -ℤ low)) v else xs

-- the items with all these put at their indices, the first of them last
abbrev pub items_stored : ℤ → Values → List (ℤ × Value) → Values
items_stored low xs [] = xs
items_stored low xs (e ∷ es) = item_stored low (items_stored low xs es) e.0 e.1

-- the tokens of values, one after another
abbrev pub values_tokens : Values → List Token
values_tokens [] = []
values_tokens (v ∷ vs) = json_tokens (outline (value_data v)) ++ values_tokens vs
