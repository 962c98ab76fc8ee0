-- Items put back where others were put over them.
use Rattle.std.specs.Prelude.{ℤ, List, [], ◌∷◌, Option, Some, None}
use Rattle.std.specs.Ordering.{int_cmp}
use Rattle.std.specs.BTreeMap.{is_at}
use Rattle.std.specs.Map.{remove_entry, set_value}
use Rattle.values.specs.declared.value.Value.{Value}

-- the items, with what was at the index before, if anything
abbrev pub put_back_at : List (ℤ × Value) → ℤ → Option Value → List (ℤ × Value)
put_back_at es i None = remove_entry (is_at (int_cmp i)) es
put_back_at es i (Some v) = set_value (is_at (int_cmp i)) es v

-- the same at each of these indices, the last first
abbrev pub put_back_all : List (ℤ × Option Value) → List (ℤ × Value) → List (ℤ × Value)
put_back_all [] es = es
put_back_all (r ∷ rs) es = put_back_at (put_back_all rs es) r.0 r.1
