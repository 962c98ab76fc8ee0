-- An array that is given other bounds and items.
use Rattle.std.specs.Prelude.{ℕ, ℤ, pos, ◌-ℤ◌, ◌-◌, ◌≡◌, min, int_lt, unsigned_abs, List, [], ◌∷◌, ◌++◌, length, take, drop, replicate, if◌then◌else◌}
use Rattle.std.specs.List.{AllByRecursion}
use Rattle.values.specs.declared.value.Value.{Value}
use Rattle.values.specs.declared.value.Value.TheVariants.{Int, Text}
use Rattle.values.specs.declared.value.Kind.{Kind}
use Rattle.values.specs.declared.value.Kind.TheVariants as kind
use Rattle.values.specs.Values.{kind_of}
use Rattle.values.specs.Items.{ArrayContent, set_item}

-- how far j lies above i, if it does
abbrev pub steps_up : ℤ → ℤ → ℕ
steps_up i j = if int_lt i j then unsigned_abs (j -ℤ i) else 0

-- 0 or the empty text
abbrev pub plain_value : Kind → Value
plain_value kind.Int = Int (pos 0)
plain_value kind.Text = Text []

-- how many items lie below the new low index, how many indices are new below the first item, and how many items stay
abbrev pub items_below : ArrayContent → ℤ → ℕ
items_below a low = min (steps_up a.low low) (length a.items)

abbrev pub new_below : ArrayContent → ℤ → ℕ → ℕ
new_below a low size = min (steps_up low a.low) size

abbrev pub items_kept : ArrayContent → ℤ → ℕ → ℕ
items_kept a low size = min (size - new_below a low size) (length a.items - items_below a low)

abbrev pub new_above : ArrayContent → ℤ → ℕ → ℕ
new_above a low size = (size - new_below a low size) - items_kept a low size

-- the array with these bounds: an item in them keeps its index, and at an index that is new stands a plain value
unfoldable pub with_bounds : ArrayContent → ℤ → ℕ → ArrayContent
with_bounds a low size = record {
  kind = a.kind;
  low = low;
  items = replicate (new_below a low size) (plain_value a.kind)
      ++ (take (items_kept a low size) (drop (items_below a low) a.items)
      ++ replicate (new_above a low size) (plain_value a.kind));
}

-- the array with all these items stored, the first of them last
abbrev pub stored_over : ArrayContent → List (ℤ × Value) → ArrayContent
stored_over a [] = a
stored_over a (e ∷ es) = set_item (stored_over a es) e.0 e.1

-- all items are of the array's kind
abbrev pub AreOfKind : ArrayContent → List (ℤ × Value) → Type 0
AreOfKind a es = AllByRecursion (λ e. kind_of e.1 ≡ a.kind) es
