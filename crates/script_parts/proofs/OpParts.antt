-- The parts of an operation's list, beside the list as it is kept.
use Rattle.std.proofs.Common.{◌≡◌, ◌<◌, ◌≤◌, List, [], ◌∷◌, length, get_or, drop, Some, None, refl, ap, ap₂, ◌∙◌, arith}
use Rattle.serde_json.specs.declared.value.Value.{Value}
use Rattle.serde_json.specs.View.{view, items_view}
use Rattle.serde_json.specs.Data.{Data, null, boolean, number, string, array, object, Items}
use Rattle.serde_json.specs.Find.{as_array}
use Rattle.script_model.specs.OperationReading.{op_parts}

pub array_from_items : (d : Data) (ds : Items) → Some ds ≡ as_array d → array ds ≡ d
array_from_items null ds e = cc
array_from_items (boolean b) ds e = cc
array_from_items (number n) ds e = cc
array_from_items (string s) ds e = cc
array_from_items (array found) ds e = cc
array_from_items (object ms) ds e = cc

op_parts-short : (vs : List Value) → length vs < 2 → None ≡ op_parts (array (items_view vs))
op_parts-short [] few = refl
op_parts-short (v ∷ []) few = refl
op_parts-short (v ∷ w ∷ vs) few = absurd (omega arith)

pub op_parts-few : (d : Data) (vs : List Value) → Some (items_view vs) ≡ as_array d → length vs < 2 → None ≡ op_parts d
op_parts-few d vs e few = op_parts-short vs few ∙ ap op_parts (array_from_items d (items_view vs) e)

op_parts-long : (vs : List Value) (o n : Value) → 2 ≤ length vs → o ≡ get_or vs 0 o → n ≡ get_or vs 1 n
    → Some (view o, view n, items_view (drop 2 vs)) ≡ op_parts (array (items_view vs))
op_parts-long [] o n many first second = absurd (omega arith)
op_parts-long (v ∷ []) o n many first second = absurd (omega arith)
op_parts-long (v ∷ w ∷ vs) o n many first second = ap₂ (λ x y. Some (view x, view y, items_view vs)) first second

pub op_parts-many : (d : Data) (vs : List Value) (o n : Value) → Some (items_view vs) ≡ as_array d → 2 ≤ length vs → o ≡ get_or vs 0 o → n ≡ get_or vs 1 n
    → Some (view o, view n, items_view (drop 2 vs)) ≡ op_parts d
op_parts-many d vs o n e many first second = op_parts-long vs o n many first second ∙ ap op_parts (array_from_items d (items_view vs) e)
