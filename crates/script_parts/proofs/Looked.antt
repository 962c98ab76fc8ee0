-- What stands at an index of a list of documents, beside the list as it is kept.
use Rattle.std.proofs.Common.{◌≡◌, ℕ, zero, suc, List, [], ◌∷◌, Some, None, option_map, refl, sym, ap, ◌∙◌}
use Rattle.std.specs.List.{slice_get}
use Rattle.serde_json.specs.declared.value.Value.{Value}
use Rattle.serde_json.specs.View.{view, items_view}
use Rattle.serde_json.specs.Find.{get_item}

pub get_item-view : (vs : List Value) (i : ℕ) → option_map view (slice_get vs i) ≡ get_item i (items_view vs)
get_item-view [] i = refl
get_item-view (v ∷ vs) zero = refl
get_item-view (v ∷ vs) (suc i) = get_item-view vs i

pub get_item-found : (vs : List Value) (i : ℕ) (v : Value) → slice_get vs i ≡ Some v → Some (view v) ≡ get_item i (items_view vs)
get_item-found vs i v e = sym (ap (option_map view) e) ∙ get_item-view vs i

pub get_item-lost : (vs : List Value) (i : ℕ) → slice_get vs i ≡ None → None ≡ get_item i (items_view vs)
get_item-lost vs i e = sym (ap (option_map view) e) ∙ get_item-view vs i
