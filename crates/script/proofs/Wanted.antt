-- What a handler's parameters say, beside their list as it is kept.
use Rattle.std.proofs.Common.{◌≡◌, ◌<◌, ℕ, List, [], ◌∷◌, length, true, ◌==◌, Some, None, option_map, option_and_then, unwrap_or, refl, sym, ap, ◌∙◌, arith}
use Rattle.std.specs.List.{slice_get}
use Rattle.serde_json.specs.declared.value.Value.{Value}
use Rattle.serde_json.specs.View.{view, items_view}
use Rattle.serde_json.specs.Data.{Data}
use Rattle.serde_json.specs.Find.{get_item}
use Rattle.serde_json.specs.Events.{items_len}
use Rattle.serde_json.proofs.Views.{items_len-items_view}
use Rattle.script_model.specs.Shapes.{two_items}
use Rattle.script_model.specs.Signatures.{param_kind, params_in, wanted_kind, takes_count}
use Rattle.script_parts.proofs.Looked.{get_item-found, get_item-lost}

pub two_items-few : (vs : List Value) → length vs < 2 → None ≡ two_items (items_view vs)
two_items-few [] few = refl
two_items-few (x ∷ []) few = refl
two_items-few (x ∷ y ∷ vs) few = absurd (omega arith)

pub two_items-many : (vs : List Value) → 2 < length vs → None ≡ two_items (items_view vs)
two_items-many [] many = refl
two_items-many (x ∷ []) many = refl
two_items-many (x ∷ y ∷ []) many = absurd (omega arith)
two_items-many (x ∷ y ∷ z ∷ vs) many = refl

pub wanted_kind-found : (handler : Data) (vs : List Value) (i : ℕ) (v : Value) → Some (items_view vs) ≡ params_in handler → slice_get vs i ≡ Some v
    → param_kind (view v) ≡ wanted_kind handler i
wanted_kind-found handler vs i v e found =
    ap (option_and_then param_kind) (get_item-found vs i v found) ∙ ap (option_and_then (λ ds. option_and_then param_kind (get_item i ds))) e

pub wanted_kind-lost : (handler : Data) (vs : List Value) (i : ℕ) → Some (items_view vs) ≡ params_in handler → slice_get vs i ≡ None → None ≡ wanted_kind handler i
wanted_kind-lost handler vs i e lost =
    ap (option_and_then param_kind) (get_item-lost vs i lost) ∙ ap (option_and_then (λ ds. option_and_then param_kind (get_item i ds))) e

pub takes_count-params : (handler : Data) (vs : List Value) (n : ℕ) → Some (items_view vs) ≡ params_in handler → (length vs == n) ≡ takes_count handler n
takes_count-params handler vs n e =
    ap (λ k. k == n) (sym (items_len-items_view vs)) ∙ ap (λ o. unwrap_or (option_map (λ ds. items_len ds == n) o) true) e
