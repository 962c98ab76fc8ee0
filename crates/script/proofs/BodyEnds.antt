-- Whether the last of a list of statements ends a body, beside the list as it is kept.
use Rattle.std.proofs.Common.{◌≡◌, ℕ, zero, suc, ◌<◌, List, [], ◌∷◌, length, get_or, false, ◌&&◌, refl, ap, ap₂, arith}
use Rattle.serde_json.specs.declared.value.Value.{Value}
use Rattle.serde_json.specs.View.{view, items_view}
use Rattle.script_model.specs.ScriptReading.{ends, last_ends, is_end, two_end}

pub last_ends-last : (vs : List Value) (i : ℕ) (v : Value) → length vs ≡ suc i → v ≡ get_or vs i v → is_end (view v) ≡ last_ends (items_view vs)
last_ends-last [] i v one is = absurd (omega arith)
last_ends-last (x ∷ []) zero v one is = ap (λ w. is_end (view w)) is
last_ends-last (x ∷ []) (suc i) v one is = absurd (omega arith)
last_ends-last (x ∷ y ∷ vs) zero v one is = absurd (omega arith)
last_ends-last (x ∷ y ∷ vs) (suc i) v one is = last_ends-last (y ∷ vs) i v (omega arith) is

pub two_end-three : (vs : List Value) (v w : Value) → length vs ≡ 3 → v ≡ get_or vs 1 v → w ≡ get_or vs 2 w → (ends (view v) && ends (view w)) ≡ two_end (items_view vs)
two_end-three [] v w three is also = absurd (omega arith)
two_end-three (x ∷ []) v w three is also = absurd (omega arith)
two_end-three (x ∷ y ∷ []) v w three is also = absurd (omega arith)
two_end-three (x ∷ y ∷ z ∷ []) v w three is also = ap₂ (λ a b. ends (view a) && ends (view b)) is also
two_end-three (x ∷ y ∷ z ∷ u ∷ vs) v w three is also = absurd (omega arith)

pub two_end-few : (vs : List Value) → length vs < 3 → false ≡ two_end (items_view vs)
two_end-few [] few = refl
two_end-few (x ∷ []) few = refl
two_end-few (x ∷ y ∷ []) few = refl
two_end-few (x ∷ y ∷ z ∷ vs) few = absurd (omega arith)

pub two_end-many : (vs : List Value) → 3 < length vs → false ≡ two_end (items_view vs)
two_end-many [] many = refl
two_end-many (x ∷ []) many = refl
two_end-many (x ∷ y ∷ []) many = refl
two_end-many (x ∷ y ∷ z ∷ []) many = absurd (omega arith)
two_end-many (x ∷ y ∷ z ∷ u ∷ vs) many = refl
