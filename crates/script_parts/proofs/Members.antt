-- What a `Value` holds, beside the document that it is.
use Rattle.std.proofs.Common.{◌≡◌, ℕ, List, [], ◌∷◌, map, length, Some, None, Bool, ◌&&◌, Bor, string_bytes, refl, sym, ap, ◌∙◌}
use Rattle.std.specs.List.{list_any}
use Rattle.serde_json.specs.Data.{Data, null, boolean, number, string, array, object, Members}
use Rattle.serde_json.specs.Find.{as_object}
use Rattle.serde_json.specs.View.{members_view}
use Rattle.serde_json.proofs.Views.{Entry}
use Rattle.values.specs.Words.{same_bytes}
use Rattle.script_model.specs.Shapes.{has_only, is_among, only_one}

is_among-refs : (names : List (Bor (List ℕ))) (name : List ℕ) → is_among (map (λ n. n.now) names) name ≡ list_any (λ n. same_bytes n.now name) names
is_among-refs [] name = refl
is_among-refs (n ∷ names) name = rw (is_among-refs names name)

pub has_only-step : (names : List (Bor (List ℕ))) (e : Entry) (es : List Entry) (among : Bool) → among ≡ list_any (λ n. same_bytes n.now (string_bytes e.0)) names
    → has_only (map (λ n. n.now) names) (members_view (e ∷ es)) ≡ (among && has_only (map (λ n. n.now) names) (members_view es))
has_only-step names e es among tested =
    ap (λ b. b && has_only (map (λ n. n.now) names) (members_view es)) (is_among-refs names (string_bytes e.0) ∙ sym tested)

pub object_some : (d : Data) (ms : Members) → Some ms ≡ as_object d → d ≡ object ms
object_some null ms e = cc
object_some (boolean b) ms e = cc
object_some (number n) ms e = cc
object_some (string s) ms e = cc
object_some (array ds) ms e = cc
object_some (object found) ms e = cc

pub not_one : (es : List Entry) → (length es ≡ 1 → ⊥) → only_one (members_view es) ≡ None
not_one [] h = refl
not_one (e ∷ []) h = absurd (h refl)
not_one (e ∷ f ∷ es) h = refl
