-- What is kept by a test that changes nothing.
use Rattle.std.proofs.Common.{◌≡◌, Bool, List, filter, refl, subst}
use Rattle.std.specs.List.Retain.{IsFiltered}
use Rattle.std.specs.Map.Calls.{RetainsPairs}
use Rattle.std.proofs.lemmas.Fn.{filter_same}
use Rattle.std.proofs.lemmas.Map.Entries.{filter_from_retain_pairs}

pub kept_by : {K X F : Type 0} (T : F → K → X → Bool → X → F → Type 0) (f : F) (es kept : List (K × X)) → RetainsPairs T f es kept → (p : K × X → Bool)
    → ((k : K) (v : X) (b : Bool) (w : X) (g : F) → T f k v b w g → (b ≡ p (k, v)) × (w ≡ v) × (g ≡ f)) → kept ≡ filter p es
kept_by T f es kept r p step =
    filter_from_retain_pairs T (λ g. g ≡ f) p (λ g k v b w g' i t. step k v b w g' (subst (λ x. T x k v b w g') i t)) f es kept refl r

-- the same in a vector
pub kept_of : {X F : Type 0} (R : F → X → Bool → F → Type 0) (f : F) (xs ys : List X) → IsFiltered R f xs ys → (p : X → Bool)
    → ((x : X) (b : Bool) (g : F) → R f x b g → (b ≡ p x) × (g ≡ f)) → ys ≡ filter p xs
kept_of R f xs ys r p step = filter_same R p f step xs ys r
