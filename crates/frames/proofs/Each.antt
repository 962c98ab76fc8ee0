-- What a list of expressions gives, one after another.
use Rattle.std.proofs.Common.{List, [], ◌∷◌, ◌++◌, Option, None, Some, ap, get_or, length, refl, sym, take, ◌∙◌, ◌≡◌, ◌+◌, ◌<◌, ℕ, zero, suc, arith}
use Rattle.std.proofs.lemmas.List.{take_more}
use Rattle.frames.specs.Evaluating.{together}
use Rattle.frames.specs.Operating.{each}

-- a first and a last that give something
last_and_first : {B : Type 0} (x : Option B) (ys : Option (List B)) (z : Option B)
    → together ◌∷◌ x (together (λ zs y. zs ++ y ∷ []) ys z) ≡ together (λ zs y. zs ++ y ∷ []) (together ◌∷◌ x ys) z
last_and_first None ys z = refl
last_and_first (Some x) None z = refl
last_and_first (Some x) (Some ys) None = refl
last_and_first (Some x) (Some ys) (Some z) = refl

only_last : {B : Type 0} (z : Option B) → together ◌∷◌ z (Some []) ≡ together (λ zs y. zs ++ y ∷ []) (Some []) z
only_last None = refl
only_last (Some z) = refl

-- with one more at the end, what that gives stands at the end
each_push : {A B : Type 0} (f : A → Option B) (xs : List A) (x : A) → each f (xs ++ x ∷ []) ≡ together (λ zs y. zs ++ y ∷ []) (each f xs) (f x)
each_push f [] x = only_last (f x)
each_push f (y ∷ xs) x = ap (together ◌∷◌ (f y)) (each_push f xs x) ∙ last_and_first (f y) (each f xs) (f x)

-- a turn of a loop: what the expression at this place gives is the next
pub each_more : {A B : Type 0} (f : A → Option B) (xs : List A) (i : ℕ) (x : A) (ys : List B) (y : B) → i < length xs → x ≡ get_or xs i x
    → each f (take i xs) ≡ Some ys → f x ≡ Some y → each f (take (i + 1) xs) ≡ Some (ys ++ y ∷ [])
each_more f xs i x ys y lt at before here =
    let next : take (i + 1) xs ≡ take i xs ++ x ∷ [] = take_more xs i x lt ∙ ap (λ z. take i xs ++ z ∷ []) (sym at) in
    ap (each f) next ∙ each_push f (take i xs) x ∙ ap (λ o. together (λ zs z. zs ++ z ∷ []) o (f x)) before
    ∙ ap (together (λ zs z. zs ++ z ∷ []) (Some ys)) here

rest_missing : {B : Type 0} (x : Option B) → together ◌∷◌ x None ≡ None
rest_missing None = refl
rest_missing (Some x) = refl

-- where the one at a place gives nothing, there is no list
pub each_missing : {A B : Type 0} (f : A → Option B) (xs : List A) (i : ℕ) (x : A) → i < length xs → x ≡ get_or xs i x → f x ≡ None
    → each f xs ≡ None
each_missing f [] i x lt at none = absurd (omega arith)
each_missing f (y ∷ xs) zero x lt at none =
    ap (λ z. together ◌∷◌ (f z) (each f xs)) (sym at) ∙ ap (λ o. together ◌∷◌ o (each f xs)) none
each_missing f (y ∷ xs) (suc i) x lt at none =
    ap (together ◌∷◌ (f y)) (each_missing f xs i x (omega arith) at none) ∙ rest_missing (f y)
