-- Tests of lists that agree.
use Rattle.std.proofs.Common.{Bool, List, [], ap, ap₂, cond, false, filter, refl, sym, true, ◌&&◌, ◌∙◌, ◌∷◌, ◌≡◌, ◌||◌}
use Rattle.std.specs.List.{list_any}

-- a test that all pass leaves the list
pub all_pass : {X : Type 0} (p : X → Bool) (xs : List X) → ((x : X) → p x ≡ true) → filter p xs ≡ xs
all_pass p [] h = refl
all_pass p (x ∷ xs) h = ap (λ t. cond t (x ∷ filter p xs) (filter p xs)) (h x) ∙ ap (λ l. x ∷ l) (all_pass p xs h)

-- tests that agree leave the same
pub same_test : {X : Type 0} (p q : X → Bool) (xs : List X) → ((x : X) → p x ≡ q x) → filter p xs ≡ filter q xs
same_test p q xs h = ap (λ t. filter t xs) (λ i x. h x i)

-- one test after another is both
pub one_after_another : {X : Type 0} (p q : X → Bool) (xs : List X) → filter p (filter q xs) ≡ filter (λ x. q x && p x) xs
one_after_another p q [] = refl
one_after_another p q (x ∷ xs) = of (q x) refl (one_after_another p q xs)
  where
    of : (t : Bool) → q x ≡ t → filter p (filter q xs) ≡ filter (λ x. q x && p x) xs → filter p (filter q (x ∷ xs)) ≡ filter (λ x. q x && p x) (x ∷ xs)
    of true e rest =
        ap (λ t. filter p (cond t (x ∷ filter q xs) (filter q xs))) e
        ∙ ap (λ l. cond (p x) (x ∷ l) l) rest
        ∙ sym (ap (λ t. cond (t && p x) (x ∷ filter (λ x. q x && p x) xs) (filter (λ x. q x && p x) xs)) e)
    of false e rest =
        ap (λ t. filter p (cond t (x ∷ filter q xs) (filter q xs))) e
        ∙ rest
        ∙ sym (ap (λ t. cond (t && p x) (x ∷ filter (λ x. q x && p x) xs) (filter (λ x. q x && p x) xs)) e)

-- nothing passes a test that none passes
pub none_any : {X : Type 0} (p : X → Bool) (xs : List X) → ((x : X) → p x ≡ false) → list_any p xs ≡ false
none_any p [] h = refl
none_any p (x ∷ xs) h = ap₂ ◌||◌ (h x) (none_any p xs h)

-- some pass one of two tests where some pass the one or some the other
pub any_of_two : {X : Type 0} (p q : X → Bool) (xs : List X) → list_any (λ x. p x || q x) xs ≡ (list_any p xs || list_any q xs)
any_of_two p q [] = refl
any_of_two p q (x ∷ xs) = ap (λ t. (p x || q x) || t) (any_of_two p q xs) ∙ turned (p x) (q x) (list_any p xs) (list_any q xs)
  where
    turned : (a b c d : Bool) → ((a || b) || (c || d)) ≡ ((a || c) || (b || d))
    turned true b c d = refl
    turned false true true d = refl
    turned false true false d = refl
    turned false false c d = refl

pub same_any : {X : Type 0} (p q : X → Bool) (xs : List X) → ((x : X) → p x ≡ q x) → list_any p xs ≡ list_any q xs
same_any p q xs h = ap (λ t. list_any t xs) (λ i x. h x i)
