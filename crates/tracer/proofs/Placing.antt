-- The order of places, as their comparison gives it, and an operation put into its place in a map that is ordered by it.
use Rattle.std.proofs.Common.{◌≡◌, ℕ, true, false, ◌&&◌, ◌||◌, List, [], ◌∷◌, map, Option, Some, None, refl, ap, ◌∙◌, arith}
use Rattle.std.specs.declared.cmp.Ordering.{Ordering}
use Rattle.std.specs.declared.cmp.Ordering.TheVariants.{Less, Equal, Greater}
use Rattle.std.specs.Ordering.{nat_cmp, ordering_then, MatchOrdering}
use Rattle.std.specs.Cmp.Lexicographic.{slice_cmp}
use Rattle.std.proofs.lemmas.Bool.Decides.{nat_tests}
use Rattle.std.proofs.lemmas.Cmp.{ranked}
use Rattle.tracer.specs.declared.place.ClosingStep.{ClosingStep}
use Rattle.tracer.specs.declared.place.ClosingStep.TheVariants.{Came, NotCome}
use Rattle.run_model.specs.Places.{step_lt, step_eq, place_lt}
use Rattle.tracer.specs.Places.{step_number, step_cmp}

-- how a comparison stands to the definitions: of two lesser, equal and greater ones
abbrev pub StepsCompare : Ordering → Option ℕ → Option ℕ → Type 0
StepsCompare r m n = MatchOrdering r ((step_lt n m ≡ false) × (step_eq n m ≡ false)) (m ≡ n) (step_lt n m ≡ true)

abbrev pub PlacesCompare : Ordering → List (Option ℕ) → List (Option ℕ) → Type 0
PlacesCompare r p q = MatchOrdering r (place_lt q p ≡ false) (p ≡ q) (place_lt q p ≡ true)

-- numbers compare as they do
numbers_compare : (m n : ℕ) (r : Ordering) → r ≡ nat_cmp m n → StepsCompare r (Some m) (Some n)
numbers_compare m n Less e = let l = ranked m n Less e in (grind (arith, nat_tests), grind (arith, nat_tests))
numbers_compare m n Equal e = ap Some (ranked m n Equal e)
numbers_compare m n Greater e = let l = ranked m n Greater e in grind (arith, nat_tests)

-- and closing steps
steps_compare : (x y : ClosingStep) → StepsCompare (step_cmp x y) (step_number x) (step_number y)
steps_compare (Came m) (Came n) = numbers_compare m n (nat_cmp m n) refl
steps_compare (Came m) NotCome = (refl, refl)
steps_compare NotCome (Came n) = refl
steps_compare NotCome NotCome = refl

-- no closing step is before itself
step_not_before : (m : Option ℕ) → step_lt m m ≡ false
step_not_before None = refl
step_not_before (Some m) = grind (arith, nat_tests)

step_same : (m : Option ℕ) → step_eq m m ≡ true
step_same None = refl
step_same (Some m) = grind (arith, nat_tests)

-- one number more in front
in_front : (r s : Ordering) (m n : Option ℕ) (p q : List (Option ℕ)) → StepsCompare r m n → PlacesCompare s p q
    → PlacesCompare (ordering_then r s) (m ∷ p) (n ∷ q)
in_front Less s m n p q h k = ap (λ t. t || (step_eq n m && place_lt q p)) h.0 ∙ ap (λ t. t && place_lt q p) h.1
in_front Greater s m n p q h k = ap (λ t. t || (step_eq n m && place_lt q p)) h
in_front Equal s m n p q h k = behind s k
  where
    same : place_lt (n ∷ q) (m ∷ p) ≡ place_lt q p
    same =
        ap (λ x. step_lt n x || (step_eq n x && place_lt q p)) h
        ∙ ap (λ t. t || (step_eq n n && place_lt q p)) (step_not_before n)
        ∙ ap (λ t. t && place_lt q p) (step_same n)

    behind : (t : Ordering) → PlacesCompare t p q → PlacesCompare t (m ∷ p) (n ∷ q)
    behind Less l = same ∙ l
    behind Equal e = ap (λ x. x ∷ p) h ∙ ap (λ l. n ∷ l) e
    behind Greater g = same ∙ g

-- so do places
pub places_compare : (xs ys : List ClosingStep) → PlacesCompare (slice_cmp step_cmp xs ys) (map step_number xs) (map step_number ys)
places_compare [] [] = refl
places_compare [] (y ∷ ys) = refl
places_compare (x ∷ xs) [] = refl
places_compare (x ∷ xs) (y ∷ ys) =
    in_front (step_cmp x y) (slice_cmp step_cmp xs ys) (step_number x) (step_number y) (map step_number xs) (map step_number ys) (steps_compare x y) (places_compare xs ys)

-- lists of steps compare alike by two comparisons that are one
pub alike : (R : ClosingStep → ClosingStep → Ordering) → ((x y : ClosingStep) → R x y ≡ step_cmp x y) → (xs ys : List ClosingStep)
    → slice_cmp R xs ys ≡ slice_cmp step_cmp xs ys
alike R h xs ys = λ i. slice_cmp (λ x y. h x y i) xs ys
