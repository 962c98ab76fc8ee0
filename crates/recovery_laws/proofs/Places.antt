-- Lists place by place.
use Rattle.std.proofs.Common.{List, None, Option, Some, [], ap, arith, fold, inl, inr, length, max, refl, slice_get, suc, sym, zero, ℕ, ◌++◌, ◌+◌, ◌<◌, ◌∙◌, ◌∷◌, ◌≡◌, ◌≢◌, ◌⊎◌}
use Rattle.std.proofs.lemmas.Bool.{cases_eq}
use Rattle.std.proofs.lemmas.List.{reverse-append}
use Rattle.std.proofs.lemmas.Option.{same_Some}
use Rattle.run_model.specs.Lists.{down_from, up_to}
use Rattle.stable_store.specs.Stored.{Stored}

-- one stands at each place within the list
pub at_place : {X : Type 0} (xs : List X) (i : ℕ) → i < length xs → (x : X) × (slice_get xs i ≡ Some x)
at_place [] i h = absurd (omega arith)
at_place (x ∷ xs) zero h = (x, refl)
at_place (x ∷ xs) (suc i) h = at_place xs i (omega arith)

-- lists that are alike at each place are the same
pub same_places : {X : Type 0} (xs ys : List X) → ((i : ℕ) → slice_get xs i ≡ slice_get ys i) → xs ≡ ys
same_places [] [] h = refl
same_places {X = X} [] (y ∷ ys) h = absurd (let q : ◌≡◌ {A = Option X} None (Some y) = h 0 in cc)
same_places {X = X} (x ∷ xs) [] h = absurd (let q : ◌≡◌ {A = Option X} (Some x) None = h 0 in cc)
same_places (x ∷ xs) (y ∷ ys) h = λ i. same_Some x y (h 0) i ∷ same_places xs ys (λ j. h (suc j)) i

-- where two lists differ at one place at most, one that is at each place as either of them is one of them
pub one_of_two : {X : Type 0} (old new left : List X) (place : ℕ) → ((i : ℕ) → i ≢ place → slice_get new i ≡ slice_get old i)
    → ((i : ℕ) → (slice_get left i ≡ slice_get old i) ⊎ (slice_get left i ≡ slice_get new i)) → (left ≡ old) ⊎ (left ≡ new)
one_of_two old new left place others between = elim (between place) [
  | inl here ↦ inl (same_places left old (λ i. elim (cases_eq i place) [
    | inl is ↦ ap (λ j. slice_get left j) is ∙ here ∙ sym (ap (λ j. slice_get old j) is)
    | inr apart ↦ elim (between i) [ inl k ↦ k | inr k ↦ k ∙ others i apart ]
  ]))
  | inr here ↦ inr (same_places left new (λ i. elim (cases_eq i place) [
    | inl is ↦ ap (λ j. slice_get left j) is ∙ here ∙ sym (ap (λ j. slice_get new j) is)
    | inr apart ↦ elim (between i) [ inl k ↦ k ∙ sym (others i apart) | inr k ↦ k ]
  ]))
]

-- the n numbers behind k
counted : ℕ → ℕ → List ℕ
counted k zero = []
counted k (suc n) = suc k ∷ counted (suc k) n

counted_more : (k n : ℕ) → counted k (suc n) ≡ counted k n ++ suc (k + n) ∷ []
unfolding counted
counted_more k zero = let e : k ≡ k + 0 = omega arith in ap (λ m. suc m ∷ []) e
counted_more k (suc n) =
    let e : suc (suc k + n) ≡ suc (k + suc n) = omega arith in
    ap (λ ms. suc k ∷ ms) (counted_more (suc k) n) ∙ ap (λ m. suc k ∷ (counted (suc k) n ++ m ∷ [])) e

up_to_counted : (n : ℕ) → up_to n ≡ counted 0 n
unfolding counted
up_to_counted zero = refl
up_to_counted (suc n) =
    let e : suc n ≡ suc (0 + n) = omega arith in
    reverse-append (suc n ∷ []) (down_from n) ∙ ap (λ ms. ms ++ suc n ∷ []) (up_to_counted n) ∙ ap (λ m. counted 0 n ++ m ∷ []) e ∙ sym (counted_more 0 n)

greatest_counted : (f : ℕ → ℕ) (k m : ℕ) (stores : List Stored)
    → ((i : ℕ) (s : Stored) → slice_get stores i ≡ Some s → s.next_top ≡ f (suc (k + i)))
    → fold (λ m s. max m s.next_top) m stores ≡ fold (λ m g. max m (f g)) m (counted k (length stores))
unfolding counted
greatest_counted f k m [] h = refl
greatest_counted f k m (s ∷ stores) h =
    let e : suc (k + 0) ≡ suc k = omega arith in
    ap (λ n. fold (λ m t. max m t.next_top) (max m n) stores) (h 0 s refl ∙ ap f e)
    ∙ greatest_counted f (suc k) (max m (f (suc k))) stores (λ i t q. let e : suc (k + suc i) ≡ suc (suc k + i) = omega arith in h (suc i) t q ∙ ap f e)

-- the greatest of what the stores have, by the numbers of their guardians
pub greatest_by_number : (f : ℕ → ℕ) (m : ℕ) (stores : List Stored)
    → ((i : ℕ) (s : Stored) → slice_get stores i ≡ Some s → s.next_top ≡ f (i + 1))
    → fold (λ m s. max m s.next_top) m stores ≡ fold (λ m g. max m (f g)) m (up_to (length stores))
greatest_by_number f m stores h =
    greatest_counted f 0 m stores (λ i s q. let e : i + 1 ≡ suc (0 + i) = omega arith in h i s q ∙ ap f e)
    ∙ sym (ap (λ ms. fold (λ m g. max m (f g)) m ms) (up_to_counted (length stores)))
