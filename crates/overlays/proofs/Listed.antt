-- The first items of a row of items.
use Rattle.std.proofs.Common.{◌≡◌, ℕ, zero, suc, ◌<◌, ◌≤◌, List, [], ◌∷◌, ◌++◌, length, set, take, Some, None, refl, sym, ap, arith}
use Rattle.std.specs.Prelude.{Option, slice_get}
use Rattle.std.proofs.lemmas.Option.{slice_get_past}
use Rattle.values.specs.declared.value.Value.{Value}
use Rattle.overlays.specs.ArrayOverlays.{item_or_zero, listed}

pub length_listed : (n : ℕ) (f : ℕ → Option Value) → length (listed f n) ≡ n
length_listed zero f = refl
length_listed (suc n) f = ap suc (length_listed n (λ k. f (suc k)))

pub same_listed : (n : ℕ) (f g : ℕ → Option Value) → ((k : ℕ) → k < n → item_or_zero (f k) ≡ item_or_zero (g k)) → listed f n ≡ listed g n
same_listed zero f g h = refl
same_listed (suc n) f g h =
    rw (h zero (omega arith))
    (ap (λ vs. item_or_zero (g zero) ∷ vs) (same_listed n (λ k. f (suc k)) (λ k. g (suc k)) (λ k below. h (suc k) (omega arith))))

pub get_listed : (n k : ℕ) (f : ℕ → Option Value) → k < n → slice_get (listed f n) k ≡ Some (item_or_zero (f k))
get_listed zero k f h = absurd (omega arith)
get_listed (suc n) zero f h = refl
get_listed (suc n) (suc k) f h = get_listed n k (λ j. f (suc j)) (omega arith)

pub get_past_listed : (n k : ℕ) (f : ℕ → Option Value) → n ≤ k → slice_get (listed f n) k ≡ None
get_past_listed n k f h = slice_get_past (listed f n) k (rw (length_listed n f) h)

pub listed_last : (n : ℕ) (f : ℕ → Option Value) → listed f (suc n) ≡ listed f n ++ item_or_zero (f n) ∷ []
listed_last zero f = refl
listed_last (suc n) f = ap (λ vs. item_or_zero (f zero) ∷ vs) (listed_last n (λ k. f (suc k)))

-- a list is the row of its own items
pub listed_own : (vs : List Value) → listed (slice_get vs) (length vs) ≡ vs
listed_own [] = refl
listed_own (v ∷ vs) = ap (λ ws. v ∷ ws) (listed_own vs)

-- the row with another item at a place
pub set_listed : (n k : ℕ) (f g : ℕ → Option Value) (v : Value) → k < n → g k ≡ Some v
    → ((j : ℕ) → j < n → (j ≡ k → ⊥) → g j ≡ f j) → set (listed f n) k v ≡ listed g n
set_listed zero k f g v h e same = absurd (omega arith)
set_listed (suc n) zero f g v h e same =
    rw e (ap (λ ws. v ∷ ws) (same_listed n (λ k. f (suc k)) (λ k. g (suc k)) (λ k below. ap item_or_zero (sym (same (suc k) (omega arith) (λ q. omega arith))))))
set_listed (suc n) (suc k) f g v h e same =
    rw (same zero (omega arith) (λ q. omega arith))
    (ap (λ ws. item_or_zero (f zero) ∷ ws)
    (set_listed n k (λ j. f (suc j)) (λ j. g (suc j)) v (omega arith) e (λ j below apart. same (suc j) (omega arith) (λ q. apart (omega arith)))))

-- what is left of it without the last
pub take_listed : (n : ℕ) (f : ℕ → Option Value) → take n (listed f (suc n)) ≡ listed f n
take_listed zero f = refl
take_listed (suc n) f = ap (λ ws. item_or_zero (f zero) ∷ ws) (take_listed n (λ k. f (suc k)))
