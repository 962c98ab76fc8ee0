-- Lists that are alike at each place.
use Rattle.std.proofs.Common.{◌≡◌, ℕ, Bool, true, ◌&&◌, ◌==◌, List, length, sym, ap, ◌∙◌, arith}
use Rattle.std.specs.List.{list_all, zip}
use Rattle.store_recovery.specs.Belonging.{alike_each}

same_number : (n : ℕ) → (n == n) ≡ true
same_number n = grind arith

-- lists of one length are alike where all pairs are
pub alike_by_pairs : {X : Type 0} (same : X → X → Bool) (xs ys : List X) (found : Bool) → length xs ≡ length ys → found ≡ list_all (λ p. same p.0 p.1) (zip xs ys)
    → found ≡ alike_each same xs ys
alike_by_pairs same xs ys found long is =
    is ∙ ap (λ b. b && list_all (λ p. same p.0 p.1) (zip xs ys)) (sym (ap (λ n. length xs == n) (sym long) ∙ same_number (length xs)))
