-- Lines one after another.
use Rattle.std.proofs.Common.{List, [], ap, arith, get_or, length, suc, sym, take, ℕ, ◌+◌, ◌++◌, ◌<◌, ◌∙◌, ◌∷◌, ◌≡◌, append_assoc, append-nil}
use Rattle.std.proofs.lemmas.List.{take_more, length-take-le}
use Rattle.script_engine.specs.Running.{numbered}

module _ {X : Type 0} (say : ℕ → X → List ℕ) where
  numbered_more : (n : ℕ) (xs : List X) (x : X) → numbered say n (xs ++ x ∷ []) ≡ numbered say n xs ++ say (n + length xs) x
  numbered_more n [] x = let same : n ≡ n + 0 = omega arith in append-nil (say n x) ∙ ap (λ k. say k x) same
  numbered_more n (y ∷ xs) x =
      let same : suc n + length xs ≡ n + suc (length xs) = omega arith in
      ap (λ l. say n y ++ l) (numbered_more (suc n) xs x ∙ ap (λ k. numbered say (suc n) xs ++ say k x) same)
      ∙ sym (append_assoc (say n y) (numbered say (suc n) xs) (say (n + suc (length xs)) x))

  -- what is said of one more, behind the front of a text
  pub one_more_said : (xs : List X) (i : ℕ) (x : X) (front before after : List ℕ) → i < length xs → x ≡ get_or xs i x
      → before ≡ front ++ numbered say 1 (take i xs) → after ≡ before ++ say (i + 1) x → after ≡ front ++ numbered say 1 (take (i + 1) xs)
  one_more_said xs i x front before after lt item so_far push =
      let count : 1 + length (take i xs) ≡ i + 1 = omega (arith, length-take-le i xs (omega (arith, lt))) in
      push ∙ ap (λ t. t ++ say (i + 1) x) so_far ∙ append_assoc front (numbered say 1 (take i xs)) (say (i + 1) x)
      ∙ ap (λ l. front ++ l) (
      ap (λ k. numbered say 1 (take i xs) ++ say k x) (sym count)
      ∙ sym (numbered_more 1 (take i xs) x)
      ∙ ap (λ y. numbered say 1 (take i xs ++ y ∷ [])) item
      ∙ ap (numbered say 1) (sym (take_more xs i x lt))
      )
