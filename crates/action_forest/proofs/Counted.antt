-- Counts of names that have not ended.
use Rattle.std.proofs.Common.{Bool, List, [], ap, arith, cond, count_by, false, not, refl, subst, true, ℕ, ◌+◌, ◌||◌, ◌∙◌, ◌∷◌, ◌≡◌}
use Rattle.std.proofs.lemmas.List.Sums.{sum_by-append}
use Rattle.action_names.specs.Names.{Name, same_name}
use Rattle.action_forest.proofs.Names.{same_name_sym, same_name_true}

-- one name more in front
pub count_front : (p : Name → Bool) (x : Name) (xs : List Name) → count_by p (x ∷ xs) ≡ cond {A = ℕ} (p x) 1 0 + count_by p xs
count_front p x xs =
    let one : 0 + cond {A = ℕ} (p x) 1 0 ≡ cond {A = ℕ} (p x) 1 0 = omega arith in
    sum_by-append (λ (y : Name). cond {A = ℕ} (p y) 1 0) (x ∷ []) xs ∙ ap (λ n. n + count_by p xs) one

-- once t has ended, those that have not are fewer by as many as are t
pub fewer : (t : Name) (old new : Name → Bool) → old t ≡ false → ((b : Name) → new b ≡ (same_name t b || old b)) → (xs : List Name)
    → count_by (λ b. not (new b)) xs + count_by (λ b. same_name b t) xs ≡ count_by (λ b. not (old b)) xs
fewer t old new h is [] = refl
fewer t old new h is (x ∷ xs) = step (same_name t x) refl (fewer t old new h is xs)
  where
    step : (b : Bool) → same_name t x ≡ b
        → count_by (λ c. not (new c)) xs + count_by (λ c. same_name c t) xs ≡ count_by (λ c. not (old c)) xs
        → count_by (λ c. not (new c)) (x ∷ xs) + count_by (λ c. same_name c t) (x ∷ xs) ≡ count_by (λ c. not (old c)) (x ∷ xs)
    step true same rest =
        let now : cond {A = ℕ} (not (new x)) 1 0 ≡ 0 = ap (λ v. cond (not v) 1 0) (is x ∙ ap (λ v. v || old x) same) in
        let one : cond {A = ℕ} (same_name x t) 1 0 ≡ 1 = ap (λ v. cond v 1 0) (same_name_sym x t ∙ same) in
        let before : cond {A = ℕ} (not (old x)) 1 0 ≡ 1 = ap (λ v. cond (not v) 1 0) (subst (λ c. old c ≡ false) (same_name_true t x same) h) in
        omega (arith, count_front (λ c. not (new c)) x xs, count_front (λ c. same_name c t) x xs, count_front (λ c. not (old c)) x xs)
    step false differ rest =
        let now : cond {A = ℕ} (not (new x)) 1 0 ≡ cond {A = ℕ} (not (old x)) 1 0 = ap (λ v. cond (not v) 1 0) (is x ∙ ap (λ v. v || old x) differ) in
        let none : cond {A = ℕ} (same_name x t) 1 0 ≡ 0 = ap (λ v. cond v 1 0) (same_name_sym x t ∙ differ) in
        omega (arith, count_front (λ c. not (new c)) x xs, count_front (λ c. same_name c t) x xs, count_front (λ c. not (old c)) x xs)
