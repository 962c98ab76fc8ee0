-- Counts of names.
use Rattle.std.proofs.Common.{Bool, List, [], ap, arith, cond, count_by, false, length, not, refl, subst, sym, true, ℕ, ◌++◌, ◌+◌, ◌||◌, ◌∙◌, ◌∷◌, ◌≡◌}
use Rattle.std.specs.Prelude.{nat_lt}
use Rattle.std.specs.List.{list_any}
use Rattle.std.proofs.lemmas.Bool.{lt-ltb}
use Rattle.std.proofs.lemmas.List.Sums.{sum_by-append}
use Rattle.action_names.specs.Names.{Name, has_name, same_name}
use Rattle.action_names.proofs.Ancestry.{same_is, same_refl, same_sym}

-- one name more in front
pub count_front : (p : Name → Bool) (x : Name) (xs : List Name) → count_by p (x ∷ xs) ≡ cond {A = ℕ} (p x) 1 0 + count_by p xs
count_front p x xs =
    let one : 0 + cond {A = ℕ} (p x) 1 0 ≡ cond {A = ℕ} (p x) 1 0 = omega arith in
    sum_by-append (λ (y : Name). cond {A = ℕ} (p y) 1 0) (x ∷ []) xs ∙ ap (λ n. n + count_by p xs) one

pub count-append : (p : Name → Bool) (xs ys : List Name) → count_by p (xs ++ ys) ≡ count_by p xs + count_by p ys
count-append p xs ys = sum_by-append (λ (y : Name). cond {A = ℕ} (p y) 1 0) xs ys

pub same_turned : (a b : Name) → same_name a b ≡ same_name b a
same_turned a b = of (same_name a b) refl (same_name b a) refl
  where
    of : (s : Bool) → same_name a b ≡ s → (t : Bool) → same_name b a ≡ t → s ≡ t
    of true h true k = refl
    of true h false k = sym (same_sym a b h) ∙ k
    of false h true k = sym h ∙ same_sym b a k
    of false h false k = refl

-- once t has ended, those that have not are fewer by as many as are t
pub fewer : (t : Name) (old new : Name → Bool) → old t ≡ false → ((b : Name) → new b ≡ (same_name t b || old b)) → (xs : List Name)
    → count_by (λ b. not (new b)) xs + count_by (λ b. same_name b t) xs ≡ count_by (λ b. not (old b)) xs
fewer t old new h is [] = refl
fewer t old new h is (x ∷ xs) = step (same_name t x) refl (fewer t old new h is xs)
  where
    step : (b : Bool) → same_name t x ≡ b
        → count_by (λ c. not (new c)) xs + count_by (λ c. same_name c t) xs ≡ count_by (λ c. not (old c)) xs
        → count_by (λ c. not (new c)) (x ∷ xs) + count_by (λ c. same_name c t) (x ∷ xs) ≡ count_by (λ c. not (old c)) (x ∷ xs)
    step true same rest =
        let now : cond {A = ℕ} (not (new x)) 1 0 ≡ 0 = ap (λ v. cond (not v) 1 0) (is x ∙ ap (λ v. v || old x) same) in
        let one : cond {A = ℕ} (same_name x t) 1 0 ≡ 1 = ap (λ v. cond v 1 0) (same_turned x t ∙ same) in
        let before : cond {A = ℕ} (not (old x)) 1 0 ≡ 1 = ap (λ v. cond (not v) 1 0) (subst (λ c. old c ≡ false) (same_is t x same) h) in
        omega (arith, count_front (λ c. not (new c)) x xs, count_front (λ c. same_name c t) x xs, count_front (λ c. not (old c)) x xs)
    step false differ rest =
        let now : cond {A = ℕ} (not (new x)) 1 0 ≡ cond {A = ℕ} (not (old x)) 1 0 = ap (λ v. cond (not v) 1 0) (is x ∙ ap (λ v. v || old x) differ) in
        let none : cond {A = ℕ} (same_name x t) 1 0 ≡ 0 = ap (λ v. cond v 1 0) (same_turned x t ∙ differ) in
        omega (arith, count_front (λ c. not (new c)) x xs, count_front (λ c. same_name c t) x xs, count_front (λ c. not (old c)) x xs)

-- names that all pass are counted all
pub all_counted : (p : Name → Bool) (xs : List Name) → ((b : Name) → has_name xs b ≡ true → p b ≡ true) → count_by p xs ≡ length xs
all_counted p [] pass = refl
all_counted p (x ∷ xs) pass =
    let one : cond {A = ℕ} (p x) 1 0 ≡ 1 = ap (λ v. cond v 1 0) (pass x (ap (λ v. v || has_name xs x) (same_refl x))) in
    let rest = all_counted p xs (λ b has. pass b (later (same_name x b) (has_name xs b) has)) in
    omega (arith, count_front p x xs)
  where
    later : (s t : Bool) → t ≡ true → (s || t) ≡ true
    later true t h = refl
    later false t h = h

-- a name that is not there is counted not at all
pub none_counted : (a : Name) (xs : List Name) → has_name xs a ≡ false → count_by (λ b. same_name b a) xs ≡ 0
none_counted a [] h = refl
none_counted a (x ∷ xs) h = of (same_name x a) refl h (none_counted a xs)
  where
    of : (s : Bool) → same_name x a ≡ s → (s || has_name xs a) ≡ false → (has_name xs a ≡ false → count_by (λ b. same_name b a) xs ≡ 0)
        → count_by (λ b. same_name b a) (x ∷ xs) ≡ 0
    of true same k rest = absurd (cc)
    of false differ k rest =
        let none : cond {A = ℕ} (same_name x a) 1 0 ≡ 0 = ap (λ v. cond v 1 0) differ in
        let others = rest k in
        omega (arith, count_front (λ b. same_name b a) x xs)

-- some pass where the count is not 0
pub any_counted : (p : Name → Bool) (xs : List Name) → nat_lt 0 (count_by p xs) ≡ list_any p xs
any_counted p [] = refl
any_counted p (x ∷ xs) = ap (nat_lt 0) (count_front p x xs) ∙ of (p x) (any_counted p xs)
  where
    of : (b : Bool) → nat_lt 0 (count_by p xs) ≡ list_any p xs → nat_lt 0 (cond {A = ℕ} b 1 0 + count_by p xs) ≡ (b || list_any p xs)
    of true e = lt-ltb 0 (1 + count_by p xs) (omega arith)
    of false e = let same : 0 + count_by p xs ≡ count_by p xs = omega arith in ap (nat_lt 0) same ∙ e
