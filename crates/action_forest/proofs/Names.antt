-- Names as paths that grow at their ends.
use Rattle.std.proofs.Common.{Bool, List, [], ap, ap₂, eq-eqb, eqb-true, false, refl, subst, sym, true, ℕ, ◌++◌, ◌||◌, ◌∙◌, ◌∷◌, ◌≡◌, ◌≢◌}
use Rattle.std.proofs.lemmas.Bool.{and_from, and_parts, false_from_ne_true, false≢true, true≢false}
use Rattle.std.proofs.lemmas.List.{append-nil, append_assoc}
use Rattle.action_names.specs.Names.{Name, child_of, has_name, is_top, last_of, parent_of, same_name}

-- a test does not both pass and fail
pub clash : {t : Bool} → t ≡ true → t ≡ false → ⊥
clash h k = true≢false (sym h ∙ k)

pub same_name_true : (a b : Name) → same_name a b ≡ true → a ≡ b
same_name_true [] [] h = refl
same_name_true [] (y ∷ b) h = absurd (false≢true h)
same_name_true (x ∷ a) [] h = absurd (false≢true h)
same_name_true (x ∷ a) (y ∷ b) h = ap₂ (λ n c. n ∷ c) (eqb-true x y (and_parts _ _ h).0) (same_name_true a b (and_parts _ _ h).1)

pub same_name_self : (a : Name) → same_name a a ≡ true
same_name_self [] = refl
same_name_self (x ∷ a) = and_from _ _ (eq-eqb x x refl) (same_name_self a)

pub same_name_is : (a b : Name) → a ≡ b → same_name a b ≡ true
same_name_is a b e = subst (λ c. same_name a c ≡ true) e (same_name_self a)

pub same_name_other : (a b : Name) → a ≢ b → same_name a b ≡ false
same_name_other a b h = false_from_ne_true (same_name a b) (λ e. h (same_name_true a b e))

pub other_name : (a b : Name) → same_name a b ≡ false → a ≢ b
other_name a b h e = clash (same_name_is a b e) h

pub same_name_sym : (a b : Name) → same_name a b ≡ same_name b a
same_name_sym a b = of (same_name a b) refl
  where
    of : (t : Bool) → same_name a b ≡ t → t ≡ same_name b a
    of true h = sym (same_name_is b a (sym (same_name_true a b h)))
    of false h = sym (same_name_other b a (λ e. other_name a b h (sym e)))

pub parent_child : (a : Name) (n : ℕ) → parent_of (child_of a n) ≡ a
parent_child [] n = refl
parent_child (x ∷ []) n = refl
parent_child (x ∷ y ∷ a) n = ap (λ b. x ∷ b) (parent_child (y ∷ a) n)

pub last_child : (a : Name) (n : ℕ) → last_of (child_of a n) ≡ n
last_child [] n = refl
last_child (x ∷ []) n = refl
last_child (x ∷ y ∷ a) n = last_child (y ∷ a) n

-- the child of an action is no top action
pub child_not_top : (x : ℕ) (a : Name) (n : ℕ) → is_top (child_of (x ∷ a) n) ≡ false
child_not_top x [] n = refl
child_not_top x (y ∷ a) n = refl

-- a name other than the empty one is that of a child of its parent
pub child_again : (x : ℕ) (a : Name) → child_of (parent_of (x ∷ a)) (last_of (x ∷ a)) ≡ x ∷ a
child_again x [] = refl
child_again x (y ∷ a) = ap (λ b. x ∷ b) (child_again y a)

-- what holds of the empty name, and of each child of a name of which it holds, holds of all
pub along : (P : Name → Type 0) → P [] → ((a : Name) (n : ℕ) → P a → P (child_of a n)) → (a : Name) → P a
along P start more a = from [] a start
  where
    from : (front rest : Name) → P front → P (front ++ rest)
    from front [] h = subst P (sym (append-nil front)) h
    from front (n ∷ rest) h = subst P (append_assoc front (n ∷ []) rest) (from (child_of front n) rest (more front n h))

pub has_name_append : (xs ys : List Name) (a : Name) → has_name (xs ++ ys) a ≡ (has_name xs a || has_name ys a)
has_name_append [] ys a = refl
has_name_append (x ∷ xs) ys a = step (same_name x a) (has_name xs a) (has_name ys a) _ (has_name_append xs ys a)
  where
    step : (t u v w : Bool) → w ≡ (u || v) → (t || w) ≡ ((t || u) || v)
    step true u v w h = refl
    step false u v w h = h
