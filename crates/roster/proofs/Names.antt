-- Names among names, and names above names.
use Rattle.std.proofs.Common.{Bool, List, [], ap, arith, false, length, not, refl, subst, sym, true, inl, inr, ◌++◌, ◌-◌, ◌||◌, ◌∙◌, ◌∷◌, ◌≡◌, ◌≤◌}
use Rattle.std.specs.List.{list_any}
use Rattle.std.proofs.lemmas.Bool.{and_from, and_parts, false≢true, or_cases, or_left, or_right, true≢false}
use Rattle.action_names.specs.Names.{Name, has_name, is_ancestor, is_prefix, is_top, parent_of, same_name}
use Rattle.action_names.proofs.Ancestry.{same_is, same_refl}
use Rattle.guardian_laws.specs.Actions.{is_child}

-- a test does not both pass and fail
pub clash : {t : Bool} → t ≡ true → t ≡ false → ⊥
clash h k = true≢false (sym h ∙ k)

pub has_name-append : (xs ys : List Name) (a : Name) → has_name (xs ++ ys) a ≡ (has_name xs a || has_name ys a)
has_name-append [] ys a = refl
has_name-append (x ∷ xs) ys a = step (same_name x a) (has_name xs a) (has_name ys a) _ (has_name-append xs ys a)
  where
    step : (t u v w : Bool) → w ≡ (u || v) → (t || w) ≡ ((t || u) || v)
    step true u v w h = refl
    step false u v w h = h

prefix_self : (a : Name) → is_prefix a a ≡ true
prefix_self [] = refl
prefix_self (n ∷ a) = let same : same_name (n ∷ []) (n ∷ []) ≡ true = same_refl (n ∷ []) in and_from _ _ (and_parts _ _ same).0 (prefix_self a)

-- a name is above itself
pub above_self : (a : Name) → 1 ≤ length a → is_ancestor a a ≡ true
above_self [] h = absurd (omega arith)
above_self (n ∷ a) h = prefix_self (n ∷ a)

prefix_parent : (a : Name) → is_prefix (parent_of a) a ≡ true
prefix_parent [] = refl
prefix_parent (n ∷ []) = refl
prefix_parent (m ∷ n ∷ a) = let same : same_name (m ∷ []) (m ∷ []) ≡ true = same_refl (m ∷ []) in and_from _ _ (and_parts _ _ same).0 (prefix_parent (n ∷ a))

-- a parent is above its child
pub above_child : (a b : Name) → is_child a b ≡ true → 1 ≤ length b → is_ancestor a b ≡ true
above_child a [] child h = absurd (omega arith)
above_child a (n ∷ []) child h = absurd (false≢true child)
above_child a (m ∷ n ∷ b) child h =
    subst (λ c. is_ancestor c (m ∷ n ∷ b) ≡ true) (same_is (parent_of (m ∷ n ∷ b)) a child) (prefix_parent (m ∷ n ∷ b))

pub length_parent : (b : Name) → length (parent_of b) ≡ length b - 1
length_parent [] = refl
length_parent (n ∷ []) = refl
length_parent (m ∷ n ∷ b) = omega (arith, length_parent (n ∷ b))

-- no action is its own child
pub no_own_child : (a : Name) → is_child a a ≡ true → 1 ≤ length a → ⊥
no_own_child a child h =
    let same : length (parent_of a) ≡ length a = ap length (same_is (parent_of a) a (and_parts (not (is_top a)) (same_name (parent_of a) a) child).1) in
    let less = length_parent a in
    omega arith

-- who is among names has one of them below it, itself
pub any_below : (bs : List Name) (a : Name) → has_name bs a ≡ true → 1 ≤ length a → list_any (λ c. is_ancestor a c) bs ≡ true
any_below [] a has h = absurd (true≢false (sym has))
any_below (b ∷ bs) a has h = elim (or_cases (same_name b a) (has_name bs a) has) [
  | inl same ↦ or_left _ _ (subst (λ c. is_ancestor a c ≡ true) (sym (same_is b a same)) (above_self a h))
  | inr later ↦ or_right _ _ (any_below bs a later h)
]
