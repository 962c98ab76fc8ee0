-- Going over a history event by event, and up from an action: what the definitions say of each step on the way.
use Rattle.std.proofs.Common.{◌≡◌, ℕ, suc, ◌-◌, ◌<◌, ◌≤◌, Bool, true, false, ◌||◌, List, [], ◌∷◌, ◌++◌, length, reverse, map, IsNone, IsTrue, IfSome, ◌↔◌, refl, sym, subst, ap, ◌∙◌, arith, Option, Some, None}
use Rattle.std.specs.List.{list_any}
use Rattle.std.proofs.lemmas.Bool.{false≢true}
use Rattle.std.proofs.lemmas.List.{append_assoc, map-append, reverse-append}
use Rattle.action_names.specs.Names.{Name, IsName, ancestors, has_name, is_top, parent_of, same_name}
use Rattle.run_model.specs.declared.history.Event.{Event}
use Rattle.run_model.specs.Actions.{begins, begun, is_begun, names_begun}

-- a name of two lists together
has_name_append : (xs ys : List Name) (a : Name) → has_name (xs ++ ys) a ≡ (has_name xs a || has_name ys a)
has_name_append [] ys a = refl
has_name_append (x ∷ xs) ys a = step (same_name x a) (has_name xs a) (has_name ys a) _ (has_name_append xs ys a)
  where
    step : (t u v w : Bool) → w ≡ (u || v) → (t || w) ≡ ((t || u) || v)
    step true u v w h = refl
    step false u v w h = h

-- what some event begins was begun
pub any_begins : (a : Name) (past : List Event) → list_any (λ e. begins e a) past ≡ is_begun a past
any_begins a [] = refl
any_begins a (e ∷ past) = ap (λ t. begins e a || t) (any_begins a past) ∙ sym (has_name_append (names_begun e.answer) (begun past) a)

-- the ancestors of who is next
abbrev pub up_from : Option Name → List Name
up_from None = []
up_from (Some b) = ancestors b

-- how many those are
abbrev pub height : Option Name → ℕ
height None = 0
height (Some b) = length b

-- an action is the last of its ancestors
pub ancestors_last : (b : Name) → 1 ≤ length b → ancestors b ≡ ancestors (parent_of b) ++ b ∷ []
ancestors_last [] h = absurd (omega arith)
ancestors_last (n ∷ []) h = refl
ancestors_last (m ∷ n ∷ b) h =
    ap (λ l. (m ∷ []) ∷ map (λ a. m ∷ a) l) (ancestors_last (n ∷ b) (omega arith))
    ∙ ap (λ l. (m ∷ []) ∷ l) (map-append (λ a. m ∷ a) (ancestors (parent_of (n ∷ b))) ((n ∷ b) ∷ []))

-- no parent, as a call gives it, is that of a top action
pub up_from_parent : (b : Name) (next : Option Name) → (IsNone next ↔ IsTrue (is_top b)) → IfSome next (λ p. IsName p × (p ≡ parent_of b))
    → up_from next ≡ ancestors (parent_of b)
up_from_parent [] None t p = refl
up_from_parent (n ∷ []) None t p = refl
up_from_parent (m ∷ n ∷ b) None t p = absurd (false≢true (t.0 refl))
up_from_parent b (Some a) t p = ap ancestors p.1

length_parent : (b : Name) → length (parent_of b) ≡ length b - 1
length_parent [] = refl
length_parent (n ∷ []) = refl
length_parent (m ∷ n ∷ b) = omega (arith, length_parent (n ∷ b))

-- the parent has a name
pub parent_named : (b : Name) (next : Option Name) → IfSome next (λ p. IsName p × (p ≡ parent_of b)) → IfSome next IsName
parent_named b None p = tt
parent_named b (Some a) p = p.0

-- so has who is there
here_named : (o : Option Name) (b : Name) → o ≡ Some b → IfSome o IsName → IsName b
here_named o b here named = let Named : Option Name → Type 0 = λ x. IfSome x IsName in subst Named here named

-- the parent stands higher
pub height_falls : (o next : Option Name) (b : Name) → o ≡ Some b → IfSome o IsName → IfSome next (λ p. IsName p × (p ≡ parent_of b))
    → height next < height o
height_falls o next b here named p =
    let whole : height o ≡ length b = ap height here in
    let shorter = step next (here_named o b here named) p in
    omega arith
  where
    step : (above : Option Name) → IsName b → IfSome above (λ a. IsName a × (a ≡ parent_of b)) → suc (height above) ≤ length b
    step None is q = is.not_empty
    step (Some a) is q = let l = ap length q.1 in let m = length_parent b in let e = is.not_empty in omega arith

-- one ancestor more in the list
pub up_more : (a b : Name) (o next : Option Name) (items more : List Name) → o ≡ Some b → IfSome o IsName → up_from o ++ reverse items ≡ ancestors a
    → more ≡ items ++ b ∷ [] → (IsNone next ↔ IsTrue (is_top b)) → IfSome next (λ p. IsName p × (p ≡ parent_of b))
    → up_from next ++ reverse more ≡ ancestors a
up_more a b o next items more here named so_far pushed t p =
    let is = here_named o b here named in
    ap (λ l. l ++ reverse more) (up_from_parent b next t p)
    ∙ ap (λ l. ancestors (parent_of b) ++ l) (ap reverse pushed ∙ reverse-append items (b ∷ []))
    ∙ sym (append_assoc (ancestors (parent_of b)) (b ∷ []) (reverse items))
    ∙ ap (λ l. l ++ reverse items) (sym (ancestors_last b is.not_empty))
    ∙ ap (λ x. up_from x ++ reverse items) (sym here)
    ∙ so_far
