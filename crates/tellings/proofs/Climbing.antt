-- Going up from an action to its ancestors, one parent after the other, until one passes a test.
use Rattle.std.proofs.Common.{Bool, IfSome, IsNone, IsTrue, List, None, Option, Some, [], ap, arith, cond, false, length, map, refl, subst, suc, sym, true, ℕ, ◌++◌, ◌-◌, ◌<◌, ◌∙◌, ◌∷◌, ◌≡◌, ◌≤◌, ◌↔◌}
use Rattle.std.proofs.lemmas.Bool.{false≢true}
use Rattle.std.proofs.lemmas.List.{map-append}
use Rattle.action_names.specs.Names.{Name, IsName, ancestors, is_top, parent_of}
use Rattle.run_model.specs.Telling.{last_passing, or_else}

-- the ancestors of who is next
abbrev pub up_from : Option Name → List Name
up_from None = []
up_from (Some b) = ancestors b

-- how many those are
abbrev pub height : Option Name → ℕ
height None = 0
height (Some b) = length b

-- an action is the last of its ancestors
ancestors_last : (b : Name) → 1 ≤ length b → ancestors b ≡ ancestors (parent_of b) ++ b ∷ []
ancestors_last [] h = absurd (omega arith)
ancestors_last (n ∷ []) h = refl
ancestors_last (m ∷ n ∷ b) h =
    ap (λ l. (m ∷ []) ∷ map (λ a. m ∷ a) l) (ancestors_last (n ∷ b) (omega arith))
    ∙ ap (λ l. (m ∷ []) ∷ l) (map-append (λ a. m ∷ a) (ancestors (parent_of (n ∷ b))) ((n ∷ b) ∷ []))

-- who is next after an action are the ancestors of its parent, and none after a top action
pub up_from_parent : (b : Name) (next : Option Name) → (IsNone next ↔ IsTrue (is_top b)) → IfSome next (λ p. IsName p × (p ≡ parent_of b))
    → up_from next ≡ ancestors (parent_of b)
up_from_parent [] None t p = refl
up_from_parent (n ∷ []) None t p = refl
up_from_parent (m ∷ n ∷ b) None t p = absurd (false≢true (t.0 refl))
up_from_parent b (Some a) t p = ap ancestors p.1

-- the parent has a name
pub parent_named : (b : Name) (next : Option Name) → IfSome next (λ p. IsName p × (p ≡ parent_of b)) → IfSome next IsName
parent_named b None p = tt
parent_named b (Some a) p = p.0

length_parent : (b : Name) → length (parent_of b) ≡ length b - 1
length_parent [] = refl
length_parent (n ∷ []) = refl
length_parent (m ∷ n ∷ b) = omega (arith, length_parent (n ∷ b))

-- the last that passes, of names and one behind them
last_push : (p : Name → Bool) (names : List Name) (b : Name) → last_passing p (names ++ b ∷ []) ≡ or_else (cond (p b) (Some b) None) (last_passing p names)
last_push p [] b = step (p b)
  where
    step : (t : Bool) → or_else None (cond t (Some b) None) ≡ or_else (cond t (Some b) None) None
    step true = refl
    step false = refl
last_push p (a ∷ names) b =
    ap (λ o. or_else o (cond (p a) (Some a) None)) (last_push p names b) ∙ grouped (p b) (last_passing p names) (cond (p a) (Some a) None)
  where
    grouped : (t : Bool) (y z : Option Name) → or_else (or_else (cond t (Some b) None) y) z ≡ or_else (cond t (Some b) None) (or_else y z)
    grouped true y z = refl
    grouped false y z = refl

-- one action of those that are left
module _ (o : Option Name) (b : Name) (here : o ≡ Some b) (named : IfSome o IsName) where
  has_name_here : IsName b
  has_name_here = let Named : Option Name → Type 0 = λ x. IfSome x IsName in subst Named here named

  -- the last that passes is the action, if it does, or one above it
  own_or_above : (p : Name → Bool) → last_passing p (up_from o) ≡ or_else (cond (p b) (Some b) None) (last_passing p (ancestors (parent_of b)))
  own_or_above p =
      ap (λ x. last_passing p (up_from x)) here
      ∙ ap (last_passing p) (ancestors_last b has_name_here.not_empty)
      ∙ last_push p (ancestors (parent_of b)) b

  pub nearest_is_own : (p : Name → Bool) → p b ≡ true → Some b ≡ last_passing p (up_from o)
  nearest_is_own p passes = sym (own_or_above p ∙ ap (λ t. or_else (cond t (Some b) None) (last_passing p (ancestors (parent_of b)))) passes)

  -- the parent is next
  module _ (next : Option Name) (parent : IfSome next (λ a. IsName a × (a ≡ parent_of b))) where
    pub nearest_is_above : (IsNone next ↔ IsTrue (is_top b)) → (p : Name → Bool) → p b ≡ false → last_passing p (up_from next) ≡ last_passing p (up_from o)
    nearest_is_above t p fails =
        ap (last_passing p) (up_from_parent b next t parent)
        ∙ sym (own_or_above p ∙ ap (λ t. or_else (cond t (Some b) None) (last_passing p (ancestors (parent_of b)))) fails)

    -- it stands higher
    pub height_falls : height next < height o
    height_falls =
        let whole : height o ≡ length b = ap height here in
        let shorter = step next parent in
        omega arith
      where
        step : (above : Option Name) → IfSome above (λ a. IsName a × (a ≡ parent_of b)) → suc (height above) ≤ length b
        step None q = has_name_here.not_empty
        step (Some a) q = let l = ap length q.1 in let m = length_parent b in let e = has_name_here.not_empty in omega arith
