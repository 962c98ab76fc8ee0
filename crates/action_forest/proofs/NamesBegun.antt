-- What a history says once an event begins one name more.
use Rattle.std.proofs.Common.{Bool, List, [], Option, ap, arith, cond, count_by, false, filter, length, map, refl, sym, true, ℕ, ◌++◌, ◌+◌, ◌||◌, ◌∙◌, ◌∷◌, ◌≡◌}
use Rattle.action_names.specs.Names.{Name, has_name, same_name}
use Rattle.run_model.specs.LocalHistories.{NewAction, RegistryEvent, new_least}
use Rattle.run_model.specs.LocalReadings.{beside}
use Rattle.run_model.specs.Openings.{Opening}
use Rattle.action_forest.proofs.Counted.{count_front}
use Rattle.action_forest.proofs.Names.{same_name_true}
use Rattle.action_forest.specs.Events.{first_action, first_entries}

-- one name more at the end of the first of two lists
pub has_name_more : (xs ys : List Name) (b a : Name) → has_name ((xs ++ b ∷ []) ++ ys) a ≡ (same_name b a || has_name (xs ++ ys) a)
has_name_more [] ys b a = refl
has_name_more (x ∷ xs) ys b a = step (same_name x a) (same_name b a) (has_name (xs ++ ys) a) _ (has_name_more xs ys b a)
  where
    step : (t u v w : Bool) → w ≡ (u || v) → (t || w) ≡ (u || (t || v))
    step true true v w h = refl
    step true false v w h = refl
    step false u v w h = h

pub length_more : (xs ys : List Name) (b : Name) → length ((xs ++ b ∷ []) ++ ys) ≡ length (xs ++ ys) + 1
length_more [] ys b = omega arith
length_more (x ∷ xs) ys b = omega (arith, length_more xs ys b)

pub filter_more : (p : Name → Bool) (xs ys : List Name) (b : Name)
    → length (filter p ((xs ++ b ∷ []) ++ ys)) ≡ length (filter p (xs ++ ys)) + cond (p b) 1 0
filter_more p [] ys b = of (p b)
  where
    of : (t : Bool) → length (cond t (b ∷ filter p ys) (filter p ys)) ≡ length (filter p ys) + cond t 1 0
    of true = omega arith
    of false = omega arith
filter_more p (x ∷ xs) ys b = of (p x) (filter_more p xs ys b)
  where
    of : (t : Bool) → length (filter p ((xs ++ b ∷ []) ++ ys)) ≡ length (filter p (xs ++ ys)) + cond (p b) 1 0
        → length (cond t (x ∷ filter p ((xs ++ b ∷ []) ++ ys)) (filter p ((xs ++ b ∷ []) ++ ys)))
        ≡ length (cond t (x ∷ filter p (xs ++ ys)) (filter p (xs ++ ys))) + cond (p b) 1 0
    of true ih = omega arith
    of false ih = ih

count_more : (p : Name → Bool) (xs ys : List Name) (b : Name) → count_by p ((xs ++ b ∷ []) ++ ys) ≡ count_by p (xs ++ ys) + cond (p b) 1 0
count_more p [] ys b = omega (arith, count_front p b ys)
count_more p (x ∷ xs) ys b = omega (arith, count_more p xs ys b, count_front p x ((xs ++ b ∷ []) ++ ys), count_front p x (xs ++ ys))

-- of what is made, if these are
pub made_more : (p : Name → Bool) (made : Bool) (xs ys : List Name) (b : Name)
    → count_by p (cond made (xs ++ b ∷ []) [] ++ ys) ≡ count_by p (cond made xs [] ++ ys) + cond made (cond (p b) 1 0) 0
made_more p true xs ys b = count_more p xs ys b
made_more p false xs ys b = omega arith

-- what is said of those that an event begins, and otherwise of others
pub value_more : {B : Type 0} (xs : List Name) (b a : Name) (u v : B)
    → cond (has_name (xs ++ b ∷ []) a) u v ≡ cond (same_name b a) u (cond (has_name xs a) u v)
value_more [] b a u v = of (same_name b a)
  where
    of : (s : Bool) → cond (s || false) u v ≡ cond s u v
    of true = refl
    of false = refl
value_more (x ∷ xs) b a u v = of (same_name x a) (same_name b a) (has_name xs a) _ (value_more xs b a u v)
  where
    of : (t s h w : Bool) → cond w u v ≡ cond s u (cond h u v) → cond (t || w) u v ≡ cond s u (cond (t || h) u v)
    of true true h w e = refl
    of true false h w e = refl
    of false s h w e = e

module _ (opening : Opening) (registry : List RegistryEvent) (home life : ℕ) where
  abbrev new : List Name → List NewAction
  new names = map (λ b. first_action opening registry home life b) names

  least_same : (names : List Name) (a : Name) (g : ℕ) (before : Option ℕ)
      → cond (has_name names a) (new_least (new names) a g) before ≡ cond (has_name names a) (beside (first_entries opening registry home life a) g) before
  least_same [] a g before = refl
  least_same (x ∷ names) a g before = of (same_name x a) (has_name names a) refl (least_same names a g before)
    where
      of : (t h : Bool) → same_name x a ≡ t
          → cond h (new_least (new names) a g) before ≡ cond h (beside (first_entries opening registry home life a) g) before
          → cond (t || h) (cond t (beside (first_entries opening registry home life x) g) (new_least (new names) a g)) before
          ≡ cond (t || h) (beside (first_entries opening registry home life a) g) before
      of true h same e = ap (λ c. beside (first_entries opening registry home life c) g) (same_name_true x a same)
      of false h same e = e

  pub least_more : (xs : List Name) (b a : Name) (g : ℕ) (before : Option ℕ)
      → cond (has_name (xs ++ b ∷ []) a) (new_least (new (xs ++ b ∷ [])) a g) before
      ≡ cond (same_name b a) (beside (first_entries opening registry home life b) g) (cond (has_name xs a) (new_least (new xs) a g) before)
  least_more xs b a g before =
      least_same (xs ++ b ∷ []) a g before
      ∙ value_more xs b a (beside (first_entries opening registry home life a) g) before
      ∙ ap (cond (same_name b a) (beside (first_entries opening registry home life a) g)) (sym (least_same xs a g before))
      ∙ of (same_name b a) refl
    where
      of : (t : Bool) → same_name b a ≡ t
          → cond t (beside (first_entries opening registry home life a) g) (cond (has_name xs a) (new_least (new xs) a g) before)
          ≡ cond t (beside (first_entries opening registry home life b) g) (cond (has_name xs a) (new_least (new xs) a g) before)
      of true same = ap (λ c. beside (first_entries opening registry home life c) g) (sym (same_name_true b a same))
      of false differ = refl
