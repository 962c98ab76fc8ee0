-- Where actions are found: among the children of their parents.
use Rattle.std.proofs.Common.{Bool, List, [], None, Option, Some, ap, cond, drop, false, get_or, length, refl, sym, true, ℕ, ◌++◌, ◌+◌, ◌-◌, ◌<◌, ◌∙◌, ◌∷◌, ◌≡◌}
use Rattle.std.proofs.lemmas.List.{drop_more}
use Rattle.std.specs.Prelude.{nat_lt, slice_get}
use Rattle.std.specs.Option.{option_and_then}
use Rattle.action_names.specs.Names.{Name, child_of}
use Rattle.action_forest.specs.Trees.{Action, Trees, children_in, children_of, first_of, name_at, numbered, place_below, place_of, said}

-- where nothing is, no number leads anywhere
pub numbered_none : (first n : ℕ) → numbered [] first n ≡ None
numbered_none first n = of (nat_lt n first)
  where
    of : (b : Bool) → cond b None (slice_get {X = ℕ} [] (n - first)) ≡ None
    of true = refl
    of false = refl

below_more : (actions : List Action) (path : Name) (n : ℕ) (at : Option ℕ)
    → place_below actions (path ++ n ∷ []) at ≡ option_and_then (λ i. numbered (children_in (slice_get actions i)) 1 n) (place_below actions path at)
below_more actions [] n at = refl
below_more actions (m ∷ path) n at =
    below_more actions path n (option_and_then (λ i. numbered (children_in (slice_get actions i)) 1 m) at)

under : (actions : List Action) (n : ℕ) (o : Option ℕ)
    → option_and_then (λ i. numbered (children_in (slice_get actions i)) 1 n) o
    ≡ numbered (children_in (option_and_then (λ i. slice_get actions i) o)) 1 n
under actions n None = sym (numbered_none 1 n)
under actions n (Some i) = refl

-- a child's number leads to it
pub place_child : (forest : Trees) (a : Name) (n : ℕ) → place_of forest (child_of a n) ≡ numbered (children_of forest a) (first_of forest a) n
place_child forest [] n = refl
place_child forest (m ∷ a) n =
    below_more forest.actions a n (numbered forest.tops forest.first_top m) ∙ under forest.actions n (place_of forest (m ∷ a))

-- a path that leads nowhere goes on nowhere
pub below_none : (actions : List Action) (path : Name) → place_below actions path None ≡ None
below_none actions [] = refl
below_none actions (n ∷ path) = below_none actions path

-- a path goes on by its next number
pub below_step : (actions : List Action) (path : Name) (k at : ℕ) → k < length path
    → place_below actions (drop k path) (Some at)
    ≡ place_below actions (drop (k + 1) path) (numbered (children_in (slice_get actions at)) 1 (get_or path k 0))
below_step actions path k at h = ap (λ rest. place_below actions rest (Some at)) (drop_more path k 0 h)

-- and leads nowhere where that leads nowhere
pub below_stops : (actions : List Action) (path : Name) (k at : ℕ) → k < length path
    → numbered (children_in (slice_get actions at)) 1 (get_or path k 0) ≡ None → place_below actions (drop k path) (Some at) ≡ None
below_stops actions path k at h none =
    below_step actions path k at h ∙ ap (place_below actions (drop (k + 1) path)) none ∙ below_none actions (drop (k + 1) path)

-- what has a name is there
pub there : (forest : Trees) (i : ℕ) (a : Name) → name_at forest i ≡ Some a → (x : Action) × (slice_get forest.actions i ≡ Some x) × (x.name ≡ a)
there forest i a h = of (slice_get forest.actions i) refl h
  where
    of : (o : Option Action) → slice_get forest.actions i ≡ o → said (λ action. Some action.name) None o ≡ Some a
        → (x : Action) × (slice_get forest.actions i ≡ Some x) × (x.name ≡ a)
    of None e k = absurd (cc)
    of (Some x) e k = (x, e, cc)
