-- A walk of an action's tree begins at its children, goes on to those of each place, and ends at all descendants.
use Rattle.std.proofs.Common.{Bool, List, [], None, Option, Some, ap, arith, cond, false, get_or, inl, inr, length, map, refl, subst, sym, take, true, ℕ, ◌&&◌, ◌++◌, ◌+◌, ◌<◌, ◌≤◌, ◌∙◌, ◌∷◌, ◌≡◌, ◌⊎◌}
use Rattle.std.specs.Prelude.{slice_get}
use Rattle.std.specs.List.{list_any}
use Rattle.std.specs.Option.{option_and_then}
use Rattle.std.proofs.lemmas.List.{length-map, take-append-le, take_all, take_more}
use Rattle.std.proofs.lemmas.List.Sums.{get_or-le-sum_by, sum_by-take-le}
use Rattle.std.proofs.lemmas.Map.Made.{length-le_from_is_member}
use Rattle.std.proofs.lemmas.Option.{get_or_from_slice_get, slice_get_within}
use Rattle.action_names.specs.Comparison.{same_name-equivalence}
use Rattle.action_names.specs.Names.{Name, is_proper_ancestor, parent_of, same_name}
use Rattle.run_model.specs.Actions.{begun, is_begun}
use Rattle.run_model.specs.LocalHistories.{RegistryEvent, events_there}
use Rattle.action_forest.proofs.Names.{clash, same_name_self}
use Rattle.action_forest.proofs.WalksBelow.{all_below, at_most, reached_more, times_children, times_front}
use Rattle.action_forest.proofs.WalksNames.{any_is, distinct, has_from_times, times_in}
use Rattle.action_forest.proofs.WalksNames as names
use Rattle.action_forest.specs.Forests.{IsTree}
use Rattle.action_forest.specs.Trees.{Trees, children_in, place_of}
use Rattle.action_forest.specs.Walks.{AreBelow, AreReached, name_there, times_at}

-- an action is at places as often as its name is among theirs
pub times_named : (forest : Trees) (places : List ℕ) (b : Name) → times_in (map (name_there forest) places) b ≡ times_at forest places b
times_named forest [] b = refl
times_named forest (i ∷ places) b =
    names.times_front (name_there forest i) (map (name_there forest) places) b
    ∙ ap (λ n. cond {A = ℕ} (same_name (name_there forest i) b) 1 0 + n) (times_named forest places b)
    ∙ sym (times_front forest i places b)

-- the places so far, and one more, where more come at the end
one_more_place : (places more : List ℕ) (k i : ℕ) → slice_get places k ≡ Some i → take (k + 1) (places ++ more) ≡ take k places ++ i ∷ []
one_more_place places more k i at =
    let within : k < length places = slice_get_within places k i at in
    take-append-le (k + 1) places more (omega arith)
    ∙ take_more places k i within
    ∙ ap (λ j. take k places ++ j ∷ []) (get_or_from_slice_get places k i i at)

-- who is at one of the places is there
at_place : (forest : Trees) (places : List ℕ) (k i : ℕ) → slice_get places k ≡ Some i → 1 ≤ times_at forest places (name_there forest i)
at_place forest places k i at =
    let within : k < length places = slice_get_within places k i at in
    let one : cond {A = ℕ} (same_name (name_there forest (get_or places k i)) (name_there forest i)) 1 0 ≡ 1 =
    ap (λ j. cond {A = ℕ} (same_name (name_there forest j) (name_there forest i)) 1 0) (get_or_from_slice_get places k i i at)
    ∙ ap (λ t. cond {A = ℕ} t 1 0) (same_name_self (name_there forest i)) in
    omega (arith, get_or-le-sum_by (λ (j : ℕ). cond {A = ℕ} (same_name (name_there forest j) (name_there forest i)) 1 0) places k i within)

at_most_one : (t : Bool) → cond {A = ℕ} t 1 0 ≤ 1
at_most_one true = omega arith
at_most_one false = omega arith

module _ (registry : List RegistryEvent) (forest : Trees) (tree : IsTree registry forest) where
  -- at first its children are reached
  reached_at : (x : ℕ) (a : Name) (o : Option ℕ) → place_of forest (x ∷ a) ≡ o
      → AreReached forest (x ∷ a) (events_there registry) [] (children_in (option_and_then (λ i. slice_get forest.actions i) o))
  reached_at x a o at b =
      ap (λ p. times_at forest (children_in (option_and_then (λ i. slice_get forest.actions i) p)) b) (sym at)
      ∙ times_children registry forest tree (x ∷ a) b
      ∙ ap (λ n. cond {A = ℕ} (is_begun b (events_there registry)) n 0) same
    where
      same : cond {A = ℕ} (same_name (parent_of b) (x ∷ a)) 1 0 ≡ cond {A = ℕ} (same_name (parent_of b) (x ∷ a)) 1 0 + 0
      same = omega arith

  pub first_reached : (a : Name) (i : ℕ) → place_of forest a ≡ Some i
      → AreReached forest a (events_there registry) [] (children_in (slice_get forest.actions i))
  first_reached [] i at = absurd (none at)
    where
      none : None ≡ Some i → ⊥
      none e = cc
  first_reached (x ∷ a) i at = reached_at x a (Some i) at

  -- who is not there has no descendants
  pub none_below : (a : Name) → place_of forest a ≡ None → AreBelow forest a (events_there registry) []
  none_below [] at b = of (is_begun b (events_there registry))
    where
      of : (t : Bool) → 0 ≡ cond {A = ℕ} (t && false) 1 0
      of true = refl
      of false = refl
  none_below (x ∷ a) at b = all_below registry forest tree x a [] (reached_at x a None at) b

  -- then those of the action at the next place
  pub next_reached : (a : Name) (places : List ℕ) (k i : ℕ) → slice_get places k ≡ Some i
      → AreReached forest a (events_there registry) (take k places) places
      → AreReached forest a (events_there registry) (take (k + 1) (places ++ children_in (slice_get forest.actions i))) (places ++ children_in (slice_get forest.actions i))
  next_reached a places k i at reached =
      subst (λ first. AreReached forest a (events_there registry) first (places ++ children_in (slice_get forest.actions i)))
      (sym (one_more_place places (children_in (slice_get forest.actions i)) k i at))
      (reached_more registry forest tree a (take k places) places i (at_place forest places k i at) reached)

  -- there are at most as many places as actions
  few_places : (x : ℕ) (a : Name) (places : List ℕ) (k : ℕ) → AreReached forest (x ∷ a) (events_there registry) (take k places) places
      → length places ≤ length forest.actions
  few_places x a places k reached =
      omega (
        arith,
        length-le_from_is_member same_name-equivalence (map (name_there forest) places) (begun (events_there registry)) (distinct (map (name_there forest) places) once) known,
        tree.count,
        length-map places (name_there forest),
      )
    where
      most : (b : Name) → times_in (map (name_there forest) places) b ≤ cond {A = ℕ} (is_begun b (events_there registry) && is_proper_ancestor (x ∷ a) b) 1 0
      most b =
          subst (λ n. n ≤ cond {A = ℕ} (is_begun b (events_there registry) && is_proper_ancestor (x ∷ a) b) 1 0) (sym (times_named forest places b))
          (at_most registry forest tree x a places (take k places) reached
          (λ c. sum_by-take-le (λ (j : ℕ). cond {A = ℕ} (same_name (name_there forest j) c) 1 0) places k) b)

      once : (b : Name) → times_in (map (name_there forest) places) b ≤ 1
      once b = omega (arith, most b, at_most_one (is_begun b (events_there registry) && is_proper_ancestor (x ∷ a) b))

      known : (q : Name) → list_any (same_name q) (map (name_there forest) places) ≡ true → list_any (same_name q) (begun (events_there registry)) ≡ true
      known q e = any_is (begun (events_there registry)) q ∙ of (is_begun q (events_there registry)) refl (most q)
        where
          of : (t : Bool) → is_begun q (events_there registry) ≡ t
              → times_in (map (name_there forest) places) q ≤ cond {A = ℕ} (is_begun q (events_there registry) && is_proper_ancestor (x ∷ a) q) 1 0
              → is_begun q (events_there registry) ≡ true
          of true was m = was
          of false was m =
              let none : cond {A = ℕ} (is_begun q (events_there registry) && is_proper_ancestor (x ∷ a) q) 1 0 ≡ 0 =
              ap (λ t. cond {A = ℕ} (t && is_proper_ancestor (x ∷ a) q) 1 0) was in
              absurd (clash (sym (any_is (map (name_there forest) places) q) ∙ e) (has_from_times (map (name_there forest) places) q false (omega arith)))

  -- and where no place is left, or as many were gone through as there are actions, all descendants
  pub last_reached : (a : Name) (i : ℕ) (places : List ℕ) (k : ℕ) → place_of forest a ≡ Some i
      → AreReached forest a (events_there registry) (take k places) places → (length places ≤ k) ⊎ (length forest.actions ≤ k)
      → AreBelow forest a (events_there registry) places
  last_reached [] i places k at reached left = absurd (none at)
    where
      none : None ≡ Some i → ⊥
      none e = cc
  last_reached (x ∷ a) i places k at reached left =
      all_below registry forest tree x a places
      (subst (λ first. AreReached forest (x ∷ a) (events_there registry) first places) (take_all k places (all left)) reached)
    where
      all : (length places ≤ k) ⊎ (length forest.actions ≤ k) → length places ≤ k
      all (inl h) = h
      all (inr h) = omega (arith, few_places x a places k reached)
