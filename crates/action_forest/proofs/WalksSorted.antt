-- The outcomes of all descendants, once they are sorted, are those of the definition.
use Rattle.std.proofs.Common.{Bool, List, [], None, Option, Some, IsPermutation, ap, arith, cond, count_by, false, filter, get_or, length, map, not, refl, subst, sym, true, ℕ, ◌&&◌, ◌+◌, ◌<◌, ◌≤◌, ◌∙◌, ◌∷◌, ◌≡◌}
use Rattle.std.specs.List.{AllByRecursion, cons_option}
use Rattle.std.specs.List.Sorted.{IsSorted}
use Rattle.std.specs.Ordering.{bool_cmp, is_lt, ordering_then}
use Rattle.std.specs.declared.cmp.Ordering.{Ordering}
use Rattle.std.specs.declared.cmp.Ordering.TheVariants.{Equal, Greater, Less}
use Rattle.std.proofs.lemmas.Bool.{true≢false}
use Rattle.std.proofs.lemmas.List.{get_or-map, length-map}
use Rattle.std.proofs.lemmas.List.Elements.{All-from_recursion, recursion_from_All}
use Rattle.std.proofs.lemmas.List.Sorted.{All-permutation, sum_by-IsPermutation}
use Rattle.std.proofs.lemmas.List.Sums.{sum_by-cons}
use Rattle.action_names.specs.Names.{Name, is_proper_ancestor, name_cmp, name_lt, rising_names, same_name}
use Rattle.run_model.specs.declared.history.Event.{Event}
use Rattle.run_model.specs.Actions.{begun, is_begun, is_committed, is_ended}
use Rattle.action_forest.proofs.Names.{same_name_true}
use Rattle.action_forest.proofs.WalksBelow.{times_front}
use Rattle.action_forest.proofs.WalksNames.{has_filter, has_from_times, has_rising, rising_is, rising_sorted, same_rising, times_in}
use Rattle.action_forest.proofs.WalksNames as names
use Rattle.action_forest.specs.Trees.{Trees}
use Rattle.action_forest.specs.Walks.{AreBelow, name_there, times_at, untold_at, untold_below}

-- outcomes are in order where their names are
before_first : (r o : Ordering) → is_lt (ordering_then r o) ≡ false → is_lt r ≡ false
before_first Less o h = absurd (true≢false h)
before_first Equal o h = refl
before_first Greater o h = refl

-- how often a name is among those of outcomes
times_of : (x : Name × Bool) (outcomes : List (Name × Bool)) (b : Name)
    → count_by (λ y. same_name y.0 b) (x ∷ outcomes) ≡ cond {A = ℕ} (same_name x.0 b) 1 0 + count_by (λ y. same_name y.0 b) outcomes
times_of x outcomes b = sum_by-cons (λ (y : Name × Bool). cond {A = ℕ} (same_name y.0 b) 1 0) x outcomes

times_names : (outcomes : List (Name × Bool)) (b : Name) → times_in (map (λ x. x.0) outcomes) b ≡ count_by (λ x. same_name x.0 b) outcomes
times_names [] b = refl
times_names (x ∷ outcomes) b =
    names.times_front x.0 (map (λ y. y.0) outcomes) b
    ∙ ap (λ n. cond {A = ℕ} (same_name x.0 b) 1 0 + n) (times_names outcomes b)
    ∙ sym (times_of x outcomes b)

none : (t : Bool) (n : ℕ) → 0 + cond {A = ℕ} t n 0 ≡ cond {A = ℕ} t (0 + n) 0
none true n = refl
none false n = refl

zero_more : (t : Bool) (n : ℕ) → cond {A = ℕ} t n 0 ≡ cond {A = ℕ} t (0 + n) 0
zero_more true n = omega arith
zero_more false n = refl

module _ (forest : Trees) (told : Name → Bool) (past : List Event) where
  abbrev ready : Name → Bool
  ready b = is_ended b past && not (told b)

  -- each outcome is that of its name
  are_outcomes : (places : List ℕ) → AllByRecursion (λ (x : Name × Bool). x.1 ≡ is_committed x.0 past) (untold_at forest told past places)
  are_outcomes [] = tt
  are_outcomes (i ∷ places) = of (ready (name_there forest i)) (are_outcomes places)
    where
      of : (t : Bool) → AllByRecursion (λ (x : Name × Bool). x.1 ≡ is_committed x.0 past) (untold_at forest told past places)
          → AllByRecursion (λ (x : Name × Bool). x.1 ≡ is_committed x.0 past)
          (cons_option (cond {A = Option (Name × Bool)} t (Some (name_there forest i, is_committed (name_there forest i) past)) None)
          (untold_at forest told past places))
      of true h = (refl, h)
      of false h = h

  paired : (outcomes : List (Name × Bool)) → AllByRecursion (λ (x : Name × Bool). x.1 ≡ is_committed x.0 past) outcomes
      → outcomes ≡ map (λ b. (b, is_committed b past)) (map (λ x. x.0) outcomes)
  paired [] h = refl
  paired (x ∷ outcomes) h = let rest = paired outcomes h.1 in λ i. (x.0, h.0 i) ∷ rest i

  -- a name is among those of the outcomes as often as its action is at the places, if its outcome is told of
  times_untold : (places : List ℕ) (b : Name) → count_by (λ x. same_name x.0 b) (untold_at forest told past places) ≡ cond {A = ℕ} (ready b) (times_at forest places b) 0
  times_untold [] b = of (ready b)
    where
      of : (t : Bool) → 0 ≡ cond {A = ℕ} t 0 0
      of true = refl
      of false = refl
  times_untold (i ∷ places) b =
      of (ready name) refl (same_name name b) refl (times_untold places b) ∙ sym (ap (λ n. cond {A = ℕ} (ready b) n 0) (times_front forest i places b))
    where
      name : Name
      name = name_there forest i

      one : Name × Bool
      one = (name, is_committed name past)

      of : (r : Bool) → ready name ≡ r → (s : Bool) → same_name name b ≡ s
          → count_by (λ x. same_name x.0 b) (untold_at forest told past places) ≡ cond {A = ℕ} (ready b) (times_at forest places b) 0
          → count_by (λ x. same_name x.0 b) (cons_option (cond {A = Option (Name × Bool)} r (Some one) None) (untold_at forest told past places))
          ≡ cond {A = ℕ} (ready b) (cond {A = ℕ} s 1 0 + times_at forest places b) 0
      of true is true same h =
          let so : ready b ≡ true = subst (λ c. ready c ≡ true) (same_name_true name b same) is in
          times_of one (untold_at forest told past places) b
          ∙ ap (λ t. cond {A = ℕ} t 1 0 + count_by (λ x. same_name x.0 b) (untold_at forest told past places)) same
          ∙ ap (λ n. 1 + n) (h ∙ ap (λ t. cond {A = ℕ} t (times_at forest places b) 0) so)
          ∙ sym (ap (λ t. cond {A = ℕ} t (1 + times_at forest places b) 0) so)
      of true is false differ h =
          times_of one (untold_at forest told past places) b
          ∙ ap (λ t. cond {A = ℕ} t 1 0 + count_by (λ x. same_name x.0 b) (untold_at forest told past places)) differ
          ∙ ap (λ n. 0 + n) h ∙ none (ready b) (times_at forest places b)
      of false is true same h =
          let so : ready b ≡ false = subst (λ c. ready c ≡ false) (same_name_true name b same) is in
          h ∙ ap (λ t. cond {A = ℕ} t (times_at forest places b) 0) so ∙ sym (ap (λ t. cond {A = ℕ} t (1 + times_at forest places b) 0) so)
      of false is false differ h = h ∙ zero_more (ready b) (times_at forest places b)

  module _ (a : Name) (places : List ℕ) (outcomes : List (Name × Bool)) (all : AreBelow forest a past places)
      (moved : IsPermutation (untold_at forest told past places) outcomes)
      (sorted : IsSorted (λ (x y : Name × Bool). ordering_then (name_cmp x.0 y.0) (bool_cmp x.1 y.1)) outcomes) where
    abbrev found : List Name
    found = map (λ x. x.0) outcomes

    times_found : (b : Name) → times_in found b ≡ cond {A = ℕ} (is_begun b past && (is_proper_ancestor a b && ready b)) 1 0
    times_found b =
        times_names outcomes b
        ∙ sum_by-IsPermutation (λ (x : Name × Bool). cond {A = ℕ} (same_name x.0 b) 1 0) (untold_at forest told past places) outcomes moved
        ∙ times_untold places b
        ∙ ap (λ n. cond {A = ℕ} (ready b) n 0) (all b)
        ∙ of (ready b) (is_begun b past) (is_proper_ancestor a b)
      where
        of : (r w p : Bool) → cond {A = ℕ} r (cond {A = ℕ} (w && p) 1 0) 0 ≡ cond {A = ℕ} (w && (p && r)) 1 0
        of true true true = refl
        of true true false = refl
        of true false p = refl
        of false true true = refl
        of false true false = refl
        of false false p = refl

    once : (b : Name) → times_in found b ≤ 1
    once b = of (is_begun b past && (is_proper_ancestor a b && ready b)) (times_found b)
      where
        of : (t : Bool) → times_in found b ≡ cond {A = ℕ} t 1 0 → times_in found b ≤ 1
        of true h = omega arith
        of false h = omega arith

    in_order : (k : ℕ) → k + 1 < length found → name_lt (get_or found (k + 1) []) (get_or found k []) ≡ false
    in_order k h =
        let nothing : Name × Bool = ([], false) in
        let within : k + 1 < length outcomes = omega (arith, length-map outcomes (λ (x : Name × Bool). x.0)) in
        ap (λ b. name_lt b (get_or found k [])) (get_or-map (λ (x : Name × Bool). x.0) outcomes (k + 1) nothing [] within)
        ∙ ap (λ b. name_lt (get_or outcomes (k + 1) nothing).0 b) (get_or-map (λ (x : Name × Bool). x.0) outcomes k nothing [] (omega arith))
        ∙ before_first _ _ (sorted k nothing (omega arith) within)

    found_are : found ≡ rising_names (filter (λ b. is_proper_ancestor a b && ready b) (begun past))
    found_are =
        same_rising found (rising_names (filter (λ b. is_proper_ancestor a b && ready b) (begun past)))
        (rising_sorted found once in_order) (rising_is (filter (λ b. is_proper_ancestor a b && ready b) (begun past)))
        (λ b. has_from_times found b (is_begun b past && (is_proper_ancestor a b && ready b)) (times_found b)
        ∙ sym (has_rising (filter (λ c. is_proper_ancestor a c && ready c) (begun past)) b
        ∙ has_filter (λ c. is_proper_ancestor a c && ready c) (begun past) b))

    pub sorted_outcomes : outcomes ≡ untold_below a told past
    sorted_outcomes =
        paired outcomes (recursion_from_All (λ (x : Name × Bool). x.1 ≡ is_committed x.0 past) outcomes
        (All-permutation (λ (x : Name × Bool). x.1 ≡ is_committed x.0 past) (untold_at forest told past places) outcomes moved
        (All-from_recursion (λ (x : Name × Bool). x.1 ≡ is_committed x.0 past) (untold_at forest told past places) (are_outcomes places))))
        ∙ ap (map (λ b. (b, is_committed b past))) found_are
