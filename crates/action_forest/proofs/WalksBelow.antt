-- The descendants of an action, as a walk of its tree reaches them.
use Rattle.std.proofs.Common.{Bool, List, [], None, Option, Some, ap, arith, cond, eq-eqb, false, inl, inr, is_some, not, refl, subst, suc, sym, true, zero, ℕ, ◌&&◌, ◌++◌, ◌+◌, ◌-◌, ◌<◌, ◌≤◌, ◌==◌, ◌∙◌, ◌∷◌, ◌≡◌, ◌≢◌, ◌⊎◌}
use Rattle.std.specs.Prelude.{slice_get}
use Rattle.std.specs.Option.{option_and_then}
use Rattle.std.proofs.lemmas.Bool.{and_from, cases_eq, cases_lt, false≢true, le-ltb, lt-ltb}
use Rattle.std.proofs.lemmas.List.Sums.{sum_by-append, sum_by-cons}
use Rattle.action_names.specs.Names.{Name, child_of, is_ancestor, is_prefix, is_proper_ancestor, last_of, parent_of, same_name}
use Rattle.run_model.specs.Actions.{is_begun}
use Rattle.run_model.specs.LocalHistories.{RegistryEvent, events_there}
use Rattle.action_forest.proofs.Found.{numbered_none, place_child, there}
use Rattle.action_forest.proofs.Names.{along, child_again, clash, last_child, other_name, parent_child, same_name_is, same_name_other, same_name_sym, same_name_true}
use Rattle.action_forest.specs.Forests.{IsTree}
use Rattle.action_forest.specs.Trees.{Action, Trees, children_in, children_of, first_of, name_at, numbered, place_of, said}
use Rattle.action_forest.specs.Walks.{AreBelow, AreReached, name_there, times_at}

-- ---- how often an action is at places

-- one place more in front
pub times_front : (forest : Trees) (i : ℕ) (places : List ℕ) (b : Name)
    → times_at forest (i ∷ places) b ≡ cond {A = ℕ} (same_name (name_there forest i) b) 1 0 + times_at forest places b
times_front forest i places b = sum_by-cons (λ (j : ℕ). cond {A = ℕ} (same_name (name_there forest j) b) 1 0) i places

-- more places at the end
pub times_more : (forest : Trees) (places more : List ℕ) (b : Name)
    → times_at forest (places ++ more) b ≡ times_at forest places b + times_at forest more b
times_more forest places more b = sum_by-append (λ (j : ℕ). cond {A = ℕ} (same_name (name_there forest j) b) 1 0) places more

-- an action that is at none of the places
times_none : (forest : Trees) (places : List ℕ) (b : Name)
    → ((j i : ℕ) → slice_get places j ≡ Some i → same_name (name_there forest i) b ≡ false) → times_at forest places b ≡ 0
times_none forest [] b h = refl
times_none forest (i ∷ places) b h =
    let first : cond {A = ℕ} (same_name (name_there forest i) b) 1 0 ≡ 0 = ap (λ t. cond t 1 0) (h zero i refl) in
    let rest : times_at forest places b ≡ 0 = times_none forest places b (λ j k e. h (suc j) k e) in
    omega (arith, times_front forest i places b)

-- ---- the children of an action

numbered_first : (places : List ℕ) (i k : ℕ) → numbered (i ∷ places) k k ≡ Some i
numbered_first places i k =
    let at : k - k ≡ 0 = omega arith in
    ap (λ b. cond b None (slice_get (i ∷ places) (k - k))) (le-ltb k k (omega arith)) ∙ ap (slice_get (i ∷ places)) at

numbered_before : (places : List ℕ) (k n : ℕ) → n < k → numbered places k n ≡ None
numbered_before places k n h = ap (λ b. cond b None (slice_get places (n - k))) (lt-ltb n k h)

numbered_rest : (places : List ℕ) (i k n : ℕ) → k ≢ n → numbered (i ∷ places) k n ≡ numbered places (k + 1) n
numbered_rest places i k n other = of (cases_lt n k)
  where
    of : (n < k) ⊎ (k ≤ n) → numbered (i ∷ places) k n ≡ numbered places (k + 1) n
    of (inl less) = numbered_before (i ∷ places) k n less ∙ sym (numbered_before places (k + 1) n (omega arith))
    of (inr more) =
        let at : n - k ≡ suc (n - (k + 1)) = omega arith in
        ap (λ b. cond b None (slice_get (i ∷ places) (n - k))) (le-ltb n k more)
        ∙ ap (slice_get (i ∷ places)) at
        ∙ sym (ap (λ b. cond b None (slice_get places (n - (k + 1)))) (le-ltb n (k + 1) (omega arith)))

numbered_from : (places : List ℕ) (first k : ℕ) → numbered places first (first + k) ≡ slice_get places k
numbered_from places first k =
    let at : first + k - first ≡ k = omega arith in
    ap (λ b. cond b None (slice_get places (first + k - first))) (le-ltb (first + k) first (omega arith)) ∙ ap (slice_get places) at

-- where the children of an action are, each child is once that has a number there
times_numbered : (forest : Trees) (a : Name) (n : ℕ) (places : List ℕ) (k : ℕ)
    → ((j i : ℕ) → slice_get places j ≡ Some i → name_there forest i ≡ child_of a (k + j))
    → times_at forest places (child_of a n) ≡ cond (is_some (numbered places k n)) 1 0
times_numbered forest a n [] k h = ap (λ o. cond (is_some o) 1 0) (sym (numbered_none k n))
times_numbered forest a n (i ∷ places) k h =
    of (cases_eq k n)
    (times_numbered forest a n places (k + 1) (λ j m e. let next : k + suc j ≡ k + 1 + j = omega arith in h (suc j) m e ∙ ap (child_of a) next))
  where
    name : name_there forest i ≡ child_of a k
    name = let same : k + 0 ≡ k = omega arith in h zero i refl ∙ ap (child_of a) same

    of : (k ≡ n) ⊎ (k ≢ n) → times_at forest places (child_of a n) ≡ cond (is_some (numbered places (k + 1) n)) 1 0
        → times_at forest (i ∷ places) (child_of a n) ≡ cond (is_some (numbered (i ∷ places) k n)) 1 0
    of (inl same) rest =
        let one : cond {A = ℕ} (same_name (name_there forest i) (child_of a n)) 1 0 ≡ 1 =
        ap (λ t. cond t 1 0) (same_name_is _ _ (name ∙ ap (child_of a) same)) in
        let none : times_at forest places (child_of a n) ≡ 0 =
        rest ∙ ap (λ o. cond (is_some o) 1 0) (numbered_before places (k + 1) n (omega arith)) in
        let here : cond {A = ℕ} (is_some (numbered (i ∷ places) k n)) 1 0 ≡ 1 =
        ap (λ o. cond (is_some o) 1 0) (ap (numbered (i ∷ places) k) (sym same) ∙ numbered_first places i k) in
        omega (arith, times_front forest i places (child_of a n))
    of (inr other) rest =
        let none : cond {A = ℕ} (same_name (name_there forest i) (child_of a n)) 1 0 ≡ 0 =
        ap (λ t. cond t 1 0) (same_name_other _ _ (λ e. other (sym (last_child a k) ∙ ap last_of (sym name ∙ e) ∙ last_child a n))) in
        let there : cond {A = ℕ} (is_some (numbered (i ∷ places) k n)) 1 0 ≡ cond (is_some (numbered places (k + 1) n)) 1 0 =
        ap (λ o. cond (is_some o) 1 0) (numbered_rest places i k n other) in
        omega (arith, times_front forest i places (child_of a n), rest)

name_from : (forest : Trees) (i : ℕ) (b : Name) → name_at forest i ≡ Some b → name_there forest i ≡ b
name_from forest i b h = let x = there forest i b h in ap (said (λ action. action.name) []) x.1 ∙ x.2

child_not_empty : (a : Name) (n : ℕ) → same_name (child_of a n) [] ≡ false
child_not_empty [] n = refl
child_not_empty (x ∷ a) n = refl

cond_same : (t : Bool) → cond {A = ℕ} t 0 0 ≡ 0
cond_same true = refl
cond_same false = refl

-- ---- ancestors

prefix_itself : (a : Name) → is_prefix a a ≡ true
prefix_itself [] = refl
prefix_itself (x ∷ a) = and_from _ _ (eq-eqb x x refl) (prefix_itself a)

prefix_child : (a p : Name) (n : ℕ) → (is_prefix a (child_of p n) && not (same_name a (child_of p n))) ≡ is_prefix a p
prefix_child [] [] n = refl
prefix_child [] (y ∷ p) n = refl
prefix_child (x ∷ []) [] n = of (x == n)
  where
    of : (t : Bool) → ((t && true) && not (t && true)) ≡ false
    of true = refl
    of false = refl
prefix_child (x ∷ z ∷ a) [] n = of (x == n)
  where
    of : (t : Bool) → ((t && false) && not (t && false)) ≡ false
    of true = refl
    of false = refl
prefix_child (x ∷ a) (y ∷ p) n = of (x == y) (is_prefix a (child_of p n)) (same_name a (child_of p n)) (is_prefix a p) (prefix_child a p n)
  where
    of : (t u v w : Bool) → (u && not v) ≡ w → ((t && u) && not (t && v)) ≡ (t && w)
    of true u v w e = e
    of false u v w e = refl

-- an action is above the child of another where it is an ancestor of that
below_child : (x : ℕ) (a p : Name) (n : ℕ) → is_proper_ancestor (x ∷ a) (child_of p n) ≡ is_ancestor (x ∷ a) p
below_child x a p n = prefix_child (x ∷ a) p n

-- ---- what is reached

-- the names of actions that were begun, and their children
module _ (registry : List RegistryEvent) (forest : Trees) (tree : IsTree registry forest) where
  -- the empty name is that of no action
  pub empty_not_begun : is_begun [] (events_there registry) ≡ false
  empty_not_begun = sym (tree.found [])

  child_there : (a : Name) (j i : ℕ) → slice_get (children_of forest a) j ≡ Some i → name_there forest i ≡ child_of a (first_of forest a + j)
  child_there a j i e =
      name_from forest i (child_of a (first_of forest a + j))
      (tree.named (child_of a (first_of forest a + j)) i
      (place_child forest a (first_of forest a + j) ∙ numbered_from (children_of forest a) (first_of forest a) j ∙ e))

  -- at the places of an action's children is each of its children that was begun, once
  pub times_children : (a b : Name)
      → times_at forest (children_of forest a) b ≡ cond (is_begun b (events_there registry)) (cond (same_name (parent_of b) a) 1 0) 0
  times_children a [] =
      times_none forest (children_of forest a) []
      (λ j i e. ap (λ c. same_name c []) (child_there a j i e) ∙ child_not_empty a (first_of forest a + j))
      ∙ sym (ap (λ t. cond t (cond (same_name [] a) 1 0) 0) empty_not_begun)
  times_children a (x ∷ b) = of (same_name (parent_of (x ∷ b)) a) refl
    where
      of : (t : Bool) → same_name (parent_of (x ∷ b)) a ≡ t
          → times_at forest (children_of forest a) (x ∷ b) ≡ cond (is_begun (x ∷ b) (events_there registry)) (cond t 1 0) 0
      of true same =
          let again : child_of a (last_of (x ∷ b)) ≡ x ∷ b =
          ap (λ c. child_of c (last_of (x ∷ b))) (sym (same_name_true _ a same)) ∙ child_again x b in
          ap (times_at forest (children_of forest a)) (sym again)
          ∙ times_numbered forest a (last_of (x ∷ b)) (children_of forest a) (first_of forest a) (child_there a)
          ∙ ap (λ o. cond (is_some o) 1 0) (sym (place_child forest a (last_of (x ∷ b))) ∙ ap (place_of forest) again)
          ∙ ap (λ t. cond t 1 0) (tree.found (x ∷ b))
      of false differ =
          times_none forest (children_of forest a) (x ∷ b)
          (λ j i e. same_name_other _ _ (λ s. other_name _ a differ
          (ap parent_of (sym s ∙ child_there a j i e) ∙ parent_child a (first_of forest a + j))))
          ∙ sym (cond_same (is_begun (x ∷ b) (events_there registry)))

  -- who is at a place has its children there
  children_there : (i : ℕ) (x : Action) → slice_get forest.actions i ≡ Some x
      → (children_in (slice_get forest.actions i) ≡ children_of forest (name_there forest i)) × (name_there forest i ≡ x.name)
  children_there i x is = (of x.name refl, ap (said (λ action. action.name) []) is)
    where
      at : place_of forest x.name ≡ Some i
      at = tree.placed x.name i (ap (said (λ action. Some action.name) None) is)

      of : (a : Name) → x.name ≡ a → children_in (slice_get forest.actions i) ≡ children_of forest (name_there forest i)
      of [] e = absurd (none (sym at ∙ ap (place_of forest) e))
        where
          none : Some i ≡ None → ⊥
          none k = cc
      of (n ∷ a) e =
          let name : name_there forest i ≡ n ∷ a = ap (said (λ action. action.name) []) is ∙ e in
          sym (ap (children_of forest) name
          ∙ ap (λ o. children_in (option_and_then (λ j. slice_get forest.actions j) o)) (ap (place_of forest) (sym e) ∙ at))

  -- once a further place is among the first, with its children at the end
  pub reached_more : (a : Name) (first places : List ℕ) (i : ℕ) → 1 ≤ times_at forest places (name_there forest i)
      → AreReached forest a (events_there registry) first places
      → AreReached forest a (events_there registry) (first ++ i ∷ []) (places ++ children_in (slice_get forest.actions i))
  reached_more a first places i among reached b = of (slice_get forest.actions i) refl
    where
      name : Name
      name = name_there forest i

      sums : (g s t : Bool) (n m f : ℕ) → n ≡ cond {A = ℕ} g (cond {A = ℕ} s 1 0 + f) 0 → m ≡ cond {A = ℕ} g (cond {A = ℕ} t 1 0) 0
          → n + m ≡ cond {A = ℕ} g (cond {A = ℕ} s 1 0 + (f + (cond {A = ℕ} t 1 0 + 0))) 0
      sums true s t n m f p q = omega arith
      sums false s t n m f p q = omega arith

      turned : cond {A = ℕ} (same_name name (parent_of b)) 1 0 ≡ cond {A = ℕ} (same_name (parent_of b) name) 1 0
      turned = ap (λ t. cond t 1 0) (same_name_sym name (parent_of b))

      one : times_at forest (i ∷ []) (parent_of b) ≡ cond {A = ℕ} (same_name (parent_of b) name) 1 0 + 0
      one = times_front forest i [] (parent_of b) ∙ ap (λ n. n + 0) turned

      done : times_at forest (first ++ i ∷ []) (parent_of b) ≡ times_at forest first (parent_of b) + (cond {A = ℕ} (same_name (parent_of b) name) 1 0 + 0)
      done = times_more forest first (i ∷ []) (parent_of b) ∙ ap (λ n. times_at forest first (parent_of b) + n) one

      of : (o : Option Action) → slice_get forest.actions i ≡ o
          → times_at forest (places ++ children_in (slice_get forest.actions i)) b
          ≡ cond (is_begun b (events_there registry)) (cond (same_name (parent_of b) a) 1 0 + times_at forest (first ++ i ∷ []) (parent_of b)) 0
      of None is =
          let none : times_at forest places [] ≡ 0 =
          reached [] ∙ ap (λ t. cond t (cond (same_name [] a) 1 0 + times_at forest first []) 0) empty_not_begun in
          let empty : name_there forest i ≡ [] = ap (said (λ action. action.name) []) is in
          let some : 1 ≤ times_at forest places [] = subst (λ c. 1 ≤ times_at forest places c) empty among in
          absurd (omega arith)
      of (Some x) is =
          times_more forest places (children_in (slice_get forest.actions i)) b
          ∙ sums (is_begun b (events_there registry)) (same_name (parent_of b) a) (same_name (parent_of b) name)
          (times_at forest places b) (times_at forest (children_in (slice_get forest.actions i)) b) (times_at forest first (parent_of b))
          (reached b) (ap (λ ps. times_at forest ps b) (children_there i x is).0 ∙ times_children name b)
          ∙ ap (λ n. cond (is_begun b (events_there registry)) (cond (same_name (parent_of b) a) 1 0 + n) 0) (sym done)

  -- what a begun action is a child of was begun, where that is an action
  parent_begun : (p : Name) (n : ℕ) → is_begun (child_of p n) (events_there registry) ≡ true → p ≢ [] → is_begun p (events_there registry) ≡ true
  parent_begun [] n b some = absurd (some refl)
  parent_begun (x ∷ p) n b some = of (place_of forest (x ∷ p)) refl
    where
      of : (o : Option ℕ) → place_of forest (x ∷ p) ≡ o → is_begun (x ∷ p) (events_there registry) ≡ true
      of None e =
          absurd (clash b (sym (tree.found (child_of (x ∷ p) n)) ∙ ap is_some
          (place_child forest (x ∷ p) n
          ∙ ap (λ o. numbered (children_in (option_and_then (λ j. slice_get forest.actions j) o)) 1 n) e
          ∙ numbered_none 1 n)))
      of (Some i) e = sym (tree.found (x ∷ p)) ∙ ap is_some e

  module _ (x : ℕ) (a : Name) (places : List ℕ) where
    abbrev above : Name → Bool
    above b = is_proper_ancestor (x ∷ a) b

    abbrev was : Name → Bool
    was b = is_begun b (events_there registry)

    itself : (p : Name) → same_name p (x ∷ a) ≡ true → is_ancestor (x ∷ a) p ≡ true
    itself p e = subst (λ q. is_ancestor (x ∷ a) q ≡ true) (sym (same_name_true p (x ∷ a) e)) (prefix_itself (x ∷ a))

    ancestor_begun : (p : Name) (n : ℕ) → was (child_of p n) ≡ true → is_ancestor (x ∷ a) p ≡ true → was p ≡ true
    ancestor_begun [] n b h = absurd (false≢true h)
    ancestor_begun (y ∷ p) n b h = parent_begun (y ∷ p) n b some
      where
        some : (y ∷ p) ≡ [] → ⊥
        some e = cc

    -- how often the child of an action is at the places
    child_reached : (first : List ℕ) → AreReached forest (x ∷ a) (events_there registry) first places → (p : Name) (n : ℕ)
        → times_at forest places (child_of p n)
        ≡ cond {A = ℕ} (was (child_of p n)) (cond {A = ℕ} (same_name (x ∷ a) p) 1 0 + times_at forest first p) 0
    child_reached first reached p n =
        reached (child_of p n)
        ∙ ap (λ c. cond {A = ℕ} (was (child_of p n)) (cond {A = ℕ} (same_name c (x ∷ a)) 1 0 + times_at forest first c) 0) (parent_child p n)
        ∙ ap (λ t. cond {A = ℕ} (was (child_of p n)) (cond {A = ℕ} t 1 0 + times_at forest first p) 0) (same_name_sym p (x ∷ a))

    empty_reached : (first : List ℕ) → AreReached forest (x ∷ a) (events_there registry) first places → times_at forest places [] ≡ 0
    empty_reached first reached =
        reached [] ∙ ap (λ t. cond {A = ℕ} t (cond {A = ℕ} (same_name [] (x ∷ a)) 1 0 + times_at forest first []) 0) empty_not_begun

    -- no action is at the places twice, and none that is no descendant
    pub at_most : (first : List ℕ) → AreReached forest (x ∷ a) (events_there registry) first places
        → ((b : Name) → times_at forest first b ≤ times_at forest places b) → (b : Name)
        → times_at forest places b ≤ cond {A = ℕ} (was b && above b) 1 0
    at_most first reached fewer = along (λ b. times_at forest places b ≤ cond {A = ℕ} (was b && above b) 1 0) start more
      where
        start : times_at forest places [] ≤ cond {A = ℕ} (was [] && above []) 1 0
        start = let none : times_at forest places [] ≡ 0 = empty_reached first reached in omega arith

        bounded : (g s b t : Bool) (n m : ℕ) → (s ≡ true → t ≡ true) → n ≡ cond {A = ℕ} g (cond {A = ℕ} s 1 0 + m) 0
            → m ≤ cond {A = ℕ} (b && (t && not s)) 1 0 → n ≤ cond {A = ℕ} (g && t) 1 0
        bounded false s b t n m i e h = omega arith
        bounded true true b false n m i e h = absurd (false≢true (i refl))
        bounded true true true true n m i e h = omega arith
        bounded true true false true n m i e h = omega arith
        bounded true false true true n m i e h = omega arith
        bounded true false true false n m i e h = omega arith
        bounded true false false t n m i e h = omega arith

        more : (p : Name) (n : ℕ) → times_at forest places p ≤ cond {A = ℕ} (was p && above p) 1 0
            → times_at forest places (child_of p n) ≤ cond {A = ℕ} (was (child_of p n) && above (child_of p n)) 1 0
        more p n h =
            let less : times_at forest first p ≤ cond {A = ℕ} (was p && above p) 1 0 = omega (arith, fewer p) in
            subst (λ t. times_at forest places (child_of p n) ≤ cond {A = ℕ} (was (child_of p n) && t) 1 0) (sym (below_child x a p n))
            (bounded (was (child_of p n)) (same_name (x ∷ a) p) (was p) (is_ancestor (x ∷ a) p) (times_at forest places (child_of p n))
            (times_at forest first p) (λ e. itself p (same_name_sym p (x ∷ a) ∙ e)) (child_reached first reached p n) less)

    -- places at which are also the children of each are those of all descendants
    pub all_below : AreReached forest (x ∷ a) (events_there registry) places places → AreBelow forest (x ∷ a) (events_there registry) places
    all_below reached = along (λ b. times_at forest places b ≡ cond {A = ℕ} (was b && above b) 1 0) start more
      where
        start : times_at forest places [] ≡ cond {A = ℕ} (was [] && above []) 1 0
        start = empty_reached places reached ∙ sym (ap (λ t. cond {A = ℕ} (t && above []) 1 0) empty_not_begun)

        counted : (g s b t : Bool) → (s ≡ true → t ≡ true) → (g ≡ true → t ≡ true → b ≡ true)
            → cond {A = ℕ} g (cond {A = ℕ} s 1 0 + cond {A = ℕ} (b && (t && not s)) 1 0) 0 ≡ cond {A = ℕ} (g && t) 1 0
        counted false s b t i k = refl
        counted true true b false i k = absurd (false≢true (i refl))
        counted true true true true i k = refl
        counted true true false true i k = refl
        counted true false true true i k = refl
        counted true false true false i k = refl
        counted true false false true i k = absurd (false≢true (k refl refl))
        counted true false false false i k = refl

        more : (p : Name) (n : ℕ) → times_at forest places p ≡ cond {A = ℕ} (was p && above p) 1 0
            → times_at forest places (child_of p n) ≡ cond {A = ℕ} (was (child_of p n) && above (child_of p n)) 1 0
        more p n h =
            child_reached places reached p n
            ∙ ap (λ m. cond {A = ℕ} (was (child_of p n)) (cond {A = ℕ} (same_name (x ∷ a) p) 1 0 + m) 0) h
            ∙ counted (was (child_of p n)) (same_name (x ∷ a) p) (was p) (is_ancestor (x ∷ a) p)
            (λ e. itself p (same_name_sym p (x ∷ a) ∙ e)) (ancestor_begun p n)
            ∙ sym (ap (λ t. cond {A = ℕ} (was (child_of p n) && t) 1 0) (below_child x a p n))
