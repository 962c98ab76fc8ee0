-- A forest with one action more.
use Rattle.std.proofs.Common.{Bool, List, [], None, Option, Some, ap, arith, cond, false, inl, inr, length, length-append, ltb, option_map, refl, subst, suc, sym, true, zero, ℕ, ◌++◌, ◌+◌, ◌-◌, ◌<◌, ◌≤◌, ◌∙◌, ◌∷◌, ◌≡◌, ◌≢◌, ◌⊎◌}
use Rattle.std.specs.Prelude.{slice_get}
use Rattle.std.specs.Option.{option_and_then}
use Rattle.std.proofs.lemmas.Bool.{cases_eq, cases_lt, le-ltb, lt-ltb}
use Rattle.std.proofs.lemmas.Option.{same_Some, slice_get_past, slice_get_within}
use Rattle.action_names.specs.Names.{Name, child_of, is_top, last_of, parent_of, same_name}
use Rattle.run_model.specs.LocalHistories.{RegistryEvent}
use Rattle.action_forest.proofs.Changed.{get_other, get_same, kept_at, length-updated}
use Rattle.action_forest.proofs.Found.{place_child, there}
use Rattle.action_forest.proofs.Names.{along, clash, last_child, other_name, parent_child, same_name_is, same_name_other, same_name_true}
use Rattle.action_forest.specs.Forests.{IsTree}
use Rattle.action_forest.specs.Trees.{Action, Trees, action_of, changed, changed_at, children_in, children_of, first_of, hung, name_at, numbered, place_of, pushed, said, updated, with_child}

-- an action that comes next under its parent, which is its maker
pub record IsNext (base : Trees) (x : Action) : Type 0 where
  pub name : x.name ≡ child_of (parent_of x.name) (first_of base (parent_of x.name) + length (children_of base (parent_of x.name)))
  pub parent : is_top x.name ≡ false → (j : ℕ) × (x.maker ≡ Some j) × (place_of base (parent_of x.name) ≡ Some j)
  pub none : x.children ≡ []

pub get_before : {A : Type 0} (xs ys : List A) (i : ℕ) → i < length xs → slice_get (xs ++ ys) i ≡ slice_get xs i
get_before [] ys i h = absurd (omega arith)
get_before (x ∷ xs) ys zero h = refl
get_before (x ∷ xs) ys (suc i) h = get_before xs ys i (omega arith)

get_last : {A : Type 0} (xs : List A) (y : A) → slice_get (xs ++ y ∷ []) (length xs) ≡ Some y
get_last [] y = refl
get_last (x ∷ xs) y = get_last xs y

-- one more at the end changes no other place
get_beside : {A : Type 0} (xs : List A) (y : A) (i : ℕ) → i ≢ length xs → slice_get (xs ++ y ∷ []) i ≡ slice_get xs i
get_beside [] y zero h = absurd (h refl)
get_beside [] y (suc i) h = refl
get_beside (x ∷ xs) y zero h = refl
get_beside (x ∷ xs) y (suc i) h = get_beside xs y i (λ e. h (ap suc e))

numbered_from : (places : List ℕ) (first k : ℕ) → numbered places first (first + k) ≡ slice_get places k
numbered_from places first k =
    let at : first + k - first ≡ k = omega arith in
    ap (λ b. cond b None (slice_get places (first + k - first))) (le-ltb (first + k) first (omega arith)) ∙ ap (slice_get places) at

-- the next number leads nowhere
pub numbered_next : (places : List ℕ) (first : ℕ) → numbered places first (first + length places) ≡ None
numbered_next places first = numbered_from places first (length places) ∙ slice_get_past places (length places) (omega arith)

-- until a place has it, and other numbers lead where they led
numbered_more : (places : List ℕ) (first place n : ℕ) (b : Bool) → ((b ≡ true) → n ≡ first + length places) → ((b ≡ false) → n ≢ first + length places)
    → numbered (places ++ place ∷ []) first n ≡ cond b (Some place) (numbered places first n)
numbered_more places first place n true is other =
    subst (λ m. numbered (places ++ place ∷ []) first m ≡ Some place) (sym (is refl))
    (numbered_from (places ++ place ∷ []) first (length places) ∙ get_last places place)
numbered_more places first place n false is other = of (cases_lt n first)
  where
    of : (n < first) ⊎ (first ≤ n) → numbered (places ++ place ∷ []) first n ≡ numbered places first n
    of (inl less) =
        ap (λ b. cond b None (slice_get (places ++ place ∷ []) (n - first))) (lt-ltb n first less)
        ∙ sym (ap (λ b. cond b None (slice_get places (n - first))) (lt-ltb n first less))
    of (inr more) =
        let beside : n - first ≢ length places = λ e. other refl (omega arith) in
        ap (cond (ltb n first) None) (get_beside places place (n - first) beside)

-- what a number leads to is there
pub within : (registry : List RegistryEvent) (base : Trees) → IsTree registry base → (a : Name) (i : ℕ) → place_of base a ≡ Some i → i < length base.actions
within registry base h a i at = let x = there base i a (h.named a i at) in slice_get_within base.actions i x.0 x.1

-- an action that comes next is not there yet
pub free : (base : Trees) (x : Action) → IsNext base x → place_of base x.name ≡ None
free base x next =
    ap (place_of base) next.name
    ∙ place_child base (parent_of x.name) (first_of base (parent_of x.name) + length (children_of base (parent_of x.name)))
    ∙ numbered_next (children_of base (parent_of x.name)) (first_of base (parent_of x.name))

pub top_parent : (a : Name) → is_top a ≡ true → parent_of a ≡ []
top_parent [] h = refl
top_parent (n ∷ []) h = refl
top_parent (m ∷ n ∷ a) h = absurd (clash h refl)

no_place : (base : Trees) (a : Name) (j : ℕ) → place_of base a ≡ None → place_of base a ≡ Some j → ⊥
no_place base a j none at = cc

module _ (registry : List RegistryEvent) (base : Trees) (x : Action) (h : IsTree registry base) (next : IsNext base x) where
  abbrev pub size : ℕ
  size = length base.actions

  -- the forest, where this says whether the action is a top action
  abbrev pub grown_by : Bool → Trees
  grown_by top = hung top x.maker size (pushed x base)

  pub first_grown : (top : Bool) (a : Name) → first_of (grown_by top) a ≡ first_of base a
  first_grown true [] = refl
  first_grown true (n ∷ a) = refl
  first_grown false [] = of x.maker
    where
      of : (o : Option ℕ) → (changed_at (with_child size) o (pushed x base)).first_top ≡ base.first_top
      of None = refl
      of (Some j) = refl
  first_grown false (n ∷ a) = refl

  pub guardians_grown : (top : Bool) → (grown_by top).guardians ≡ base.guardians
  guardians_grown true = refl
  guardians_grown false = of x.maker
    where
      of : (o : Option ℕ) → (changed_at (with_child size) o (pushed x base)).guardians ≡ base.guardians
      of None = refl
      of (Some j) = refl

  -- what is kept of actions, but for their children
  kept : {B : Type 0} (field : Action → B) (missing : B) → ((y : Action) → field (with_child size y) ≡ field y) → (top : Bool) (i : ℕ)
      → said field missing (slice_get (grown_by top).actions i) ≡ said field missing (slice_get (base.actions ++ x ∷ []) i)
  kept field missing keeps true i = refl
  kept field missing keeps false i = of x.maker
    where
      of : (o : Option ℕ) → said field missing (slice_get (changed_at (with_child size) o (pushed x base)).actions i)
          ≡ said field missing (slice_get (base.actions ++ x ∷ []) i)
      of None = refl
      of (Some j) = kept_at field missing (with_child size) j i (base.actions ++ x ∷ []) keeps

  -- the new one, and the others
  new_here : slice_get (base.actions ++ x ∷ []) size ≡ Some x
  new_here = get_last base.actions x

  old_here : (a : Name) (i : ℕ) → place_of base a ≡ Some i → slice_get (base.actions ++ x ∷ []) i ≡ slice_get base.actions i
  old_here a i at = get_before base.actions (x ∷ []) i (within registry base h a i at)

  -- what is said of an action found at these places
  said_found : {B : Type 0} (field : Action → B) (missing : B) (top : Bool)
      → ((i : ℕ) → said field missing (slice_get (grown_by top).actions i) ≡ said field missing (slice_get (base.actions ++ x ∷ []) i)) → (a : Name)
      → place_of (grown_by top) a ≡ cond (same_name x.name a) (Some size) (place_of base a)
      → said field missing (action_of (grown_by top) a) ≡ cond (same_name x.name a) (field x) (said field missing (action_of base a))
  said_found field missing top same a at =
      ap (λ o. said field missing (option_and_then (λ i. slice_get (grown_by top).actions i) o)) at
      ∙ of (same_name x.name a) (place_of base a) refl
    where
      of : (b : Bool) (o : Option ℕ) → place_of base a ≡ o
          → said field missing (option_and_then (λ i. slice_get (grown_by top).actions i) (cond b (Some size) o))
          ≡ cond b (field x) (said field missing (option_and_then (λ i. slice_get base.actions i) o))
      of true o e = same size ∙ ap (said field missing) new_here
      of false None e = refl
      of false (Some i) e = same i ∙ ap (said field missing) (old_here a i e)

  -- nothing is below a new action
  no_children : (a : Name) → same_name x.name a ≡ true → children_in (action_of base a) ≡ []
  no_children a same =
      ap (λ o. children_in (option_and_then (λ i. slice_get base.actions i) o))
      (subst (λ c. place_of base c ≡ None) (same_name_true x.name a same) (free base x next))

  -- the children of an action, where it is found
  children_top : is_top x.name ≡ true → (a : Name) → place_of (grown_by true) a ≡ cond (same_name x.name a) (Some size) (place_of base a)
      → children_of (grown_by true) a ≡ cond (same_name (parent_of x.name) a) (children_of base a ++ size ∷ []) (children_of base a)
  children_top is [] at =
      sym (ap (λ b. cond b (base.tops ++ size ∷ []) base.tops) (same_name_is (parent_of x.name) [] (top_parent x.name is)))
  children_top is (n ∷ a) at =
      said_found (λ y. y.children) [] true (λ i. refl) (n ∷ a) at
      ∙ of (same_name x.name (n ∷ a)) refl
      ∙ sym (ap (λ b. cond b (children_of base (n ∷ a) ++ size ∷ []) (children_of base (n ∷ a)))
      (same_name_other (parent_of x.name) (n ∷ a) (λ e. let t = top_parent x.name is in cc)))
    where
      of : (b : Bool) → same_name x.name (n ∷ a) ≡ b → cond b x.children (children_of base (n ∷ a)) ≡ children_of base (n ∷ a)
      of true same = next.none ∙ sym (no_children (n ∷ a) same)
      of false differ = refl

  children_below : (j : ℕ) → place_of base (parent_of x.name) ≡ Some j → (a : Name)
      → place_of (changed (with_child size) j (pushed x base)) a ≡ cond (same_name x.name a) (Some size) (place_of base a)
      → children_of (changed (with_child size) j (pushed x base)) a
      ≡ cond (same_name (parent_of x.name) a) (children_of base a ++ size ∷ []) (children_of base a)
  children_below j above [] at =
      sym (ap (λ b. cond b (base.tops ++ size ∷ []) base.tops)
      (same_name_other (parent_of x.name) [] (λ e. no_place base [] j refl (subst (λ c. place_of base c ≡ Some j) e above))))
  children_below j above (n ∷ a) at =
      ap (λ o. children_in (option_and_then (λ i. slice_get (updated (with_child size) j (base.actions ++ x ∷ [])) i) o)) at
      ∙ of (same_name x.name (n ∷ a)) (place_of base (n ∷ a)) refl refl
    where
      other_parent : (place_of base (n ∷ a) ≡ Some j → ⊥) → same_name (parent_of x.name) (n ∷ a) ≡ false
      other_parent differ = same_name_other (parent_of x.name) (n ∷ a) (λ e. differ (subst (λ c. place_of base c ≡ Some j) e above))

      low : j < size
      low = within registry base h (parent_of x.name) j above

      at_place : (i : ℕ) → place_of base (n ∷ a) ≡ Some i → (i ≡ j) ⊎ (i ≡ j → ⊥)
          → children_in (slice_get (updated (with_child size) j (base.actions ++ x ∷ [])) i)
          ≡ cond (same_name (parent_of x.name) (n ∷ a)) (children_in (slice_get base.actions i) ++ size ∷ []) (children_in (slice_get base.actions i))
      at_place i e (inl same) =
          let y = there base i (n ∷ a) (h.named (n ∷ a) i e) in
          let parent_name = h.named (parent_of x.name) j above in
          let own_name = h.named (n ∷ a) i e in
          let name_same : parent_of x.name ≡ n ∷ a = (let both = ap (name_at base) same in cc) in
          ap children_in (ap (slice_get (updated (with_child size) j (base.actions ++ x ∷ []))) same
          ∙ get_same (with_child size) j (base.actions ++ x ∷ [])
          ∙ ap (option_map (with_child size)) (ap (slice_get (base.actions ++ x ∷ [])) (sym same) ∙ old_here (n ∷ a) i e ∙ y.1))
          ∙ sym (ap (λ o. children_in o ++ size ∷ []) y.1)
          ∙ sym (ap (λ b. cond b (children_in (slice_get base.actions i) ++ size ∷ []) (children_in (slice_get base.actions i)))
          (same_name_is (parent_of x.name) (n ∷ a) name_same))
      at_place i e (inr differ) =
          ap children_in (get_other (with_child size) j i (base.actions ++ x ∷ []) differ ∙ old_here (n ∷ a) i e)
          ∙ sym (ap (λ b. cond b (children_in (slice_get base.actions i) ++ size ∷ []) (children_in (slice_get base.actions i)))
          (other_parent (λ k. differ (let u = e in cc))))

      of : (b : Bool) (o : Option ℕ) → same_name x.name (n ∷ a) ≡ b → place_of base (n ∷ a) ≡ o
          → children_in (option_and_then (λ i. slice_get (updated (with_child size) j (base.actions ++ x ∷ [])) i) (cond b (Some size) o))
          ≡ cond (same_name (parent_of x.name) (n ∷ a)) (children_in (option_and_then (λ i. slice_get base.actions i) o) ++ size ∷ [])
          (children_in (option_and_then (λ i. slice_get base.actions i) o))
      of true o same e =
          let nowhere = subst (λ c. place_of base c ≡ None) (same_name_true x.name (n ∷ a) same) (free base x next) in
          ap children_in (get_other (with_child size) j size (base.actions ++ x ∷ []) (let less = low in omega arith) ∙ new_here)
          ∙ next.none
          ∙ sym (ap (λ p. children_in (option_and_then (λ i. slice_get base.actions i) p)) (sym e ∙ nowhere))
          ∙ sym (ap (λ b. cond b (children_in (option_and_then (λ i. slice_get base.actions i) o) ++ size ∷ [])
          (children_in (option_and_then (λ i. slice_get base.actions i) o))) (other_parent (no_place base (n ∷ a) j nowhere)))
      of false None differ e =
          sym (ap (λ b. cond b ([] ++ size ∷ []) []) (other_parent (no_place base (n ∷ a) j e)))
      of false (Some i) differ e = at_place i e (cases_eq i j)

  children_found : (top : Bool) → is_top x.name ≡ top → (a : Name)
      → place_of (grown_by top) a ≡ cond (same_name x.name a) (Some size) (place_of base a)
      → children_of (grown_by top) a ≡ cond (same_name (parent_of x.name) a) (children_of base a ++ size ∷ []) (children_of base a)
  children_found true is a at = children_top is a at
  children_found false is a at =
      let up = next.parent is in
      subst (λ o. place_of (changed_at (with_child size) o (pushed x base)) a ≡ cond (same_name x.name a) (Some size) (place_of base a)
      → children_of (changed_at (with_child size) o (pushed x base)) a
      ≡ cond (same_name (parent_of x.name) a) (children_of base a ++ size ∷ []) (children_of base a))
      (sym up.1) (children_below up.0 up.2 a) at

  -- Its number leads to the new action, and others lead where they led.
  pub place_grown : (top : Bool) → is_top x.name ≡ top → (a : Name)
      → place_of (grown_by top) a ≡ cond (same_name x.name a) (Some size) (place_of base a)
  place_grown top is a = along (λ b. place_of (grown_by top) b ≡ cond (same_name x.name b) (Some size) (place_of base b)) start more a
    where
      start : place_of (grown_by top) [] ≡ cond (same_name x.name []) (Some size) (place_of base [])
      start = of (same_name x.name []) refl
        where
          of : (b : Bool) → same_name x.name [] ≡ b → place_of base [] ≡ cond b (Some size) (place_of base [])
          of true same = absurd (named x.name (same_name_true x.name [] same) next.name)
            where
              named : (b : Name) → b ≡ [] → b ≡ child_of (parent_of b) (first_of base (parent_of b) + length (children_of base (parent_of b))) → ⊥
              named [] e k = cc
              named (n ∷ b) e k = cc
          of false differ = refl

      more : (b : Name) (n : ℕ) → place_of (grown_by top) b ≡ cond (same_name x.name b) (Some size) (place_of base b)
          → place_of (grown_by top) (child_of b n) ≡ cond (same_name x.name (child_of b n)) (Some size) (place_of base (child_of b n))
      more b n at =
          place_child (grown_by top) b n
          ∙ (λ i. numbered (children_found top is b at i) (first_grown top b i) n)
          ∙ of (same_name (parent_of x.name) b) refl
          ∙ ap (cond (same_name x.name (child_of b n)) (Some size)) (sym (place_child base b n))
        where
          of : (c : Bool) → same_name (parent_of x.name) b ≡ c
              → numbered (cond c (children_of base b ++ size ∷ []) (children_of base b)) (first_of base b) n
              ≡ cond (same_name x.name (child_of b n)) (Some size) (numbered (children_of base b) (first_of base b) n)
          of true same =
              let up : parent_of x.name ≡ b = same_name_true (parent_of x.name) b same in
              let whole : x.name ≡ child_of b (first_of base b + length (children_of base b)) =
              subst (λ c. x.name ≡ child_of c (first_of base c + length (children_of base c))) up next.name in
              numbered_more (children_of base b) (first_of base b) size n (same_name x.name (child_of b n))
              (λ e. sym (last_child b n) ∙ sym (ap last_of (same_name_true x.name (child_of b n) e)) ∙ ap last_of whole
              ∙ last_child b (first_of base b + length (children_of base b)))
              (λ e k. other_name x.name (child_of b n) e (whole ∙ ap (child_of b) (sym k)))
          of false differ =
              ap (λ c. cond c (Some size) (numbered (children_of base b) (first_of base b) n))
              (sym (same_name_other x.name (child_of b n) (λ e. other_name (parent_of x.name) b differ (ap parent_of e ∙ parent_child b n))))

  -- names by places
  name_new : (top : Bool) → name_at (grown_by top) size ≡ Some x.name
  name_new top = kept (λ y. Some y.name) None (λ y. refl) top size ∙ ap (said (λ y. Some y.name) None) new_here

  pub name_old : (top : Bool) (j : ℕ) → j ≢ size → name_at (grown_by top) j ≡ name_at base j
  name_old top j other =
      kept (λ y. Some y.name) None (λ y. refl) top j ∙ ap (said (λ y. Some y.name) None) (get_beside base.actions x j other)

  pub length_grown : (top : Bool) → length (grown_by top).actions ≡ size + 1
  length_grown true = length-append base.actions (x ∷ [])
  length_grown false = of x.maker
    where
      of : (o : Option ℕ) → length (changed_at (with_child size) o (pushed x base)).actions ≡ size + 1
      of None = length-append base.actions (x ∷ [])
      of (Some j) = length-updated (with_child size) j (base.actions ++ x ∷ []) ∙ length-append base.actions (x ∷ [])

  -- what is said of actions, but for their children
  pub said_grown : {B : Type 0} (field : Action → B) (missing : B) → ((y : Action) → field (with_child size y) ≡ field y) → (top : Bool) → is_top x.name ≡ top
      → (a : Name) → said field missing (action_of (grown_by top) a) ≡ cond (same_name x.name a) (field x) (said field missing (action_of base a))
  said_grown field missing keeps top is a = said_found field missing top (kept field missing keeps top) a (place_grown top is a)

  pub children_grown : (top : Bool) → is_top x.name ≡ top → (a : Name)
      → children_of (grown_by top) a ≡ cond (same_name (parent_of x.name) a) (children_of base a ++ size ∷ []) (children_of base a)
  children_grown top is a = children_found top is a (place_grown top is a)

  pub named_grown : (top : Bool) → is_top x.name ≡ top → (a : Name) (i : ℕ) → place_of (grown_by top) a ≡ Some i → name_at (grown_by top) i ≡ Some a
  named_grown top is a i at = of (same_name x.name a) refl (sym (place_grown top is a) ∙ at)
    where
      of : (b : Bool) → same_name x.name a ≡ b → cond b (Some size) (place_of base a) ≡ Some i → name_at (grown_by top) i ≡ Some a
      of true same e =
          let there_now : name_at (grown_by top) i ≡ name_at (grown_by top) size = ap (name_at (grown_by top)) (sym (same_Some size i e)) in
          there_now ∙ name_new top ∙ ap Some (same_name_true x.name a same)
      of false differ e =
          let low = within registry base h a i e in
          name_old top i (λ k. omega arith) ∙ h.named a i e

  pub placed_grown : (top : Bool) → is_top x.name ≡ top → (a : Name) (i : ℕ) → name_at (grown_by top) i ≡ Some a → place_of (grown_by top) a ≡ Some i
  placed_grown top is a i name = place_grown top is a ∙ of (cases_eq i size)
    where
      of : (i ≡ size) ⊎ (i ≡ size → ⊥) → cond (same_name x.name a) (Some size) (place_of base a) ≡ Some i
      of (inl last) =
          let e : Some x.name ≡ Some a = sym (name_new top) ∙ ap (name_at (grown_by top)) (sym last) ∙ name in
          ap (λ b. cond b (Some size) (place_of base a)) (same_name_is x.name a (same_Some x.name a e)) ∙ ap Some (sym last)
      of (inr other) =
          let at = h.placed a i (sym (name_old top i other) ∙ name) in
          ap (λ b. cond b (Some size) (place_of base a))
          (same_name_other x.name a (λ e. no_place base a i (subst (λ c. place_of base c ≡ None) e (free base x next)) at)) ∙ at
