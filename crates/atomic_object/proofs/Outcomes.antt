-- Outcomes that rise by name, as a binary search finds them, what they say of ancestors, and what is left of owners and deltas.
use Rattle.std.proofs.Common.{Bool, List, None, Option, Some, [], ap, arith, cond, drop, false, get_or, inl, inr, length, map, option_map, refl, subst, suc, sym, take, true, zero, ℕ, ℤ, ◌+◌, ◌<◌, ◌≤◌, ◌∙◌, ◌∷◌, ◌≡◌, ◌||◌, ◌⊎◌}
use Rattle.std.specs.Prelude.{Err}
use Rattle.std.proofs.lemmas.Bool.{cases_lt, or_from, or_right}
use Rattle.std.proofs.lemmas.List.{at_drop_more}
use Rattle.std.specs.List.{AllByRecursion, list_any}
use Rattle.std.specs.List.Sorted.{IsBinarySearchResult, IsNonDecreasingBy, IsStrictlySortedBy}
use Rattle.std.specs.Ordering.{is_eq, ordering_index}
use Rattle.std.specs.declared.cmp.Ordering.{Ordering}
use Rattle.std.specs.declared.cmp.Ordering.TheVariants.{Equal, Greater, Less}
use Rattle.action_names.specs.Comparison.{name_cmp-total, same_name-ties}
use Rattle.action_names.specs.Names.{Name, ancestors, name_cmp, same_name}
use Rattle.values.specs.declared.content.Content.{Content}
use Rattle.values.specs.declared.value.Value.TheVariants.{Int}
use Rattle.atomic_types.specs.declared.operation.Operation.TheVariants.{Add}
use Rattle.atomic_types.specs.declared.part.Part.TheVariants.{Delta, Value}
use Rattle.atomic_types.specs.Objects.{content_after}
use Rattle.run_model.specs.LocalReadings.{outcome_in}
use Rattle.run_laws.proofs.Names.{same_name_self, same_name_true}
use Rattle.object_model.specs.Deltas.{delta_sum}
use Rattle.object_model.specs.Objects.{Seen, with_sum}
use Rattle.object_model.specs.Stacks.{version_at}
use Rattle.object_laws.specs.OnceTold.{deltas_left, last_in_front, part_over, sum_part}
use Rattle.version_stack.specs.Beside.{sum_if_any}
use Rattle.atomic_object.specs.Staying.{OutcomesRise}

-- ---- ancestors: the beginnings of a name

any_map : (p : Name → Bool) (f : Name → Name) (xs : List Name) → list_any p (map f xs) ≡ list_any (λ x. p (f x)) xs
any_map p f [] = refl
any_map p f (x ∷ xs) = ap (λ b. p (f x) || b) (any_map p f xs)

pub some_ancestor : (p : Name → Bool) (a : Name) (k : ℕ) → k < length a → p (take (k + 1) a) ≡ true → list_any p (ancestors a) ≡ true
some_ancestor p [] k lt h = absurd (omega arith)
some_ancestor p (n ∷ b) zero lt h = ap (λ t. t || list_any p (map (λ a. n ∷ a) (ancestors b))) h
some_ancestor p (n ∷ b) (suc k) lt h =
    let e : suc (k + 1) ≡ suc k + 1 = omega arith in
    or_right (p (n ∷ [])) (list_any p (map (λ a. n ∷ a) (ancestors b)))
    (any_map p (λ a. n ∷ a) (ancestors b) ∙ some_ancestor (λ a. p (n ∷ a)) b k (omega arith) (ap (λ m. p (take m (n ∷ b))) e ∙ h))

pub no_ancestor : (p : Name → Bool) (a : Name) → ((k : ℕ) → k < length a → p (take (k + 1) a) ≡ false) → list_any p (ancestors a) ≡ false
no_ancestor p [] none = refl
no_ancestor p (n ∷ b) none =
    or_from (p (n ∷ [])) (list_any p (map (λ a. n ∷ a) (ancestors b))) (none 0 (omega arith))
    (any_map p (λ a. n ∷ a) (ancestors b) ∙ no_ancestor (λ a. p (n ∷ a)) b (λ k lt.
    let e : suc (k + 1) ≡ suc k + 1 = omega arith in
    ap (λ m. p (take m (n ∷ b))) e ∙ none (suc k) (omega arith)))

-- ---- outcomes by place

abbrev Outcomes : Type 0
Outcomes = List (Name × Bool)

-- the first is before each of the others
first_before : (x : Name × Bool) (xs : Outcomes) → AllByRecursion (λ y. name_cmp x.0 y ≡ Less) (map (λ y. y.0) xs) → (k : ℕ) (d : Name × Bool) → k < length xs
    → name_cmp x.0 (get_or xs k d).0 ≡ Less
first_before x [] h k d lt = absurd (omega arith)
first_before x (y ∷ xs) h zero d lt = h.0
first_before x (y ∷ xs) h (suc k) d lt = first_before x xs h.1 k d (omega arith)

-- each is before those at later places
before_later : (xs : Outcomes) → OutcomesRise xs → (i j : ℕ) (d : Name × Bool) → i < j → j < length xs → name_cmp (get_or xs i d).0 (get_or xs j d).0 ≡ Less
unfolding IsStrictlySortedBy
before_later [] rise i j d lt le = absurd (omega arith)
before_later (x ∷ xs) rise zero zero d lt le = absurd (omega arith)
before_later (x ∷ xs) rise zero (suc j) d lt le = first_before x xs rise.0 j d (omega arith)
before_later (x ∷ xs) rise (suc i) zero d lt le = absurd (omega arith)
before_later (x ∷ xs) rise (suc i) (suc j) d lt le = before_later xs rise.1 i j d (omega arith) (omega arith)

equal_is : (a b : Name) → name_cmp a b ≡ Equal → a ≡ b
equal_is a b e = same_name_true a b (same_name-ties a b ∙ ap is_eq e)

less_differs : (a b : Name) → name_cmp a b ≡ Less → same_name a b ≡ false
less_differs a b e = same_name-ties a b ∙ ap is_eq e

greater_differs : (a b : Name) → name_cmp a b ≡ Greater → same_name a b ≡ false
greater_differs a b e = same_name-ties a b ∙ ap is_eq e

-- so the answers of the comparison with a name do not fall
answers_rise : (xs : Outcomes) (path : Name) → OutcomesRise xs → IsNonDecreasingBy (λ y. ordering_index (name_cmp y.0 path)) xs
answers_rise xs path rise i j d le lt = of (cases_lt i j)
  where
    later : name_cmp (get_or xs i d).0 (get_or xs j d).0 ≡ Less → (o : Ordering) → name_cmp (get_or xs j d).0 path ≡ o
        → ordering_index (name_cmp (get_or xs i d).0 path) ≤ ordering_index o
    later up Less e = let first = name_cmp-total.trans (get_or xs i d).0 (get_or xs j d).0 path up e in rw first (omega arith)
    later up Equal e = let first = ap (λ b. name_cmp (get_or xs i d).0 b) (sym (equal_is (get_or xs j d).0 path e)) ∙ up in rw first (omega arith)
    later up Greater e = highest (name_cmp (get_or xs i d).0 path)
      where
        highest : (o : Ordering) → ordering_index o ≤ 2
        highest Less = omega arith
        highest Equal = omega arith
        highest Greater = omega arith

    of : (i < j) ⊎ (j ≤ i) → ordering_index (name_cmp (get_or xs i d).0 path) ≤ ordering_index (name_cmp (get_or xs j d).0 path)
    of (inr l) = let e : i ≡ j = omega arith in let P : ℕ → Type 0 = λ k. ordering_index (name_cmp (get_or xs i d).0 path) ≤ ordering_index (name_cmp (get_or xs k d).0 path) in
        subst P e (omega arith)
    of (inl l) = later (before_later xs rise i j d l lt) (name_cmp (get_or xs j d).0 path) refl

-- the outcome at the place where its name stands
pub outcome_at : (xs : Outcomes) (path : Name) (k : ℕ) (d : Name × Bool) → OutcomesRise xs → k < length xs → name_cmp (get_or xs k d).0 path ≡ Equal
    → outcome_in xs path ≡ Some (get_or xs k d).1
unfolding IsStrictlySortedBy
outcome_at [] path k d rise lt e = absurd (omega arith)
outcome_at (x ∷ xs) path zero d rise lt e =
    ap (λ (t : Bool). cond t (Some x.1) (outcome_in xs path)) (ap (λ b. same_name x.0 b) (sym (equal_is x.0 path e)) ∙ same_name_self x.0)
outcome_at (x ∷ xs) path (suc k) d rise lt e =
    let up = first_before x xs rise.0 k d (omega arith) in
    let differs = ap (λ b. same_name x.0 b) (sym (equal_is (get_or xs k d).0 path e)) ∙ less_differs x.0 (get_or xs k d).0 up in
    ap (λ (t : Bool). cond t (Some x.1) (outcome_in xs path)) differs ∙ outcome_at xs path k d rise.1 (omega arith) e

-- where no name is that one
none_there : (xs : Outcomes) (path : Name) → ((k : ℕ) (d : Name × Bool) → k < length xs → same_name (get_or xs k d).0 path ≡ false) → outcome_in xs path ≡ None
none_there [] path h = refl
none_there (x ∷ xs) path h =
    ap (λ (t : Bool). cond t (Some x.1) (outcome_in xs path)) (h 0 x (omega arith))
    ∙ none_there xs path (λ k d lt. h (suc k) d (omega arith))

pub outcome_absent : (xs : Outcomes) (path : Name) (at : ℕ) → OutcomesRise xs → at ≤ length xs
    → IsBinarySearchResult (λ y. name_cmp y.0 path) xs (Err at) → outcome_in xs path ≡ None
outcome_absent xs path at rise le found = none_there xs path (λ k d lt. of k d lt (cases_lt k at))
  where
    of : (k : ℕ) (d : Name × Bool) → k < length xs → (k < at) ⊎ (at ≤ k) → same_name (get_or xs k d).0 path ≡ false
    of k d lt (inl l) = less_differs (get_or xs k d).0 path ((found (answers_rise xs path rise)).0 k d (omega arith) l)
    of k d lt (inr l) = greater_differs (get_or xs k d).0 path ((found (answers_rise xs path rise)).1 k d l lt)

-- ---- owners that stay

-- one more owner that stays
pub one_more : (p : Name → Bool) (o : Option Name) (ns : List Name) (i : ℕ) (a : Name) → i < length ns → a ≡ get_or ns i a → p a ≡ true
    → last_in_front p o (drop i ns) ≡ last_in_front p (Some a) (drop (i + 1) ns)
one_more p o ns i a lt is stays =
    at_drop_more (λ bs. last_in_front p o bs) ns i a lt ∙ ap (λ b. last_in_front p o (b ∷ drop (i + 1) ns)) (sym is)
    ∙ ap (λ (t : Bool). cond t (last_in_front p (Some a) (drop (i + 1) ns)) o) stays

-- behind one that does not stay nobody is asked
pub no_more : (p : Name → Bool) (o : Option Name) (ns : List Name) (i : ℕ) (a : Name) → i < length ns → a ≡ get_or ns i a → p a ≡ false
    → last_in_front p o (drop i ns) ≡ o
no_more p o ns i a lt is goes =
    at_drop_more (λ bs. last_in_front p o bs) ns i a lt ∙ ap (λ b. last_in_front p o (b ∷ drop (i + 1) ns)) (sym is)
    ∙ ap (λ (t : Bool). cond t (last_in_front p (Some a) (drop (i + 1) ns)) o) goes

-- ---- parts

-- the part of what is left of the deltas
pub sum_is_part : (ds : List (Name × ℤ)) → option_map (λ z. Delta z) (sum_if_any ds) ≡ sum_part ds
sum_is_part [] = refl
sum_is_part (d ∷ ds) = refl

-- a content with the sum of what is left of them, if there are any
pub with_some : (c d : Content) (ds : List (Name × ℤ)) (z : ℤ) → sum_if_any ds ≡ Some z → d ≡ content_after c (Add (Int z)) → d ≡ with_sum c ds
with_some c d [] z e k = cc
with_some c d (x ∷ ds) z e k = let same : z ≡ delta_sum (x ∷ ds) = cc in k ∙ ap (λ n. content_after c (Add (Int n))) same

pub with_none : (c : Content) (ds : List (Name × ℤ)) → sum_if_any ds ≡ None → c ≡ with_sum c ds
with_none c [] e = refl
with_none c (x ∷ ds) e = cc

-- an owner without a version has no part
pub none_over : (outcomes : List (Name × Bool)) (top : Name) (object : Seen) (owner : Name) → version_at object.stack.versions owner ≡ None
    → None ≡ part_over outcomes top object (Some owner)
none_over outcomes top object owner e =
    sym (ap (λ o. option_map (λ v. Value (with_sum v (deltas_left outcomes owner object.deltas))) o) e)

-- one with a version has it, with what is left of the deltas below it
pub some_over : (outcomes : List (Name × Bool)) (top : Name) (object : Seen) (owner : Name) (v d : Content) → version_at object.stack.versions owner ≡ Some v
    → d ≡ with_sum v (deltas_left outcomes owner object.deltas) → Some (Value d) ≡ part_over outcomes top object (Some owner)
some_over outcomes top object owner v d e k =
    ap (λ c. Some (Value c)) k ∙ sym (ap (λ o. option_map (λ c. Value (with_sum c (deltas_left outcomes owner object.deltas))) o) e)
