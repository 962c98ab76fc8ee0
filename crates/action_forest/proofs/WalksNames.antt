-- Lists of names: how often a name is in them, and those that rise.
use Rattle.std.proofs.Common.{Bool, List, [], ap, arith, cond, count_by, false, filter, get_or, inl, inr, length, refl, subst, sym, true, ℕ, ◌&&◌, ◌+◌, ◌<◌, ◌≤◌, ◌∙◌, ◌∷◌, ◌≡◌, ◌⊎◌, ◌||◌}
use Rattle.std.specs.Prelude.{nat_lt}
use Rattle.std.specs.List.{AllByRecursion, IsDistinct, list_any}
use Rattle.std.specs.List.Sorted.{IsStrictlySortedBy}
use Rattle.std.specs.Ordering.{is_eq, is_lt, ordering_reverse}
use Rattle.std.specs.declared.cmp.Ordering.{Ordering}
use Rattle.std.specs.declared.cmp.Ordering.TheVariants.{Equal, Greater, Less}
use Rattle.std.proofs.lemmas.Bool.{and_right, false_from_ne_true, false≢true, lt-ltb, or_cases, or_from, true≢false}
use Rattle.std.proofs.lemmas.Cmp.{tied_itself}
use Rattle.std.proofs.lemmas.Map.Keys.{IsDistinct-cons, apart_from_distinct, sorted_from_all_adjacent, sorted_head, sorted_tail}
use Rattle.action_names.specs.Comparison.{name_cmp-total, same_name-ties}
use Rattle.action_names.specs.Names.{Name, has_name, insert_name, name_cmp, name_lt, rising_names, same_name}
use Rattle.action_forest.proofs.Counted.{count_front}
use Rattle.action_forest.proofs.Names.{same_name_self, same_name_sym, same_name_true}

-- how often a name is in a list
abbrev pub times_in : List Name → Name → ℕ
times_in names b = count_by (λ c. same_name c b) names

pub times_front : (a : Name) (names : List Name) (b : Name) → times_in (a ∷ names) b ≡ cond {A = ℕ} (same_name a b) 1 0 + times_in names b
times_front a names b = count_front (λ c. same_name c b) a names

-- it is in the list where that is not 0 times
pub has_counted : (names : List Name) (b : Name) → has_name names b ≡ nat_lt 0 (times_in names b)
has_counted [] b = refl
has_counted (a ∷ names) b = of (same_name a b) (has_counted names b) ∙ sym (ap (nat_lt 0) (times_front a names b))
  where
    of : (t : Bool) → has_name names b ≡ nat_lt 0 (times_in names b)
        → (t || has_name names b) ≡ nat_lt 0 (cond {A = ℕ} t 1 0 + times_in names b)
    of true e = sym (lt-ltb 0 (1 + times_in names b) (omega arith))
    of false e = let same : times_in names b ≡ 0 + times_in names b = omega arith in e ∙ ap (nat_lt 0) same

pub has_from_times : (names : List Name) (b : Name) (t : Bool) → times_in names b ≡ cond {A = ℕ} t 1 0 → has_name names b ≡ t
has_from_times names b t h = has_counted names b ∙ ap (nat_lt 0) h ∙ of t
  where
    of : (u : Bool) → nat_lt 0 (cond {A = ℕ} u 1 0) ≡ u
    of true = refl
    of false = refl

pub any_is : (names : List Name) (b : Name) → list_any (same_name b) names ≡ has_name names b
any_is [] b = refl
any_is (a ∷ names) b = ap (λ t. t || list_any (same_name b) names) (same_name_sym b a) ∙ ap (λ t. same_name a b || t) (any_is names b)

none_distinct : IsDistinct same_name []
unfolding IsDistinct
none_distinct = tt

-- names that are there at most once each
pub distinct : (names : List Name) → ((b : Name) → times_in names b ≤ 1) → IsDistinct same_name names
distinct [] h = none_distinct
distinct (a ∷ names) h =
    let one : cond {A = ℕ} (same_name a a) 1 0 ≡ 1 = ap (λ t. cond t 1 0) (same_name_self a) in
    let none : times_in names a ≡ 0 = omega (arith, h a, times_front a names a) in
    IsDistinct-cons same_name a names (apart names none) (distinct names (λ b. omega (arith, h b, times_front a names b)))
  where
    apart : (bs : List Name) → times_in bs a ≡ 0 → AllByRecursion (λ b. same_name a b ≡ false) bs
    apart [] e = tt
    apart (b ∷ bs) e = of (same_name b a) refl (λ k. apart bs k)
      where
        of : (t : Bool) → same_name b a ≡ t → (times_in bs a ≡ 0 → AllByRecursion (λ c. same_name a c ≡ false) bs)
            → (same_name a b ≡ false) × AllByRecursion (λ c. same_name a c ≡ false) bs
        of true same more =
            let first : cond {A = ℕ} (same_name b a) 1 0 ≡ 1 = ap (λ t. cond t 1 0) same in
            absurd (omega (arith, times_front b bs a))
        of false differ more =
            let first : cond {A = ℕ} (same_name b a) 1 0 ≡ 0 = ap (λ t. cond t 1 0) differ in
            (same_name_sym a b ∙ differ, more (omega (arith, times_front b bs a)))

-- ---- names that rise

-- each is before all behind it
abbrev pub Rising : List Name → Type 0
Rising [] = Unit {0}
Rising (a ∷ names) = AllByRecursion (λ b. name_cmp a b ≡ Less) names × Rising names

is_less : (o : Ordering) → is_lt o ≡ true → o ≡ Less
is_less Less h = refl
is_less Equal h = absurd (false≢true h)
is_less Greater h = absurd (false≢true h)

not_less : Less ≡ Equal → ⊥
not_less e = true≢false (ap is_lt e)

never_before_itself : (a : Name) → name_cmp a a ≡ Less → ⊥
never_before_itself a h = not_less (sym h ∙ tied_itself name_cmp-total a)

-- of two names one is before the other
pub other_before : (a b : Name) → same_name a b ≡ false → name_lt a b ≡ false → name_cmp b a ≡ Less
other_before a b differ later = name_cmp-total.antisymm b a ∙ of (name_cmp a b) (sym (same_name-ties a b) ∙ differ) later
  where
    of : (o : Ordering) → is_eq o ≡ false → is_lt o ≡ false → ordering_reverse o ≡ Less
    of Less e l = absurd (true≢false l)
    of Equal e l = absurd (true≢false e)
    of Greater e l = refl

all_weaker : (P Q : Name → Type 0) (names : List Name) → ((b : Name) → P b → Q b) → AllByRecursion P names → AllByRecursion Q names
all_weaker P Q [] f h = tt
all_weaker P Q (b ∷ names) f h = (f b h.0, all_weaker P Q names f h.1)

all_insert : (P : Name → Type 0) (a : Name) (names : List Name) → P a → AllByRecursion P names → AllByRecursion P (insert_name a names)
all_insert P a [] p h = (p, tt)
all_insert P a (b ∷ names) p h = step (same_name a b) (name_lt a b) (all_insert P a names p h.1)
  where
    step : (t u : Bool) → AllByRecursion P (insert_name a names) → AllByRecursion P (cond t (b ∷ names) (cond u (a ∷ b ∷ names) (b ∷ insert_name a names)))
    step true u k = h
    step false true k = (p, h)
    step false false k = (h.0, k)

insert_rising : (a : Name) (names : List Name) → Rising names → Rising (insert_name a names)
insert_rising a [] h = (tt, tt)
insert_rising a (b ∷ names) h = step (same_name a b) refl (name_lt a b) refl (insert_rising a names h.1)
  where
    step : (t : Bool) → same_name a b ≡ t → (u : Bool) → name_lt a b ≡ u → Rising (insert_name a names)
        → Rising (cond t (b ∷ names) (cond u (a ∷ b ∷ names) (b ∷ insert_name a names)))
    step true e u l k = h
    step false e true l k =
        let before = is_less (name_cmp a b) l in
        ((before, all_weaker _ _ names (λ c q. name_cmp-total.trans a b c before q) h.0), h)
    step false e false l k = (all_insert (λ c. name_cmp b c ≡ Less) a names (other_before a b e l) h.0, k)

pub rising_is : (names : List Name) → Rising (rising_names names)
rising_is [] = tt
rising_is (a ∷ names) = insert_rising a (rising_names names) (rising_is names)

-- a name is in a list where it is put in
has_insert : (a b : Name) (names : List Name) → has_name (insert_name a names) b ≡ (same_name a b || has_name names b)
has_insert a b [] = refl
has_insert a b (c ∷ names) = place (same_name a c) refl (name_lt a c) (has_insert a b names)
  where
    turn : (x y z : Bool) → (x || (y || z)) ≡ (y || (x || z))
    turn true true z = refl
    turn true false z = refl
    turn false y z = refl

    same : (x y : Bool) → (x || y) ≡ (x || (x || y))
    same true y = refl
    same false y = refl

    place : (t : Bool) → same_name a c ≡ t → (u : Bool) → has_name (insert_name a names) b ≡ (same_name a b || has_name names b)
        → has_name (cond t (c ∷ names) (cond u (a ∷ c ∷ names) (c ∷ insert_name a names))) b ≡ (same_name a b || (same_name c b || has_name names b))
    place true e u h = same (same_name c b) (has_name names b) ∙ ap (λ x. same_name x b || (same_name c b || has_name names b)) (sym (same_name_true a c e))
    place false e true h = refl
    place false e false h = ap (λ t. same_name c b || t) h ∙ turn (same_name c b) (same_name a b) (has_name names b)

pub has_rising : (names : List Name) (b : Name) → has_name (rising_names names) b ≡ has_name names b
has_rising [] b = refl
has_rising (a ∷ names) b = has_insert a b (rising_names names) ∙ ap (λ t. same_name a b || t) (has_rising names b)

pub has_filter : (p : Name → Bool) (names : List Name) (b : Name) → has_name (filter p names) b ≡ (has_name names b && p b)
has_filter p [] b = refl
has_filter p (a ∷ names) b = of (p a) refl (same_name a b) refl (has_filter p names b)
  where
    of : (t : Bool) → p a ≡ t → (u : Bool) → same_name a b ≡ u → has_name (filter p names) b ≡ (has_name names b && p b)
        → has_name (cond t (a ∷ filter p names) (filter p names)) b ≡ ((u || has_name names b) && p b)
    of true e true f h =
        ap (λ x. x || has_name (filter p names) b) f ∙ sym (ap p (sym (same_name_true a b f)) ∙ e)
    of true e false f h = ap (λ x. x || has_name (filter p names) b) f ∙ h
    of false e true f h = h ∙ and_right (has_name names b) (p b) no ∙ sym no
      where
        no : p b ≡ false
        no = ap p (sym (same_name_true a b f)) ∙ e
    of false e false f h = h

-- what is before all of them is none of them
absent : (a : Name) (names : List Name) → AllByRecursion (λ b. name_cmp a b ≡ Less) names → has_name names a ≡ false
absent a [] k = refl
absent a (b ∷ bs) k =
    or_from (same_name b a) (has_name bs a)
    (false_from_ne_true _ (λ e. never_before_itself a (subst (λ c. name_cmp a c ≡ Less) (same_name_true b a e) k.0)))
    (absent a bs k.1)

at_member : (P : Name → Type 0) (names : List Name) (a : Name) → AllByRecursion P names → has_name names a ≡ true → P a
at_member P [] a h k = absurd (false≢true k)
at_member P (b ∷ names) a h k = elim (or_cases _ _ k) [
  | inl e ↦ subst P (same_name_true b a e) h.0
  | inr l ↦ at_member P names a h.1 l
]

front : (a : Name) (names : List Name) → has_name (a ∷ names) a ≡ true
front a names = ap (λ t. t || has_name names a) (same_name_self a)

-- two lists that rise and have the same names are the same
pub same_rising : (xs ys : List Name) → Rising xs → Rising ys → ((b : Name) → has_name xs b ≡ has_name ys b) → xs ≡ ys
same_rising [] [] g h is = refl
same_rising [] (y ∷ ys) g h is = absurd (false≢true (is y ∙ front y ys))
same_rising (x ∷ xs) [] g h is = absurd (true≢false (sym (front x xs) ∙ is x))
same_rising (x ∷ xs) (y ∷ ys) g h is =
    let first : x ≡ y = firsts (or_cases _ _ (sym (is x) ∙ front x xs)) (or_cases _ _ (is y ∙ front y ys)) in
    let rest : xs ≡ ys = same_rising xs ys g.1 h.1 (λ b. tails first b (same_name x b) refl) in
    λ i. first i ∷ rest i
  where
    firsts : (same_name y x ≡ true) ⊎ (has_name ys x ≡ true) → (same_name x y ≡ true) ⊎ (has_name xs y ≡ true) → x ≡ y
    firsts (inl e) o = sym (same_name_true y x e)
    firsts (inr e) (inl k) = same_name_true x y k
    firsts (inr e) (inr k) =
        absurd (never_before_itself x
        (name_cmp-total.trans x y x (at_member (λ c. name_cmp x c ≡ Less) xs y g.0 k) (at_member (λ c. name_cmp y c ≡ Less) ys x h.0 e)))

    tails : x ≡ y → (b : Name) (t : Bool) → same_name x b ≡ t → has_name xs b ≡ has_name ys b
    tails first b true same =
        let at : x ≡ b = same_name_true x b same in
        ap (has_name xs) (sym at) ∙ absent x xs g.0 ∙ sym (ap (has_name ys) (sym (sym first ∙ at)) ∙ absent y ys h.0)
    tails first b false differ =
        sym (ap (λ t. t || has_name xs b) differ) ∙ is b ∙ ap (λ t. t || has_name ys b) (ap (λ c. same_name c b) (sym first) ∙ differ)

rising_from : (names : List Name) → IsStrictlySortedBy name_cmp names → Rising names
rising_from [] h = tt
rising_from (a ∷ names) h = (sorted_head name_cmp a names h, rising_from names (sorted_tail name_cmp a names h))

-- names that are there at most once each, and of which none is before the one in front of it, rise
pub rising_sorted : (names : List Name) → ((b : Name) → times_in names b ≤ 1)
    → ((k : ℕ) → k + 1 < length names → name_lt (get_or names (k + 1) []) (get_or names k []) ≡ false) → Rising names
rising_sorted names once sorted =
    rising_from names (sorted_from_all_adjacent name_cmp-total names [] (λ k h.
    other_before (get_or names (k + 1) []) (get_or names k [])
    (same_name_sym (get_or names (k + 1) []) (get_or names k []) ∙ apart_from_distinct same_name names k (k + 1) [] (distinct names once) (omega arith) h)
    (sorted k h)))
