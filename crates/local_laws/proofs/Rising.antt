-- Rising lists of names: each name stands in them once, and an action behind those above it.
use Rattle.std.proofs.Common.{Bool, List, None, Option, Some, [], ap, ap₂, cond, eqb-true, false, filter, inl, inr, refl, subst, sym, true, ◌∙◌, ◌∷◌, ◌≡◌, ◌⊎◌, ◌||◌}
use Rattle.std.proofs.lemmas.Bool.{and_left, and_parts, false_from_ne_true, false≢true, or_cases, or_from, or_left, or_right, true≢false}
use Rattle.std.proofs.lemmas.Cmp.{nat_cmp_total, tied_itself}
use Rattle.std.specs.Ordering.{is_eq, is_lt, nat_cmp, ordering_reverse, ordering_then}
use Rattle.std.specs.declared.cmp.Ordering.{Ordering}
use Rattle.std.specs.declared.cmp.Ordering.TheVariants.{Equal, Greater, Less}
use Rattle.action_names.specs.Comparison.{name_cmp-total, same_name-ties}
use Rattle.action_names.specs.Names.{Name, has_name, insert_name, is_ancestor, is_prefix, name_cmp, name_lt, rising_names, same_name}
use Rattle.run_model.specs.Telling.{last_passing, or_else}
use Rattle.run_laws.proofs.Each.{Each, each_map}
use Rattle.run_laws.proofs.Names.{clash, same_name_self, same_name_true}
use Rattle.local_laws.proofs.Outcomes.{has_filter}

-- each is before all behind it
abbrev pub Rising : List Name → Type 0
Rising [] = Unit {0}
Rising (a ∷ names) = Each (λ b. name_cmp a b ≡ Less) names × Rising names

is_less : (o : Ordering) → is_lt o ≡ true → o ≡ Less
is_less Less h = refl
is_less Equal h = absurd (false≢true h)
is_less Greater h = absurd (false≢true h)

not_less : Less ≡ Equal → ⊥
not_less e = true≢false (ap is_lt e)

-- of two names one is before the other
other_before : (a b : Name) → same_name a b ≡ false → name_lt a b ≡ false → name_cmp b a ≡ Less
other_before a b differ later = name_cmp-total.antisymm b a ∙ of (name_cmp a b) (sym (same_name-ties a b) ∙ differ) later
  where
    of : (o : Ordering) → is_eq o ≡ false → is_lt o ≡ false → ordering_reverse o ≡ Less
    of Less e l = absurd (true≢false l)
    of Equal e l = absurd (true≢false e)
    of Greater e l = refl

each_insert : (P : Name → Type 0) (a : Name) (names : List Name) → P a → Each P names → Each P (insert_name a names)
each_insert P a [] p h = (p, tt)
each_insert P a (b ∷ names) p h = step (same_name a b) (name_lt a b) (each_insert P a names p h.1)
  where
    step : (t u : Bool) → Each P (insert_name a names) → Each P (cond t (b ∷ names) (cond u (a ∷ b ∷ names) (b ∷ insert_name a names)))
    step true u k = h
    step false true k = (p, h)
    step false false k = (h.0, k)

insert_rising : (a : Name) (names : List Name) → Rising names → Rising (insert_name a names)
insert_rising a [] h = (tt, tt)
insert_rising a (b ∷ names) h = step (same_name a b) refl (name_lt a b) refl (insert_rising a names h.1)
  where
    step : (t : Bool) → same_name a b ≡ t → (u : Bool) → name_lt a b ≡ u → Rising (insert_name a names)
        → Rising (cond t (b ∷ names) (cond u (a ∷ b ∷ names) (b ∷ insert_name a names)))
    step true e u l k = h
    step false e true l k =
        let before = is_less (name_cmp a b) l in
        ((before, each_map _ _ names (λ c q. name_cmp-total.trans a b c before q) h.0), h)
    step false e false l k = (each_insert (λ c. name_cmp b c ≡ Less) a names (other_before a b e l) h.0, k)

pub rising_is : (names : List Name) → Rising (rising_names names)
rising_is [] = tt
rising_is (a ∷ names) = insert_rising a (rising_names names) (rising_is names)

-- none of them comes twice
abbrev pub Distinct : List Name → Type 0
Distinct [] = Unit {0}
Distinct (a ∷ names) = (has_name names a ≡ false) × Distinct names

never_before_itself : (a : Name) → name_cmp a a ≡ Less → ⊥
never_before_itself a h = not_less (sym h ∙ tied_itself name_cmp-total a)

rising_distinct : (names : List Name) → Rising names → Distinct names
rising_distinct [] h = tt
rising_distinct (a ∷ names) h = (absent names h.0, rising_distinct names h.1)
  where
    absent : (bs : List Name) → Each (λ b. name_cmp a b ≡ Less) bs → has_name bs a ≡ false
    absent [] k = refl
    absent (b ∷ bs) k =
        or_from (same_name b a) (has_name bs a)
        (false_from_ne_true _ (λ e. never_before_itself a (subst (λ c. name_cmp a c ≡ Less) (same_name_true b a e) k.0)))
        (absent bs k.1)

filter_distinct : (p : Name → Bool) (names : List Name) → Distinct names → Distinct (filter p names)
filter_distinct p [] h = tt
filter_distinct p (a ∷ names) h = step (p a) (filter_distinct p names h.1)
  where
    step : (t : Bool) → Distinct (filter p names) → Distinct (cond t (a ∷ filter p names) (filter p names))
    step true k = (has_filter p names a ∙ and_left (has_name names a) (p a) h.0, k)
    step false k = k

pub some_rising_distinct : (p : Name → Bool) (names : List Name) → Distinct (filter p (rising_names names))
some_rising_distinct p names = filter_distinct p (rising_names names) (rising_distinct (rising_names names) (rising_is names))

-- ---- the last of them

at_member : (P : Name → Type 0) (names : List Name) (a : Name) → Each P names → has_name names a ≡ true → P a
at_member P [] a h k = absurd (false≢true k)
at_member P (b ∷ names) a h k = elim (or_cases _ _ k) [
  | inl e ↦ subst P (same_name_true b a e) h.0
  | inr l ↦ at_member P names a h.1 l
]

pub last_none : (names : List Name) (a : Name) → last_passing (λ b. true) names ≡ None → has_name names a ≡ false
last_none [] a h = refl
last_none (b ∷ names) a h = absurd (of (last_passing (λ c. true) names) h)
  where
    of : (o : Option Name) → or_else o (Some b) ≡ None → ⊥
    of None k = cc
    of (Some c) k = cc

pub last_there : (names : List Name) (l : Name) → last_passing (λ b. true) names ≡ Some l → has_name names l ≡ true
last_there [] l h = absurd (none h)
  where
    none : None ≡ Some l → ⊥
    none k = cc
last_there (b ∷ names) l h = of (last_passing (λ c. true) names) refl h (λ q. last_there names l q)
  where
    of : (o : Option Name) → last_passing (λ c. true) names ≡ o → or_else o (Some b) ≡ Some l
        → (last_passing (λ c. true) names ≡ Some l → has_name names l ≡ true) → (same_name b l || has_name names l) ≡ true
    of None e k ih = let is : b ≡ l = cc in or_left _ _ (subst (λ c. same_name b c ≡ true) is (same_name_self b))
    of (Some c) e k ih = or_right _ _ (ih (e ∙ k))

up_to_last : (names : List Name) (a l : Name) → Rising names → last_passing (λ b. true) names ≡ Some l → has_name names a ≡ true
    → (a ≡ l) ⊎ (name_cmp a l ≡ Less)
up_to_last [] a l h e k = absurd (false≢true k)
up_to_last (b ∷ names) a l h e k = of (last_passing (λ c. true) names) refl e (or_cases _ _ k) (λ q s. up_to_last names a l h.1 q s)
  where
    of : (o : Option Name) → last_passing (λ c. true) names ≡ o → or_else o (Some b) ≡ Some l
        → (same_name b a ≡ true) ⊎ (has_name names a ≡ true)
        → (last_passing (λ c. true) names ≡ Some l → has_name names a ≡ true → (a ≡ l) ⊎ (name_cmp a l ≡ Less))
        → (a ≡ l) ⊎ (name_cmp a l ≡ Less)
    of None q m (inl s) ih = let is : b ≡ l = cc in inl (sym (same_name_true b a s) ∙ is)
    of None q m (inr s) ih = absurd (clash s (last_none names a q))
    of (Some c) q m (inl s) ih =
        inr (subst (λ d. name_cmp d l ≡ Less) (same_name_true b a s)
        (at_member (λ d. name_cmp b d ≡ Less) names l h.0 (last_there names l (q ∙ m))))
    of (Some c) q m (inr s) ih = ih (q ∙ m) s

-- what begins a name is that name or before it
prefix_before : (a b : Name) → is_prefix a b ≡ true → (a ≡ b) ⊎ (name_cmp a b ≡ Less)
prefix_before [] [] h = inl refl
prefix_before [] (y ∷ b) h = inr refl
prefix_before (x ∷ a) [] h = absurd (false≢true h)
prefix_before (x ∷ a) (y ∷ b) h =
    let p = and_parts _ _ h in
    let e : x ≡ y = eqb-true x y p.0 in
    let tie : nat_cmp x y ≡ Equal = subst (λ z. nat_cmp x z ≡ Equal) e (tied_itself nat_cmp_total x) in
    elim (prefix_before a b p.1) [
      | inl q ↦ inl (ap₂ (λ n c. n ∷ c) e q)
      | inr q ↦ inr (ap₂ (λ o r. ordering_then o r) tie q)
    ]

above_before : (a b : Name) → is_ancestor a b ≡ true → (a ≡ b) ⊎ (name_cmp a b ≡ Less)
above_before [] b h = absurd (false≢true h)
above_before (x ∷ a) b h = prefix_before (x ∷ a) b h

-- Of a chain by ancestry, the last is below all.
pub last_of_chain : (names : List Name) (a l : Name) → Rising names → last_passing (λ b. true) names ≡ Some l → has_name names a ≡ true
    → (is_ancestor a l ≡ true) ⊎ (is_ancestor l a ≡ true) → is_ancestor a l ≡ true
last_of_chain names a l h e k (inl above) = above
last_of_chain names a l h e k (inr below) = of (up_to_last names a l h e k) (above_before l a below)
  where
    same : a ≡ l → is_ancestor a l ≡ true
    same q = ap₂ (λ c d. is_ancestor c d) q (sym q) ∙ below

    of : (a ≡ l) ⊎ (name_cmp a l ≡ Less) → (l ≡ a) ⊎ (name_cmp l a ≡ Less) → is_ancestor a l ≡ true
    of (inl q) m = same q
    of (inr q) (inl m) = same (sym m)
    of (inr q) (inr m) = absurd (never_before_itself a (name_cmp-total.trans a l a q m))
