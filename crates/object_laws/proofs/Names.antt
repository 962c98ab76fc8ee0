-- Lists of names: what is put in, taken out and handed on, and that rising lists of the same names are one.
use Rattle.std.proofs.Common.{Bool, List, None, Option, Some, [], ap, ap₂, cond, false, inl, inr, not, refl, subst, sym, true, ◌&&◌, ◌∙◌, ◌∷◌, ◌≡◌, ◌||◌}
use Rattle.std.proofs.lemmas.Bool.{and_right, false_from_ne_true, false≢true, or_cases, or_left, true≢false}
use Rattle.std.proofs.lemmas.Cmp.{tied_itself}
use Rattle.std.specs.BTreeSet.{insert_key}
use Rattle.std.specs.List.{AllByRecursion}
use Rattle.std.specs.List.Sorted.{IsStrictlySortedBy}
use Rattle.std.specs.Ordering.{is_eq, is_lt, match_ordering}
use Rattle.std.specs.declared.cmp.Ordering.{Ordering}
use Rattle.std.specs.declared.cmp.Ordering.TheVariants.{Equal, Greater, Less}
use Rattle.action_names.specs.Comparison.{name_cmp-total, same_name-equivalence, same_name-ties}
use Rattle.action_names.specs.Names.{Name, has_name, name_cmp, same_name}
use Rattle.run_laws.proofs.Each.{Each}
use Rattle.run_laws.proofs.Names.{clash, same_name_self, same_name_true}
use Rattle.local_laws.proofs.Outcomes.{has_filter}
use Rattle.local_laws.proofs.Rising.{Rising}
use Rattle.object_model.specs.Locks.{passed, with_next}
use Rattle.object_model.specs.Objects.{NamesRise, is_next}

pub same_turned : (a b : Name) → same_name a b ≡ same_name b a
same_turned a b = same_name-equivalence.symm a b

-- a name that was put among the others
pub has_insert : (a b : Name) (ns : List Name) → has_name (insert_key name_cmp ns a) b ≡ (same_name a b || has_name ns b)
has_insert a b [] = refl
has_insert a b (n ∷ ns) = of (name_cmp a n) refl (has_insert a b ns)
  where
    again : (s r : Bool) → (s || r) ≡ (s || (s || r))
    again true r = refl
    again false r = refl

    turned : (s t r : Bool) → (t || (s || r)) ≡ (s || (t || r))
    turned true true r = refl
    turned true false r = refl
    turned false true r = refl
    turned false false r = refl

    of : (o : Ordering) → name_cmp a n ≡ o → has_name (insert_key name_cmp ns a) b ≡ (same_name a b || has_name ns b)
        → has_name (match_ordering o (a ∷ n ∷ ns) (n ∷ ns) (n ∷ insert_key name_cmp ns a)) b ≡ (same_name a b || (same_name n b || has_name ns b))
    of Less e ih = refl
    of Equal e ih =
        let same : a ≡ n = same_name_true a n (same_name-ties a n ∙ ap is_eq e) in
        again (same_name n b) (has_name ns b) ∙ ap (λ x. same_name x b || (same_name n b || has_name ns b)) (sym same)
    of Greater e ih = ap (λ t. same_name n b || t) ih ∙ turned (same_name a b) (same_name n b) (has_name ns b)

-- what b has, once all that a had is at the next holder: no more, if b is a; what a had too, if b is the next holder
abbrev pub moved_at : Bool → Bool → Bool → Bool → Bool
moved_at same next mine own = cond same false (cond next (mine || own) own)

pub has_passed : (a b : Name) (to : Option Name) (ns : List Name)
    → has_name (passed a to ns) b ≡ moved_at (same_name a b) (is_next to b) (has_name ns a) (has_name ns b)
has_passed a b to ns =
    has_filter (λ c. not (same_name c a)) (with_next ns a to) b ∙ ap (λ t. has_name (with_next ns a to) b && not t) (same_turned b a)
    ∙ of (same_name a b) ∙ ap (λ t. cond (same_name a b) false t) (next to (has_name ns a) refl)
  where
    of : (t : Bool) → (has_name (with_next ns a to) b && not t) ≡ cond t false (has_name (with_next ns a to) b)
    of true = and_right (has_name (with_next ns a to) b) false refl
    of false = whole (has_name (with_next ns a to) b)
      where
        whole : (t : Bool) → (t && true) ≡ t
        whole true = refl
        whole false = refl

    next : (to : Option Name) (t : Bool) → has_name ns a ≡ t → has_name (with_next ns a to) b ≡ cond (is_next to b) (has_name ns a || has_name ns b) (has_name ns b)
    next None t e = refl
    next (Some p) true e =
        ap (λ u. has_name (cond u (insert_key name_cmp ns p) ns) b) e ∙ has_insert p b ns ∙ there (same_name p b)
        ∙ ap (λ u. cond (same_name p b) (u || has_name ns b) (has_name ns b)) (sym e)
      where
        there : (t : Bool) → (t || has_name ns b) ≡ cond t true (has_name ns b)
        there true = refl
        there false = refl
    next (Some p) false e =
        ap (λ u. has_name (cond u (insert_key name_cmp ns p) ns) b) e ∙ there (same_name p b)
        ∙ ap (λ u. cond (same_name p b) (u || has_name ns b) (has_name ns b)) (sym e)
      where
        there : (t : Bool) → has_name ns b ≡ cond t (has_name ns b) (has_name ns b)
        there true = refl
        there false = refl

-- ---- rising lists

-- they rise as std has it
pub rising_from : (ns : List Name) → IsStrictlySortedBy name_cmp ns → Rising ns
unfolding IsStrictlySortedBy
rising_from [] h = tt
rising_from (a ∷ ns) h = (each ns h.0, rising_from ns h.1)
  where
    each : (bs : List Name) → AllByRecursion (λ b. name_cmp a b ≡ Less) bs → Each (λ b. name_cmp a b ≡ Less) bs
    each [] k = tt
    each (b ∷ bs) k = (k.0, each bs k.1)

pub none_rise : NamesRise []
unfolding IsStrictlySortedBy
none_rise = tt

-- the first is before each that is there
first_before : (a : Name) (ns : List Name) → Each (λ b. name_cmp a b ≡ Less) ns → (b : Name) → has_name ns b ≡ true → name_cmp a b ≡ Less
first_before a [] h b k = absurd (false≢true k)
first_before a (n ∷ ns) h b k = elim (or_cases _ _ k) [
  | inl e ↦ subst (λ x. name_cmp a x ≡ Less) (same_name_true n b e) h.0
  | inr l ↦ first_before a ns h.1 b l
]

never_before_itself : (a : Name) → name_cmp a a ≡ Less → ⊥
never_before_itself a h = true≢false (ap is_lt (sym h ∙ tied_itself name_cmp-total a))

pub first_absent : (a : Name) (ns : List Name) → Each (λ b. name_cmp a b ≡ Less) ns → has_name ns a ≡ false
first_absent a ns h = false_from_ne_true _ (λ k. never_before_itself a (first_before a ns h a k))

-- rising lists of the same names are one
pub rising_same : (ms ns : List Name) → Rising ms → Rising ns → ((b : Name) → has_name ms b ≡ has_name ns b) → ms ≡ ns
rising_same [] [] h k same = refl
rising_same [] (n ∷ ns) h k same = absurd (clash (or_left _ _ (same_name_self n)) (sym (same n)))
rising_same (m ∷ ms) [] h k same = absurd (clash (or_left _ _ (same_name_self m)) (same m))
rising_same (m ∷ ms) (n ∷ ns) h k same = of (same_name m n) refl (λ e. rising_same ms ns h.1 k.1 e)
  where
    rest : m ≡ n → (b : Name) → has_name ms b ≡ has_name ns b
    rest e b = other (same_name m b) refl
      where
        other : (t : Bool) → same_name m b ≡ t → has_name ms b ≡ has_name ns b
        other true q =
            let is : m ≡ b = same_name_true m b q in
            ap (λ x. has_name ms x) (sym is) ∙ first_absent m ms h.0 ∙ sym (first_absent n ns k.0) ∙ ap (λ x. has_name ns x) (sym e ∙ is)
        other false q =
            ap (λ t. t || has_name ms b) (sym q) ∙ same b ∙ ap (λ x. same_name x b || has_name ns b) (sym e) ∙ ap (λ t. t || has_name ns b) q

    of : (t : Bool) → same_name m n ≡ t → (((b : Name) → has_name ms b ≡ has_name ns b) → ms ≡ ns) → (m ∷ ms) ≡ (n ∷ ns)
    of true e ih = let is = same_name_true m n e in ap₂ (λ x xs. x ∷ xs) is (ih (rest is))
    of false e ih =
        let there = sym (ap (λ t. t || has_name ns m) (same_turned n m ∙ e)) ∙ sym (same m) ∙ or_left _ _ (same_name_self m) in
        let back = sym (ap (λ t. t || has_name ms n) e) ∙ same n ∙ or_left _ _ (same_name_self n) in
        absurd (never_before_itself m (name_cmp-total.trans m n m (first_before m ms h.0 n back) (first_before n ns k.0 m there)))
