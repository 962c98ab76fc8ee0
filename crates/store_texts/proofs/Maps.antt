-- Numbers that rise.
use Rattle.std.proofs.Common.{◌≡◌, ◌<◌, ◌+◌, ◌++◌, ◌∷◌, [], ℕ, zero, suc, Bool, true, false, IsTrue, List, length, map, get_or, take, drop, ap, refl, sym, subst, ◌∙◌, arith, true≢false}
use Rattle.std.specs.Prelude.{nat_lt}
use Rattle.std.specs.List.{AllByRecursion, IsAllAdjacentAnswer}
use Rattle.std.specs.Ordering.{nat_cmp, match_ordering, ordering_reverse}
use Rattle.std.specs.declared.cmp.Ordering.TheVariants.{Less, Greater}
use Rattle.std.specs.Cmp.{nat_cmp_total}
use Rattle.std.specs.List.Sorted.{IsStrictlySortedBy}
use Rattle.std.specs.Map.{keys_of}
use Rattle.std.specs.BTreeSet.{insert_key}
use Rattle.std.proofs.lemmas.Bool.{lt-ltb, ltb-true}
use Rattle.std.proofs.lemmas.List.{get_or-map, length-map, take_more}
use Rattle.std.proofs.lemmas.Map.Keys.{below_from_sorted, sorted_from_strictly_increasing, sorted_head, sorted_tail}
use Rattle.std.proofs.Math.Seq.{drop-cons}
use Rattle.stable_store.specs.Held.{records_of}
use Rattle.stable_store.specs.declared.kept.Prepared.{Prepared}
use Rattle.store_texts.specs.Texts.{AreRising}

record_keys : (es : List (ℕ × Prepared)) → keys_of (records_of es) ≡ keys_of es
record_keys [] = refl
record_keys (e ∷ es) = ap (λ ks. e.0 ∷ ks) (record_keys es)

-- the numbers of records rise as those of the map that keeps them
pub records_rise : (es : List (ℕ × Prepared)) → IsStrictlySortedBy nat_cmp (keys_of es) → AreRising (records_of es)
records_rise es sorted = subst (IsStrictlySortedBy nat_cmp) (sym (record_keys es)) sorted

pub kept_rise : (es : List (ℕ × Prepared)) → AreRising (records_of es) → AreRising es
kept_rise es rising = subst (IsStrictlySortedBy nat_cmp) (record_keys es) rising

-- ---- neighbours

-- what a look at each two neighbours says of all numbers
rising_from_pairs : {X : Type 0} (xs : List X) (number : X → ℕ) (some : X) (r : Bool) → IsAllAdjacentAnswer (λ a b t. t ≡ nat_lt (number a) (number b)) xs r
    → (IsTrue r → IsStrictlySortedBy nat_cmp (map number xs)) × (IsStrictlySortedBy nat_cmp (map number xs) → IsTrue r)
rising_from_pairs xs number some true h = (
  λ e. sorted_from_strictly_increasing (map number xs) (λ k more.
      let within : k + 1 < length xs = omega (arith, length-map xs number) in
      rw (get_or-map number xs k some 0 (omega arith), get_or-map number xs (k + 1) some 0 within)
      (ltb-true _ _ (sym (h k some within)))),
  λ rising. refl,
)
rising_from_pairs xs number some false h = (
  λ e. absurd (true≢false (sym e)),
  λ rising.
      let less = below_from_sorted (map number xs) h.0 (h.0 + 1) 0 rising (omega arith) (omega (arith, h.1, length-map xs number)) in
      let here = rw (get_or-map number xs h.0 some 0 (omega (arith, h.1)), get_or-map number xs (h.0 + 1) some 0 h.1) at less in
      h.2 some ∙ lt-ltb _ _ here,
)

pub rising_from_adjacent : {X : Type 0} (xs : List X) (number : X → ℕ) (r : Bool) → IsAllAdjacentAnswer (λ a b t. t ≡ nat_lt (number a) (number b)) xs r
    → (IsTrue r → IsStrictlySortedBy nat_cmp (map number xs)) × (IsStrictlySortedBy nat_cmp (map number xs) → IsTrue r)
rising_from_adjacent [] number true h = (λ e. sorted_from_strictly_increasing [] (λ k more. absurd (omega arith)), λ rising. refl)
rising_from_adjacent [] number false h = absurd (omega (arith, h.1))
rising_from_adjacent (x ∷ xs) number r h = rising_from_pairs (x ∷ xs) number x r h

-- ---- one number more

at_midst : (P : ℕ → Type 0) (xs : List ℕ) (x : ℕ) (ys : List ℕ) → AllByRecursion P (xs ++ x ∷ ys) → P x
at_midst P [] x ys h = h.0
at_midst P (y ∷ xs) x ys h = at_midst P xs x ys h.1

-- a number above the others is put last
put_last : (ks : List ℕ) (k : ℕ) (later : List ℕ) → IsStrictlySortedBy nat_cmp (ks ++ k ∷ later) → insert_key nat_cmp ks k ≡ ks ++ k ∷ []
put_last [] k later sorted = refl
put_last (j ∷ ks) k later sorted =
    let below : nat_cmp j k ≡ Less = at_midst (λ y. nat_cmp j y ≡ Less) ks k later (sorted_head nat_cmp j _ sorted) in
    let above : nat_cmp k j ≡ Greater = nat_cmp_total.antisymm k j ∙ ap ordering_reverse below in
    ap (λ o. match_ordering o (k ∷ j ∷ ks) (j ∷ ks) (j ∷ insert_key nat_cmp ks k)) above
    ∙ ap (λ js. j ∷ js) (put_last ks k later (sorted_tail nat_cmp j _ sorted))

-- one of the numbers more is in the set
pub one_more_number : (all before after : List ℕ) (i k : ℕ) → IsStrictlySortedBy nat_cmp all → before ≡ take i all → i < length all → k ≡ get_or all i k
    → after ≡ insert_key nat_cmp before k → after ≡ take (i + 1) all
one_more_number all before after i k sorted so_far lt is put =
    let parts : take i all ++ k ∷ drop (suc i) all ≡ all =
    ap (λ x. take i all ++ x ∷ drop (suc i) all) is ∙ ap (λ ds. take i all ++ ds) (sym (drop-cons all i k lt)) ∙ take_drop i all in
    put ∙ ap (λ js. insert_key nat_cmp js k) so_far
    ∙ put_last (take i all) k (drop (suc i) all) (subst (IsStrictlySortedBy nat_cmp) (sym parts) sorted)
    ∙ ap (λ x. take i all ++ x ∷ []) is ∙ sym (take_more all i k lt)
  where
    take_drop : (n : ℕ) (xs : List ℕ) → take n xs ++ drop n xs ≡ xs
    take_drop zero xs = refl
    take_drop (suc n) [] = refl
    take_drop (suc n) (x ∷ xs) = ap (λ ys. x ∷ ys) (take_drop n xs)
