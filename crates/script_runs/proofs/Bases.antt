-- The bases that a world has.
use Rattle.std.proofs.Common.{List, [], ap, arith, length, nat_cmp, refl, suc, sym, zero, ℕ, ◌+◌, ◌++◌, ◌<◌, ◌∙◌, ◌∷◌, ◌≡◌, Less}
use Rattle.std.proofs.lemmas.Cmp.{by_ranked, ranked}
use Rattle.std.proofs.lemmas.List.{length_push}
use Rattle.std.specs.BTreeMap.{insert_entry}
use Rattle.std.specs.Cmp.{nat_cmp_total}
use Rattle.std.specs.List.{AllByRecursion}
use Rattle.std.specs.Ordering.{match_ordering, ordering_reverse}
use Rattle.values.specs.declared.content.Content.{Content}
use Rattle.run_model.specs.Openings.{opening_in}
use Rattle.run_model.specs.Runs.{World}
use Rattle.run_model.specs.Versions.{base_of}
use Rattle.script_runs.specs.SerialRuns.{bases_of_first, first_bases}

-- as many as guardians
pub count_of_first : (w : World) (n : ℕ) → length (bases_of_first w n) ≡ n
count_of_first w zero = refl
count_of_first w (suc n) =
    let next : n + 1 ≡ suc n = omega arith in length_push (bases_of_first w n) _ ∙ ap (λ m. m + 1) (count_of_first w n) ∙ next

-- an entry whose key is above the others is put last
put_last : (es : List (ℕ × Content)) (k : ℕ) (v : Content) → AllByRecursion (λ e. nat_cmp e.0 k ≡ Less) es
    → insert_entry nat_cmp es k v ≡ es ++ (k, v) ∷ []
put_last [] k v below = refl
put_last (e ∷ es) k v below =
    ap (λ o. match_ordering o ((k, v) ∷ e ∷ es) ((e.0, v) ∷ es) (e ∷ insert_entry nat_cmp es k v))
    (nat_cmp_total.antisymm k e.0 ∙ ap ordering_reverse below.0)
    ∙ ap (λ fs. e ∷ fs) (put_last es k v below.1)

all_push : {X : Type 0} (P : X → Type 0) (xs : List X) (x : X) → AllByRecursion P xs → P x → AllByRecursion P (xs ++ x ∷ [])
all_push P [] x all one = (one, tt)
all_push P (y ∷ xs) x all one = (all.0, all_push P xs x all.1 one)

less : (n k : ℕ) → n < k → nat_cmp n k ≡ Less
less n k lt =
    by_ranked (n < k) (n ≡ k) (k < n) (nat_cmp n k) (ranked n k (nat_cmp n k) refl) (λ e below. e) (λ e same. absurd (not_same same))
    (λ e above. absurd (not_above above))
  where
    not_same : n ≡ k → ⊥
    not_same same = omega (arith, lt, same)

    not_above : k < n → ⊥
    not_above above = omega (arith, lt, above)

first_below : (w : World) (g n k : ℕ) → n < k → AllByRecursion (λ (e : ℕ × Content). nat_cmp e.0 k ≡ Less) (first_bases w g n)
first_below w g zero k lt = tt
first_below w g (suc n) k lt =
    all_push (λ (e : ℕ × Content). nat_cmp e.0 k ≡ Less) (first_bases w g n) _ (first_below w g n k (omega (arith, lt))) (less (suc n) k lt)

-- the base of one object more
pub one_more_base : (w : World) (g n : ℕ) (before after : List (ℕ × Content)) (base : Content) → before ≡ first_bases w g n
    → after ≡ insert_entry nat_cmp before (n + 1) base → base ≡ base_of (opening_in w.lists) (record { guardian = g; number = n + 1 }) w.past
    → after ≡ first_bases w g (n + 1)
one_more_base w g n before after base so_far put is =
    let next : n + 1 ≡ suc n = omega arith in
    put ∙ (λ k. insert_entry nat_cmp (so_far k) (n + 1) (is k))
    ∙ ap (λ m. insert_entry nat_cmp (first_bases w g n) m (base_of (opening_in w.lists) (record { guardian = g; number = m }) w.past)) next
    ∙ put_last (first_bases w g n) (suc n) _ (first_below w g n (suc n) (omega arith))
    ∙ ap (first_bases w g) (sym next)
