-- Sets of marked guardians.
use Rattle.std.proofs.Common.{◌≡◌, ◌<◌, ◌≤◌, ◌+◌, ◌-◌, ◌==◌, ◌&&◌, ◌∙◌, ◌∷◌, [], ℕ, Bool, true, false, List, cond, not, length, nat_cmp, refl, ap, subst, arith, true≢false}
use Rattle.std.specs.List.{list_any}
use Rattle.std.specs.BTreeMap.{is_at}
use Rattle.std.specs.BTreeSet.{BTreeSet, IsUpperBound, contains}
use Rattle.std.specs.Cmp.{nat_cmp_is}
use Rattle.std.specs.Ordering.{is_lt}
use Rattle.std.specs.declared.cmp.Ordering.TheVariants.{Less}
use Rattle.std.proofs.lemmas.Cmp.{eq_by_cmp_equiv, nat_cmp_total}
use Rattle.core.specs.Cmp.{unsigned_tied}

always : (b : Bool) → cond b true true ≡ true
always true = refl
always false = refl

without : (b c : Bool) → cond b false c ≡ (c && not b)
without true true = refl
without true false = refl
without false true = refl
without false false = refl

module _ (old new : BTreeSet ℕ) (n : ℕ) where
  -- one was marked
  module _ (put : (q : ℕ) → contains nat_cmp new q ≡ cond (is_at (nat_cmp n) q) true (contains nat_cmp old q)) where
    pub stays_marked : (q : ℕ) → contains nat_cmp old q ≡ true → contains nat_cmp new q ≡ true
    stays_marked q e = put q ∙ ap (cond (is_at (nat_cmp n) q) true) e ∙ always (is_at (nat_cmp n) q)

    pub now_marked : contains nat_cmp new n ≡ true
    now_marked = put n ∙ ap (λ b. cond b true (contains nat_cmp old n)) ((eq_by_cmp_equiv nat_cmp_total).refl n)

  -- one is marked no more
  pub unmarked : ((q : ℕ) → contains nat_cmp new q ≡ cond (is_at (nat_cmp n) q) false (contains nat_cmp old q))
      → (q : ℕ) → contains nat_cmp new q ≡ (contains nat_cmp old q && not (q == n))
  unmarked taken q =
      taken q ∙ ap (λ b. cond b false (contains nat_cmp old q)) ((eq_by_cmp_equiv nat_cmp_total).symm n q ∙ unsigned_tied q n)
      ∙ without (q == n) (contains nat_cmp old q)

-- none after the greatest is marked
pub none_above : (marked : BTreeSet ℕ) (g : ℕ) → IsUpperBound nat_cmp marked g → (h : ℕ) → g < h → contains nat_cmp marked h ≡ false
none_above marked g bound h above = of (contains nat_cmp marked h) refl
  where
    of : (b : Bool) → contains nat_cmp marked h ≡ b → contains nat_cmp marked h ≡ false
    of false e = e
    of true e = absurd (true≢false (ap is_lt (nat_cmp_is g h Less above) ∙ bound h e))

none_in : (keys : List ℕ) → (0 < length keys → ⊥) → (q : ℕ) → list_any (is_at (nat_cmp q)) keys ≡ false
none_in [] none q = refl
none_in (k ∷ keys) none q = absurd (none (omega arith))

-- nobody is marked
pub none_marked : (marked : BTreeSet ℕ) → (0 < length marked.keys → ⊥) → (q : ℕ) → contains nat_cmp marked q ≡ false
none_marked marked none q = none_in marked.keys none q

-- each of so many is marked
pub all_marked : (marked : BTreeSet ℕ) (count : ℕ) → ((k : ℕ) → k < count → contains nat_cmp marked (k + 1) ≡ true)
    → (g : ℕ) → 1 ≤ g → g ≤ count → contains nat_cmp marked g ≡ true
all_marked marked count each g low high =
    let same : (g - 1) + 1 ≡ g = omega arith in
    subst (λ n. contains nat_cmp marked n ≡ true) same (each (g - 1) (omega arith))
