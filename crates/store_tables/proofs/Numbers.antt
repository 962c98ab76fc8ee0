-- Maps by number, after one change.
use Rattle.std.proofs.Common.{◌≡◌, ◌≢◌, ◌⊎◌, inl, inr, ℕ, true, false, cond, Some, None, sym, ap, ◌∙◌, nat_cmp, true≢false, is_some}
use Rattle.std.specs.Ordering.{eq_by_cmp}
use Rattle.std.specs.Cmp.{nat_cmp_total}
use Rattle.std.proofs.lemmas.Bool.{cases_Bool}
use Rattle.std.proofs.lemmas.Cmp.{eq_by_cmp_equiv}
use Rattle.std.proofs.lemmas.Map.Lookups.{exact_unsigned}
use Rattle.std.specs.FinMap as map
use Rattle.store_tables.proofs.Keys.{equal_is}

pub itself : (k : ℕ) → eq_by_cmp nat_cmp k k ≡ true
itself k = (eq_by_cmp_equiv nat_cmp_total).refl k

pub tied : (q k : ℕ) → eq_by_cmp nat_cmp q k ≡ true → q ≡ k
tied q k h = exact_unsigned q k (equal_is _ h)

pub untied : (q k : ℕ) → eq_by_cmp nat_cmp q k ≡ false → q ≢ k
untied q k h same = true≢false (sym (itself k) ∙ (ap (λ x. eq_by_cmp nat_cmp x k) (sym same) ∙ h))

pub apart : (q k : ℕ) → q ≢ k → eq_by_cmp nat_cmp q k ≡ false
apart q k h = elim (cases_Bool (eq_by_cmp nat_cmp q k)) [ inl same ↦ absurd (h (tied q k same)) | inr other ↦ other ]

pub same_or_not : (q k : ℕ) → (q ≡ k) ⊎ (q ≢ k)
same_or_not q k = elim (cases_Bool (eq_by_cmp nat_cmp q k)) [ inl same ↦ inl (tied q k same) | inr other ↦ inr (untied q k other) ]

pub not_some : {X : Type 0} (x : X) → None ≡ Some x → ⊥
not_some x e = true≢false (sym (ap is_some e))

pub same_some : {X : Type 0} (x y : X) → Some x ≡ Some y → x ≡ y
same_some x y e = cc

module _ {V : Type 0} (m : map.FinMap nat_cmp V) (k : ℕ) (v : V) where
  pub put_here : map.get (map.insert m k v) k ≡ Some v
  put_here = map.get-insert nat_cmp_total m k v k ∙ ap (λ b. cond b (Some v) (map.get m k)) (itself k)

  pub put_other : (q : ℕ) → q ≢ k → map.get (map.insert m k v) q ≡ map.get m q
  put_other q other = map.get-insert nat_cmp_total m k v q ∙ ap (λ b. cond b (Some v) (map.get m q)) (apart q k other)

  -- what is there was put, or was there before
  pub put_cases : (q : ℕ) (w : V) → map.get (map.insert m k v) q ≡ Some w → ((q ≡ k) × (w ≡ v)) ⊎ ((q ≢ k) × (map.get m q ≡ Some w))
  put_cases q w h = elim (same_or_not q k) [
    | inl same ↦ inl (same, same_some w v (sym h ∙ (ap (map.get (map.insert m k v)) same ∙ put_here)))
    | inr other ↦ inr (other, sym (put_other q other) ∙ h)
  ]

module _ {V : Type 0} (m : map.FinMap nat_cmp V) (k : ℕ) where
  pub taken_here : map.get (map.remove m k) k ≡ None
  taken_here = map.get-remove nat_cmp_total m k k ∙ ap (λ b. cond b None (map.get m k)) (itself k)

  pub taken_other : (q : ℕ) → q ≢ k → map.get (map.remove m k) q ≡ map.get m q
  taken_other q other = map.get-remove nat_cmp_total m k q ∙ ap (λ b. cond b None (map.get m q)) (apart q k other)
