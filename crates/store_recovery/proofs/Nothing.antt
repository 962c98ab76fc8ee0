-- When nothing was ever kept in a store, by its maps, and in a list of stores, store by store.
use Rattle.std.proofs.Common.{◌≡◌, ℕ, zero, suc, ◌<◌, arith, List, [], ◌∷◌, Some, None, true, true≢false, ◌||◌, cond, drop, eq-eqb, length, get_or, refl, sym, ap, ◌∙◌}
use Rattle.std.specs.Ordering.{nat_cmp, eq_by_cmp}
use Rattle.std.specs.Cmp.{nat_cmp_total, unsigned_tied}
use Rattle.std.specs.FinMap as map
use Rattle.std.specs.FinSet as set
use Rattle.std.proofs.lemmas.List.{length-map}
use Rattle.stable_store.specs.Calls.{View}
use Rattle.stable_store.specs.Held.{held, record_of, records_of}
use Rattle.stable_store.specs.Stored.{empty}
use Rattle.stable_store.specs.declared.kept.Kept.{Kept}
use Rattle.store_recovery.specs.Beginning.{AreEmpty, HasNothing}
use Rattle.store_recovery.specs.Settling.{contents}

tied : (k : ℕ) → eq_by_cmp nat_cmp k k ≡ true
tied k = unsigned_tied k k ∙ eq-eqb k k refl

some_is_none : {X : Type 0} (v : X) → Some v ≡ None → ⊥
some_is_none v e = cc

-- no map of entries is empty
no_entries : {X : Type 0} (es : List (ℕ × X)) → map.from_entries {R = nat_cmp} es ≡ map.empty → length es ≡ 0
no_entries [] e = refl
no_entries (x ∷ es) e =
    let here = map.get-insert nat_cmp_total (map.from_entries es) x.0 x.1 x.0 in
    let there = ap (λ b. cond b (Some x.1) (map.get {R = nat_cmp} (map.from_entries es) x.0)) (tied x.0) in
    let gone = ap (λ m. map.get {R = nat_cmp} m x.0) e ∙ map.get-empty nat_cmp x.0 in
    absurd (some_is_none x.1 (sym there ∙ sym here ∙ gone))

no_keys : (ks : List ℕ) → set.from_list {R = nat_cmp} ks ≡ set.empty → length ks ≡ 0
no_keys [] e = refl
no_keys (k ∷ ks) e =
    let here = set.contains-insert nat_cmp_total (set.from_list ks) k k in
    let there = ap (λ b. b || set.contains {R = nat_cmp} (set.from_list ks) k) (tied k) in
    let gone = ap (λ s. set.contains {R = nat_cmp} s k) e ∙ set.contains-empty nat_cmp k in
    absurd (true≢false (sym there ∙ sym here ∙ gone))

no_items : {X : Type 0} (xs : List X) → length xs ≡ 0 → xs ≡ []
no_items [] e = refl
no_items (x ∷ xs) e = absurd (omega (arith, e))

pub nothing_held : (kept : Kept) → held kept ≡ empty → HasNothing kept
nothing_held kept e = record {
  base = no_entries kept.base.entries (ap (λ s. s.base) e);
  prepared = sym (length-map kept.prepared.entries (λ p. (p.0, record_of p.1))) ∙ no_entries (records_of kept.prepared.entries) (ap (λ s. s.prepared) e);
  decided = no_keys kept.decided.keys (ap (λ s. s.decided) e);
  count = ap (λ s. s.count) e;
  next_top = ap (λ s. s.next_top) e;
}

-- ---- store by store

module _ {S : Type 0} (seen : S → View) where
  -- by what they contain
  pub empty_alike : (stores others : List S) → contents seen others ≡ contents seen stores → AreEmpty seen stores → AreEmpty seen others
  empty_alike [] [] e all = tt
  empty_alike [] (o ∷ os) e all = absurd (let l = ap (λ cs. length cs) e in omega (arith, l))
  empty_alike (s ∷ ss) [] e all = tt
  empty_alike (s ∷ ss) (o ∷ os) e all = (ap (λ cs. get_or cs 0 empty) e ∙ all.0, empty_alike ss os (ap (λ cs. drop 1 cs) e) all.1)

  pub empty_at : (stores : List S) (i : ℕ) (d : S) → i < length stores → AreEmpty seen stores → (seen (get_or stores i d)).content ≡ empty
  empty_at [] i d within all = absurd (omega (arith, within))
  empty_at (s ∷ ss) zero d within all = all.0
  empty_at (s ∷ ss) (suc i) d within all = empty_at ss i d (omega (arith, within)) all.1
