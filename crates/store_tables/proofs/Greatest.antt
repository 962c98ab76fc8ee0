-- The greatest number of a top action.
use Rattle.std.proofs.Common.{◌≡◌, ◌⊎◌, inl, inr, ℕ, ◌<◌, ◌≤◌, List, [], ◌∷◌, length, false, true, Option, None, Some, option_map, IsSome}
use Rattle.std.proofs.Common.{arith, max, refl, sym, ap, subst, ◌∙◌, nat_cmp, true≢false}
use Rattle.std.specs.Ordering.{is_lt}
use Rattle.std.proofs.lemmas.Bool.{cases_lt}
use Rattle.std.specs.Cmp.{nat_cmp_total}
use Rattle.std.specs.List.{list_any}
use Rattle.std.specs.Map.{lookup}
use Rattle.std.specs.BTreeMap.{is_at}
use Rattle.std.specs.FinSet as set
use Rattle.std.proofs.lemmas.Map.Keys.{ge_from_not_lt}
use Rattle.stable_store.specs.Held.{record_of}
use Rattle.stable_store.specs.declared.kept.Prepared.{Prepared}
use Rattle.store_tables.specs.Parts.{IsDecided}
use Rattle.store_tables.specs.First.{IsGreatest, IsPrepared}
use Rattle.store_tables.proofs.Read.{records, record_found}

-- of two kinds it is the greater one
pub greater_one : (P Q : ℕ → Type 0) (m n k : ℕ) → IsGreatest P m → IsGreatest Q n → m ≤ k → n ≤ k → (k ≡ m) ⊎ (k ≡ n)
    → IsGreatest (λ top. P top ⊎ Q top) k
greater_one P Q m n k one other low high is = record {
  above = λ top h. elim h [
    | inl p ↦ omega (arith, one.above top p, low)
    | inr q ↦ omega (arith, other.above top q, high)
  ];
  is = elim is [
    | inl first ↦ elim one.is [ inl none ↦ inl (omega (arith, first, none)) | inr p ↦ inr (inl (subst P (sym first) p)) ]
    | inr second ↦ elim other.is [ inl none ↦ inl (omega (arith, second, none)) | inr q ↦ inr (inr (subst Q (sym second) q)) ]
  ];
}

-- ---- of the records

there : (es : List (ℕ × Prepared)) (q : ℕ) → IsPrepared (records es) q → IsSome (lookup (is_at (nat_cmp q)) es)
there es q h = go (lookup (is_at (nat_cmp q)) es) (subst IsSome (record_found es q) h)
  where
    go : (o : Option Prepared) → IsSome (option_map record_of o) → IsSome o
    go None h = absurd (true≢false (sym h))
    go (Some x) h = refl

pub last_record : (es : List (ℕ × Prepared)) (top : ℕ) (it : Prepared)
    → ((q : ℕ) → IsSome (lookup (is_at (nat_cmp q)) es) → is_lt (nat_cmp top q) ≡ false) → lookup (is_at (nat_cmp top)) es ≡ Some it
    → IsGreatest (IsPrepared (records es)) top
last_record es top it above is = record {
  above = λ q h. ge_from_not_lt top q (above q (there es q h));
  is = inr (subst IsSome (sym (record_found es top ∙ ap (option_map record_of) is)) refl);
}

pub no_record : (es : List (ℕ × Prepared)) → (0 < length es → ⊥) → IsGreatest (IsPrepared (records es)) 0
no_record [] none = record { above = λ q h. absurd (true≢false (sym (there [] q h))); is = inl refl }
no_record (e ∷ es) none = absurd (none (omega arith))

-- ---- of the decided

listed : (ks : List ℕ) (q : ℕ) → IsDecided (set.from_list ks) q → list_any (is_at (nat_cmp q)) ks ≡ true
listed ks q h = sym (set.contains-from_list nat_cmp_total ks q) ∙ h

pub last_top : (ks : List ℕ) (top : ℕ) → ((q : ℕ) → list_any (is_at (nat_cmp q)) ks ≡ true → is_lt (nat_cmp top q) ≡ false)
    → list_any (is_at (nat_cmp top)) ks ≡ true → IsGreatest (IsDecided (set.from_list ks)) top
last_top ks top above is = record {
  above = λ q h. ge_from_not_lt top q (above q (listed ks q h));
  is = inr (set.contains-from_list nat_cmp_total ks top ∙ is);
}

pub no_top : (ks : List ℕ) → (0 < length ks → ⊥) → IsGreatest (IsDecided (set.from_list ks)) 0
no_top [] none = record { above = λ q h. absurd (true≢false (sym (listed [] q h))); is = inl refl }
no_top (k ∷ ks) none = absurd (none (omega arith))

-- ---- of two numbers

pub max_is : (m n k : ℕ) → k ≡ max m n → (k ≡ m) ⊎ (k ≡ n)
max_is m n k is = elim (cases_lt m n) [
  | inl less ↦ inr (omega (arith, is, less))
  | inr not ↦ inl (omega (arith, is, not))
]
