-- What is read of stores that hold a content.
use Rattle.std.proofs.Common.{◌≡◌, ◌≢◌, ℕ, zero, suc, ◌-◌, ◌<◌, Bool, true, false, List, ◌∷◌, ◌++◌, length, get_or, take, drop, Some, None, slice_get, option_map, if◌then◌else◌, nat_cmp, refl, sym, ap, ◌∙◌, true≢false, arith, length-take-le}
use Rattle.std.specs.List.{AllByRecursion}
use Rattle.std.specs.List.Sorted.{IsStrictlySortedBy}
use Rattle.std.specs.Map.{keys_of}
use Rattle.std.specs.FinMap as map
use Rattle.std.specs.FinSet as set
use Rattle.std.proofs.lemmas.Option.{same_Some, slice_get-map}
use Rattle.stable_store.specs.Calls.{View, found}
use Rattle.stable_store.specs.Held.{record_of, records_of}
use Rattle.stable_store.specs.Stored.{Record, Stored}
use Rattle.stable_store.specs.declared.kept.Prepared.{Prepared}
use Rattle.store_recovery.specs.Settling.{contents, has_decided, is_decided}
use Rattle.store_recovery.specs.Steps.{HasNoRecord}
use Rattle.store_recovery.specs.Finding.{IsFirstLeft, IsLeast}
use Rattle.store_recovery.proofs.Entries.{records_are}
use Rattle.store_recovery.proofs.Places.{about}

read : (b : Bool) (c k : Stored) → b ≡ true → (if b then Some c else None) ≡ Some k → c ≡ k
read true c k b is = same_Some c k is
read false c k b is = absurd (true≢false (sym b))

-- a store that holds a content has what was found
pub held_is : (s : View) (k : Stored) → s.holds_content ≡ true → found s ≡ Some k → s.content ≡ k
held_is s k holds is = read s.holds_content s.content k holds is

-- the first record that is kept is that of the least top action
pub least_is : (prepared : map.FinMap nat_cmp Record) (es rest : List (ℕ × Prepared)) (e : ℕ × Prepared)
    → prepared ≡ map.from_entries {R = nat_cmp} (records_of es) → IsStrictlySortedBy nat_cmp (keys_of es) → es ≡ e ∷ rest
    → map.entries prepared ≡ (e.0, record_of e.1) ∷ records_of rest
least_is prepared es rest e is rise begins = ap map.entries is ∙ records_are es rise ∙ ap records_of begins

less_one : (n : ℕ) → suc n - 1 ≡ n
less_one n = omega arith

module _ {S : Type 0} (seen : S → View) (stores : List S) where
  pub decided_at : (home top : ℕ) (s : S) → home ≢ 0 → slice_get stores (home - 1) ≡ Some s
      → is_decided (contents seen stores) home top ≡ set.contains (seen s).content.decided top
  decided_at zero top s not_zero at = absurd (not_zero refl)
  decided_at (suc n) top s not_zero at =
      ap (λ o. has_decided o top) (slice_get-map (λ t. (seen t).content) stores n)
      ∙ ap (λ o. has_decided (option_map (λ t. (seen t).content) o) top) (ap (λ m. slice_get stores m) (sym (less_one n)) ∙ at)

  pub decided_nowhere : (home top : ℕ) → slice_get stores (home - 1) ≡ None → is_decided (contents seen stores) home top ≡ false
  decided_nowhere zero top at = refl
  decided_nowhere (suc n) top at =
      ap (λ o. has_decided o top) (slice_get-map (λ t. (seen t).content) stores n)
      ∙ ap (λ o. has_decided (option_map (λ t. (seen t).content) o) top) (ap (λ m. slice_get stores m) (sym (less_one n)) ∙ at)

  -- the first store with a record was come to
  pub left_at : (i top home : ℕ) (s : S) → i < length stores → s ≡ get_or stores i s → AllByRecursion HasNoRecord (contents seen (take i stores))
      → IsLeast (seen s).content top home → IsFirstLeft seen stores i top home
  left_at i top home s within is none least = record {
    before = take i stores;
    store = s;
    behind = drop (suc i) stores;
    are = about stores i s within ∙ ap (λ y. take i stores ++ y ∷ drop (suc i) stores) (sym is);
    at = length-take-le i stores (omega arith);
    none = none;
    least = least;
  }
