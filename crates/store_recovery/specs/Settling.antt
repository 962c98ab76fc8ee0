-- How the records of a system's stores are settled.
use Rattle.std.specs.Prelude.{◌≡◌, ◌++◌, ℕ, zero, suc, Bool, false, List, fold, map as each, Option, Some, None, slice_get, if◌then◌else◌}
use Rattle.std.specs.Ordering.{nat_cmp}
use Rattle.std.specs.FinMap as map
use Rattle.std.specs.FinSet as set
use Rattle.atomic_types.specs.declared.part.Part.{Part}
use Rattle.stable_store.specs.Calls.{View}
use Rattle.stable_store.specs.Stored.{Record, Stored, after_discard, after_install}

-- what the stores contain
abbrev pub contents : {S : Type 0} → (S → View) → List S → List Stored
contents seen stores = each (λ s. (seen s).content) stores

-- the store of a guardian, by its number, which is from 1
abbrev pub store_of : List Stored → ℕ → Option Stored
store_of stores zero = None
store_of stores (suc n) = slice_get stores n

-- the store has the top action among the decided ones; a store that is not there has none
abbrev pub has_decided : Option Stored → ℕ → Bool
has_decided None top = false
has_decided (Some s) top = set.contains s.decided top

-- the store of this home says that the top action was decided
abbrev pub is_decided : List Stored → ℕ → ℕ → Bool
is_decided stores home top = has_decided (store_of stores home) top

-- a store once a top action's record is settled: it is installed where its home has decided, and else discarded
abbrev pub settled_by : List Stored → ℕ × Record → Stored → Stored
settled_by stores entry s = if is_decided stores entry.1.home entry.0 then after_install entry.0 s
    else after_discard entry.0 s

-- a store once all its records are settled, from the least top action on
abbrev pub settled_store : List Stored → Stored → Stored
settled_store stores s = fold (λ t entry. settled_by stores entry t) s (map.entries s.prepared)

-- t holds what s holds once the first of its records are settled, from the least top action on. Counts may differ.
pub record IsSettledInPart (stores : List Stored) (s t : Stored) : Type 0 where
  pub records : List (ℕ × Record)
  pub left : List (ℕ × Record)
  pub are : map.entries s.prepared ≡ records ++ left
  pub base : t.base ≡ (fold (λ u r. settled_by stores r u) s records).base
  pub prepared : t.prepared ≡ (fold (λ u r. settled_by stores r u) s records).prepared

-- the stores once all records are settled
abbrev pub settled : List Stored → List Stored
settled stores = each (λ s. settled_store stores s) stores

-- what is installed in each store then: this is what is promised over stops and faults
abbrev pub bases_then : List Stored → List (map.FinMap nat_cmp Part)
bases_then stores = each (λ s. s.base) (settled stores)
