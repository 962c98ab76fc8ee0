-- What lists say of a store's content.
use Rattle.std.specs.Prelude.{◌≡◌, ℕ, [], ◌∷◌}
use Rattle.std.specs.FinMap as map
use Rattle.std.specs.FinSet as set
use Rattle.run_model.specs.Openings.{StoreLists, held_of}
use Rattle.stable_store.specs.Stored.{Stored}
use Rattle.stable_store.specs.declared.kept.Kept.{Kept}

-- what is kept, in lists
abbrev pub lists_of : Kept → StoreLists
lists_of kept =
    record { base = kept.base.entries; decided = kept.decided.keys; count = kept.count; next_top = kept.next_top }

-- they say what the store contains beside its records
pub record Says (s : Stored) (lists : StoreLists) : Type 0 where
  pub base : (n : ℕ) → map.get s.base n ≡ (held_of lists).base n
  pub decided : (n : ℕ) → set.contains s.decided n ≡ (held_of lists).decided (n ∷ [])
  pub count : s.count ≡ (held_of lists).count
  pub next_top : s.next_top ≡ (held_of lists).next_top
