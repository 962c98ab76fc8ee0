-- Stores in which nothing was ever kept.
use Rattle.std.specs.Prelude.{◌≡◌, true, List, length}
use Rattle.std.specs.List.{AllByRecursion}
use Rattle.stable_store.specs.Calls.{Rests, View}
use Rattle.stable_store.specs.Stored.{empty}
use Rattle.stable_store.specs.declared.kept.Kept.{Kept}
use Rattle.store_recovery.specs.Steps.{all_hold}

-- the maps have nothing, and the numbers are those of a new store
pub record HasNothing (kept : Kept) : Type 0 where
  pub base : length kept.base.entries ≡ 0
  pub prepared : length kept.prepared.entries ≡ 0
  pub decided : length kept.decided.keys ≡ 0
  pub count : kept.count ≡ 0
  pub next_top : kept.next_top ≡ 1

module _ {S : Type 0} (seen : S → View) where
  -- each contains what a new store does
  abbrev pub AreEmpty : List S → Type 0
  AreEmpty stores = AllByRecursion (λ s. (seen s).content ≡ empty) stores

  -- The stores are new: each holds a content, which is that of a new store, and a stop now leaves it.
  pub record AreNew (stores : List S) : Type 0 where
    pub hold : all_hold seen stores ≡ true
    pub nothing : AreEmpty stores
    pub rest : AllByRecursion (λ s. Rests (seen s)) stores
