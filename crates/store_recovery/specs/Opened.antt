-- What the stores of a system hold once it was opened, and what the opening says of them.
use Rattle.std.specs.Prelude.{◌≡◌, ◌⊎◌, ℕ, ◌+◌, max, true, false, List, [], ◌∷◌, fold, map as each, Some}
use Rattle.std.specs.List.{AllByRecursion, AllZip}
use Rattle.std.specs.FinMap as map
use Rattle.std.specs.FinSet as set
use Rattle.run_model.specs.Openings.{Opening, Setup}
use Rattle.stable_store.specs.Calls.{Rests, View}
use Rattle.stable_store.specs.Stored.{Stored, after_bump}
use Rattle.store_recovery.specs.Belonging.{all_belong}
use Rattle.store_recovery.specs.Settling.{IsSettledInPart, bases_then, contents, settled, store_of}
use Rattle.store_recovery.specs.Steps.{GoesOn, HasNoRecord, KeepsBases, NoneHasCounted, OneHasCounted, OpensItself, all_hold}
use Rattle.store_recovery.specs.declared.refused.Refused.{Refused}
use Rattle.store_recovery.specs.declared.refused.Refused.TheVariants.{Memory, Stable, NotOurs}

-- The store holds what the opening says that it held, and nothing is prepared there.
pub record IsOpenedFrom (opening : Opening) (g : ℕ) (s : Stored) : Type 0 where
  pub base : (n : ℕ) → map.get s.base n ≡ (opening.stores g).base n
  pub prepared : s.prepared ≡ map.empty
  pub decided : (n : ℕ) → set.contains s.decided n ≡ (opening.stores g).decided (n ∷ [])
  pub count : s.count ≡ (opening.stores g).count
  pub next_top : s.next_top ≡ (opening.stores g).next_top

-- the stores once they are opened: settled, and one recovery more counted at each
abbrev pub opened : List Stored → List Stored
opened stores = each after_bump (settled stores)

-- a number above those of all top actions that the stores ever prepared: the greatest that one of them gives, and 1
-- at least
abbrev pub first_number : List Stored → ℕ
first_number stores = fold (λ n s. max n s.next_top) 1 stores

-- The opening is that of this setup over these stores.
pub record IsOpeningOf (setup : Setup) (stores : List Stored) (opening : Opening) : Type 0 where
  pub guardians : opening.setup ≡ setup
  pub says : (g : ℕ) (s : Stored) → store_of stores g ≡ Some s → IsOpenedFrom opening g s
  pub first_top : opening.first_top ≡ first_number stores

module _ {S : Type 0} (seen : S → View) where
  -- one recovery more was counted
  abbrev pub CountsOneMore : S → S → Type 0
  CountsOneMore old new = (seen new).content.count ≡ (seen old).content.count + 1

  -- no recovery more
  abbrev pub CountsNone : S → S → Type 0
  CountsNone old new = (seen new).content.count ≡ (seen old).content.count

  -- The stores of the setup's guardians were opened, and none of their calls was refused. Each holds a content, in
  -- which nothing is prepared, and rests.
  pub record AreOpened (setup : Setup) (old new : List S) : Type 0 where
    pub held : all_hold seen old ≡ true
    pub belonged : all_belong setup (contents seen old) ≡ true
    pub now : contents seen new ≡ opened (contents seen old)
    pub none : AllByRecursion HasNoRecord (contents seen new)
    pub installed : each (λ s. s.base) (contents seen new) ≡ bases_then (contents seen old)
    pub counts : AllZip CountsOneMore old new
    pub hold : all_hold seen new ≡ true
    pub rest : AllByRecursion (λ s. Rests (seen s)) new
    pub bases : bases_then (contents seen new) ≡ bases_then (contents seen old)
    pub kept : AllZip (OpensItself seen) old new
    pub goes : AllZip (GoesOn seen) old new
    pub stops : KeepsBases seen old new

  -- The stores were not opened. They are those of others (`NotOurs`) where one holds no content, or what one contains
  -- does not belong there, or what its device returned is none, which is counted; then each contains what it did. A
  -- recovery was counted at one of them only once none had a record. Each holds what it held, with some of its
  -- records settled. None counted a failure if memory ran out (`Memory`).
  pub record AreRefused (setup : Setup) (old new : List S) (why : Refused) : Type 0 where
    pub bases : bases_then (contents seen new) ≡ bases_then (contents seen old)
    pub in_part :
        AllZip (IsSettledInPart (contents seen old)) (contents seen old) (contents seen new)
    pub kept : AllZip (OpensItself seen) old new
    pub stops : KeepsBases seen old new
    pub counted : why ≡ Stable → OneHasCounted seen old new
    pub memory : why ≡ Memory → NoneHasCounted seen old new
    pub settled_first : AllByRecursion HasNoRecord (contents seen new) ⊎ AllZip CountsNone old new
    pub empty : all_hold seen old ≡ false → (why ≡ NotOurs) × (new ≡ old)
    pub strange : all_belong setup (contents seen old) ≡ false
        → contents seen new ≡ contents seen old
    pub others : why ≡ NotOurs → (contents seen new ≡ contents seen old)
        × ((all_hold seen old ≡ false)
        ⊎ ((all_belong setup (contents seen old) ≡ false) ⊎ OneHasCounted seen old new))
