-- What settling leaves of the stores.
use Rattle.std.specs.Prelude.{◌≡◌, ◌⊎◌, ℕ, ◌+◌, Bool, true, false, List, ◌∷◌, ◌++◌, map as each, Option, Some, Result, Ok, Err, OnOk, IfErr, ◌≢◌}
use Rattle.std.specs.List.{AllByRecursion, AllZip, list_all}
use Rattle.std.specs.FinMap as map
use Rattle.stable_store.specs.Calls.{HasCounted, IsTrusted, Makes, Rests, View}
use Rattle.stable_store.specs.Stored.{Record, Stored, after_bump}
use Rattle.stable_store.specs.declared.fault.StoreFault.{StoreFault}
use Rattle.stable_store.specs.declared.fault.StoreFault.TheVariants as call
use Rattle.store_recovery.specs.Settling.{bases_then, contents, settled_by}
use Rattle.store_recovery.specs.declared.refused.Refused.{Refused}
use Rattle.store_recovery.specs.declared.refused.Refused.TheVariants.{Memory, Stable, NotOurs}

-- the store has no record
abbrev pub HasNoRecord : Stored → Type 0
HasNoRecord s = s.prepared ≡ map.empty

-- this is the record of the store's least top action
abbrev pub HasFirst : Stored → ℕ × Record → Type 0
HasFirst s entry = (rest : List (ℕ × Record)) × (map.entries s.prepared ≡ entry ∷ rest)

module _ {S : Type 0} (seen : S → View) where
  -- each store holds a content
  abbrev pub all_hold : List S → Bool
  all_hold stores = list_all (λ s. (seen s).holds_content) stores

  -- One store made the call that settles the record of its least top action: the first store that has a record. The
  -- others are as they were.
  pub record SettlesFirst (may_fail : S → S → Type 0) (old new : List S)
      (result : Result (Unit {0}) StoreFault) : Type 0 where
    pub before : List S
    pub store : S
    pub made : S
    pub behind : List S
    pub entry : ℕ × Record
    pub were : old ≡ before ++ store ∷ behind
    pub are : new ≡ before ++ made ∷ behind
    pub none : AllByRecursion HasNoRecord (contents seen before)
    pub first : HasFirst (seen store).content entry
    pub makes : Makes (seen store) (seen made) (may_fail store made)
        (settled_by (contents seen old) entry (seen store).content) result

  -- What a call that settles leaves, by its answer. It settles one record where a store has one; else the stores are
  -- as they were, and so they are where one of them holds no content.
  abbrev pub SettlesOne : (S → S → Type 0) → List S → List S → Result Bool Refused → Type 0
  SettlesOne may_fail old new (Ok true) = SettlesFirst may_fail old new (Ok tt)
  SettlesOne may_fail old new (Ok false) = (new ≡ old)
      × AllByRecursion HasNoRecord (contents seen old)
  SettlesOne may_fail old new (Err Memory) = SettlesFirst may_fail old new (Err call.Memory)
  SettlesOne may_fail old new (Err Stable) = SettlesFirst may_fail old new (Err call.Failed)
  SettlesOne may_fail old new (Err NotOurs) = new ≡ old

  -- one of the stores has counted a failure
  abbrev pub OneHasCounted : List S → List S → Type 0
  OneHasCounted (old ∷ olds) (new ∷ news) = HasCounted (seen old).failures (seen new).failures
      ⊎ OneHasCounted olds news
  OneHasCounted _ _ = ⊥

  -- none of the stores has counted a failure
  abbrev pub NoneHasCounted : List S → List S → Type 0
  NoneHasCounted old new = AllZip (λ o n. (seen n).failures ≡ (seen o).failures) old new

  -- a store of which something is promised: it can be trusted now, and it was up and at rest before
  pub record IsPromised (old new : S) : Type 0 where
    pub trusted : IsTrusted (seen new)
    pub up : (seen old).is_up
    pub rested : Rests (seen old)

  -- A stop leaves each store a content, and once all records are settled the bases are those that the stores had
  -- promised before.
  pub record LeavesBases (old : List S) (left : List (Option Stored)) : Type 0 where
    pub stores : List Stored
    pub found : left ≡ each (λ s. Some s) stores
    pub bases : bases_then stores ≡ bases_then (contents seen old)

  -- so does each stop within the call, where of each store something is promised
  abbrev pub KeepsBases : List S → List S → Type 0
  KeepsBases old new = AllZip IsPromised old new → (left : List (Option Stored))
      → AllZip (λ s found. (seen s).may_leave found) new left → LeavesBases old left

  -- what settling leaves of one store as it is
  pub record KeepsItself (old new : S) : Type 0 where
    pub decided : (seen new).content.decided ≡ (seen old).content.decided
    pub count : (seen new).content.count ≡ (seen old).content.count
    pub next_top : (seen new).content.next_top ≡ (seen old).content.next_top
    pub holds : (seen new).holds_content ≡ (seen old).holds_content
    pub trusted : IsTrusted (seen new) → IsTrusted (seen old)
    pub rests : Rests (seen old) → Rests (seen new)

  -- what opening leaves of one store as it is: the count may have risen by one
  pub record OpensItself (old new : S) : Type 0 where
    pub decided : (seen new).content.decided ≡ (seen old).content.decided
    pub count : ((seen new).content.count ≡ (seen old).content.count)
        ⊎ ((seen new).content.count ≡ (seen old).content.count + 1)
    pub next_top : (seen new).content.next_top ≡ (seen old).content.next_top
    pub holds : (seen new).holds_content ≡ (seen old).holds_content
    pub trusted : IsTrusted (seen new) → IsTrusted (seen old)
    pub rests : Rests (seen old) → Rests (seen new)

  -- what a store contains is as it was, but one recovery more may be counted
  abbrev pub IsBumpedAtMost : S → S → Type 0
  IsBumpedAtMost old new = ((seen new).content ≡ (seen old).content)
      ⊎ ((seen new).content ≡ after_bump (seen old).content)

  -- a store none of whose calls was refused
  pub record GoesOn (old new : S) : Type 0 where
    pub failures : (seen new).failures ≡ (seen old).failures
    pub trusted : IsTrusted (seen new) → IsTrusted (seen old)
    pub up : IsTrusted (seen new) → (seen old).is_up → (seen new).is_up
    pub rests : Rests (seen old) → Rests (seen new)

  -- What calls of the stores leave, the last of which may be refused: what each store keeps, that those that were not
  -- refused go on, what a stop leaves, and that a refusal is counted exactly if it is another than out of memory.
  pub record Called {T : Type 0} (Keeps : S → S → Type 0) (old new : List S)
      (result : Result T Refused) : Type 0 where
    pub kept : AllZip Keeps old new
    pub goes : OnOk result (AllZip GoesOn old new)
    pub stops : KeepsBases old new
    pub counted : IfErr result (λ why. why ≢ Memory → OneHasCounted old new)
    pub memory : IfErr result (λ why. why ≡ Memory → NoneHasCounted old new)
