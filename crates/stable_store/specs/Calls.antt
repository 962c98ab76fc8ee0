-- What is said of a call of a store: what it changed and counted, and what a stop may leave.
use Rattle.std.specs.Prelude.{◌≡◌, ◌⊎◌, ℕ, Bool, false, ◌+◌, min, if◌then◌else◌, Option, Some, None, Result, Ok, Err, OnOk, IsTrue}
use Rattle.stable_store.specs.Stored.{Stored}
use Rattle.stable_store.specs.declared.fault.StoreFault.{StoreFault}
use Rattle.stable_store.specs.declared.fault.StoreFault.TheVariants.{Memory, Failed, NotOurs}

-- what contracts see of a store
pub record View : Type 1 where
  -- what it contains, however that is kept
  pub content : Stored
  -- a content was found on the device when the store was opened; a store without one refuses each call
  pub holds_content : Bool
  -- how many calls were refused for another cause than out of memory
  pub failures : ℕ
  -- the device is laid out in the one way of which something is said
  pub is_known : Bool
  -- so far the device has returned what was written to it
  pub is_honest : Type 0
  -- no failure has shut it
  pub is_up : Type 0
  -- what an opening after a stop at this moment may find: a content, or none
  pub may_leave : Option Stored → Type 0

-- the content, if one was found when the store was opened
abbrev pub found : View → Option Stored
found s = if s.holds_content then Some s.content else None

-- what is promised over a stop is promised of a device that is laid out so and returns what was written
pub record IsTrusted (s : View) : Type 0 where
  pub known : IsTrue s.is_known
  pub honest : s.is_honest

-- while the store is up, a stop leaves its content
abbrev pub Rests : View → Type 0
Rests s = IsTrusted s → s.is_up → (left : Option Stored) → s.may_leave left → left ≡ Some s.content

-- the number of failures that is not raised any more
abbrev pub most_failures : ℕ
most_failures = 18446744073709551615

-- one failure more was counted, up to the greatest number
abbrev pub HasCounted : ℕ → ℕ → Type 0
HasCounted before now = now ≡ min (before + 1) most_failures

-- a fault is counted, unless memory ran out; a failure comes only with this excuse
abbrev pub IsExcused : Type 0 → ℕ → ℕ → StoreFault → Type 0
IsExcused excuse before now Memory = now ≡ before
IsExcused excuse before now Failed = excuse × HasCounted before now
IsExcused excuse before now NotOurs = HasCounted before now

module _ {T : Type 0} where
  abbrev pub Changes : Stored → Stored → Stored → Result T StoreFault → Type 0
  Changes before after now (Ok x) = now ≡ after
  Changes before after now (Err e) = now ≡ before

  abbrev pub Counts : Type 0 → ℕ → ℕ → Result T StoreFault → Type 0
  Counts excuse before now (Ok x) = now ≡ before
  Counts excuse before now (Err e) = IsExcused excuse before now e

  -- an error other than out of memory
  abbrev pub IsRefused : Result T StoreFault → Type 0
  IsRefused (Ok x) = ⊥
  IsRefused (Err Memory) = ⊥
  IsRefused (Err Failed) = Unit {0}
  IsRefused (Err NotOurs) = Unit {0}

-- The call made of the content what is stated, or nothing, and counted a failure only with this excuse.
-- A stop leaves the content before the call or the one after it; and while the store is up, its own.
pub record Makes {T : Type 0} (old new : View) (excuse : Type 0) (after : Stored)
    (result : Result T StoreFault) : Type 0 where
  -- the content is the one after at `Ok`, and else that before
  pub changes : Changes old.content after new.content result
  -- at `Ok` and if memory runs out no failure is counted
  pub cause : Counts excuse old.failures new.failures result
  -- what was found of the device when the store was opened stays so
  pub known : new.is_known ≡ old.is_known
  pub holds : new.holds_content ≡ old.holds_content
  -- a store without a content refuses the call
  pub none : old.holds_content ≡ false → IsRefused result
  -- a device that is honest now was honest before
  pub honest : new.is_honest → old.is_honest
  -- a stop within the call leaves the content before it or the one after it
  pub stop : IsTrusted new → old.is_up → (left : Option Stored) → new.may_leave left
      → (left ≡ Some old.content) ⊎ (left ≡ Some after)
  -- a stop after the call leaves the content of the store
  pub rest : Rests new
  -- `Ok` comes only of a store that was up, and stays so
  pub stands : OnOk result (IsTrusted new → old.is_up × new.is_up)
