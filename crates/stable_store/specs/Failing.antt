-- A store of which one call fails.
use Rattle.std.specs.Prelude.{◌≡◌, ◌⊎◌, ◌+◌, ◌-◌, ◌==◌, ℕ, min, if◌then◌else◌, Result, IsErrOf}
use Rattle.stable_store.specs.Calls.{View, most_failures}
use Rattle.stable_store.specs.declared.fault.StoreFault.{StoreFault}
use Rattle.stable_store.specs.declared.fault.StoreFault.TheVariants.{Failed}

-- the inner store, how many calls there are up to the one that fails, that one counted too, and how many have failed
pub record Failing (S : Type 0) : Type 0 where
  pub inner : S
  pub calls_left : ℕ
  pub failed : ℕ

-- once one call more was made: the last of those that are left has failed
abbrev pub counted : {S : Type 0} → Failing S → Failing S
counted f = record f {
  calls_left = f.calls_left - 1;
  failed = if f.calls_left == 1 then min (f.failed + 1) most_failures else f.failed;
}

-- what is seen of it is what is seen of the inner store, with its own failures counted too
abbrev pub failing_view : {S : Type 0} → (S → View) → Failing S → View
failing_view seen f =
    record (seen f.inner) { failures = min ((seen f.inner).failures + f.failed) most_failures }

-- the inner store's failure is excused, or this was the call that fails
abbrev pub IsFailing : {S : Type 0} → (S → S → Type 0) → Failing S → Failing S → Type 0
IsFailing may_fail old new = may_fail old.inner new.inner ⊎ (old.calls_left ≡ 1)

-- the call was counted, and failed if it was the one
pub record TakesTurn {S T : Type 0} (old new : Failing S)
    (result : Result T StoreFault) : Type 0 where
  pub counts : new.calls_left ≡ old.calls_left - 1
  pub fails : old.calls_left ≡ 1 → IsErrOf result Failed
