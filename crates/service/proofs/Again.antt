-- Transactions that are made again, so often so far.
use Rattle.std.proofs.Common.{Bool, arith, false, inl, inr, subst, suc, true, ℕ, ◌+◌, ◌-◌, ◌<◌, ◌≤◌, ◌≡◌}
use Rattle.stepping.specs.Beside.{OwnRun, Sees}
use Rattle.service.specs.Retrying.{IsMadeOnce, Retried}
use Rattle.service.specs.Working.{Does}
use Rattle.service.specs.declared.outcome.Transacted.{Transacted}

module _ {J T E : Type 0} (sees : Sees) (does : Does J T E) (again : Transacted T E → Bool) (home : ℕ) where
  -- what is made again from now on was made so many times more from then on
  abbrev pub GoesOn : ℕ → OwnRun → OwnRun → J → J → Type 0
  GoesOn count old now before here = (more : ℕ) (new : OwnRun) (after : J) (last : Transacted T E)
      → Retried sees does again home more now new here after last → Retried sees does again home (more + count) old new before after last

  pub goes_on_none : (old : OwnRun) (before : J) → GoesOn 0 old old before before
  goes_on_none old before more new after last h =
      let same : more ≡ more + 0 = omega arith in subst (λ n. Retried sees does again home n old new before after last) same h

  -- once more
  pub goes_on_more : (count : ℕ) (old mid now : OwnRun) (before between here : J) (ended : Transacted T E) → GoesOn count old mid before between
      → IsMadeOnce sees does again home mid now between here ended → again ended ≡ true → GoesOn (count + 1) old now before here
  goes_on_more count old mid now before between here ended so made named more new after last h =
      let same : suc more + count ≡ more + (count + 1) = omega arith in
      subst (λ n. Retried sees does again home n old new before after last) same
      (so (suc more) new after last ∣ inr (now, here, record { ended = ended; made = made; named = named }, h) ∣₁)

  -- the last one, of those that may be made
  pub last_of : (count times : ℕ) (old now new : OwnRun) (before here after : J) (last : Transacted T E) → count ≤ times → times ≤ count
      → GoesOn count old now before here → IsMadeOnce sees does again home now new here after last
      → Retried sees does again home times old new before after last
  last_of count times old now new before here after last up down so made =
      let same : 0 + count ≡ times = omega arith in subst (λ n. Retried sees does again home n old new before after last) same (so 0 new after last made)

  -- or one that is not to be made again
  pub last_so : (count times : ℕ) (old now new : OwnRun) (before here after : J) (last : Transacted T E) → count < times
      → GoesOn count old now before here → IsMadeOnce sees does again home now new here after last → again last ≡ false
      → Retried sees does again home times old new before after last
  last_so count times old now new before here after last more so made is =
      let same : suc (times - (count + 1)) + count ≡ times = omega arith in
      subst (λ n. Retried sees does again home n old new before after last) same
      (so (suc (times - (count + 1))) new after last ∣ inl (made, is) ∣₁)
