-- What opening the stores of a system gives, when they are refused, and that they still belong then.
use Rattle.std.proofs.Common.{List, [], ap, inl, inr, length, map as each, refl, subst, sym, ◌+◌, ◌∙◌, ◌∷◌, ◌≡◌}
use Rattle.std.proofs.lemmas.List.{length-map}
use Rattle.run_laws.proofs.Names.{clash}
use Rattle.recovery_laws.proofs.Settled.{store_at}
use Rattle.stable_store.specs.Calls.{View}
use Rattle.stable_store.specs.Stored.{Stored, after_bump}
use Rattle.store_recovery.specs.Settling.{contents, settled, settled_store}
use Rattle.store_recovery.specs.declared.refused.Refused.TheVariants.{Memory, NotOurs, Stable}
use Rattle.restart_laws.specs.Laws.{RefusedByFaultsAlone, RefusedStillBelong, ReopenedOpensInType}
use Rattle.restart_laws.proofs.Belong.{BasesSuit, bases_suit, opens_with_bases, runs_belong, settled_belong, settled_in_part_belong}

-- counting recoveries leaves the bases
bumped : (stores : List Stored) → each (λ s. s.base) (each after_bump stores) ≡ each (λ s. s.base) stores
bumped [] = refl
bumped (s ∷ stores) = ap (λ bases. s.base ∷ bases) (bumped stores)

module _ {S : Type 0} (seen : S → View) where
  -- the law
  pub reopened_opens_in_type : ReopenedOpensInType seen
  reopened_opens_in_type setup old new opening count are is =
      opens_with_bases opening now
      (as_many ∙ ap (λ s. length s) (sym is.guardians))
      (subst (λ s. BasesSuit s 1 (each (λ s. s.base) now)) (sym is.guardians) suit)
      (λ i s at. (is.says (i + 1) s (store_at (i + 1) i now s refl at)).base)
    where
      now : List Stored
      now = contents seen new

      were : List Stored
      were = contents seen old

      as_many : length now ≡ length setup
      as_many =
          ap (λ ss. length ss) are.now ∙ length-map (settled were) after_bump ∙ length-map were (λ s. settled_store were s)
          ∙ length-map old (λ s. (seen s).content) ∙ count

      suit : BasesSuit setup 1 (each (λ s. s.base) now)
      suit =
          subst (BasesSuit setup 1) (sym (ap (λ ss. each (λ s. s.base) ss) are.now ∙ bumped (settled were)))
          (bases_suit setup 1 (settled were) (settled_belong setup were are.belonged))

  -- the law
  pub refused_by_faults_alone : RefusedByFaultsAlone seen
  refused_by_faults_alone opening past old new Memory t r all hold are other = absurd (other refl)
  refused_by_faults_alone opening past old new Stable t r all hold are other = are.counted refl
  refused_by_faults_alone opening past old new NotOurs t r all hold are other = elim (are.others refl).1 [
    | inl none ↦ absurd (clash hold none)
    | inr rest ↦ elim rest [
      | inl strange ↦ absurd (clash (runs_belong opening past (contents seen old) t r all) strange)
      | inr counted ↦ counted
    ]
  ]

  -- the law
  pub refused_still_belong : RefusedStillBelong seen
  refused_still_belong setup old new why belong are =
      settled_in_part_belong setup (contents seen old) (contents seen new) belong are.in_part
