-- Each event of a run touches a place, so whoever has all places has seen the whole run.
use Rattle.std.proofs.Common.{List, Option, Some, ap, arith, false, inl, inr, length, refl, subst, sym, true, suc, ℕ, ◌≤◌, ◌==◌, ◌∙◌, ◌∷◌, ◌≡◌, ◌⊎◌, ◌||◌}
use Rattle.std.proofs.lemmas.Bool.{eqb-false, false≢true, ltb-false, not-false, or_parts}
use Rattle.std.proofs.lemmas.Bool.Decides.{nat_tests}
use Rattle.std.specs.Prelude.{nat_lt}
use Rattle.one_run.specs.Pieces.{GoesOn, touches_at}
use Rattle.one_run.specs.Pieces.GoesOn.{longer, stays}
use Rattle.run_model.specs.declared.history.Event.{Event}
use Rattle.run_model.specs.declared.step.Step.{Step}
use Rattle.run_model.specs.declared.step.Step.TheVariants.{Crash, Op, Recover}
use Rattle.run_model.specs.declared.answer.Refusal.TheVariants as why
use Rattle.run_model.specs.Actions.{home_of}
use Rattle.run_model.specs.LocalHistories.{names_guardian, takes_registry}
use Rattle.run_model.specs.Openings.{Opening}
use Rattle.run_model.specs.Refusals.{checks}
use Rattle.run_model.specs.Runs.{IsRun}
use Rattle.run_laws.proofs.Accepted.{NoneApplies, checked}
use Rattle.shared_run.specs.Places.{touches}

-- a guardian of the opening that the step names
pub record NamesOne (opening : Opening) (step : Step) (past : List Event) : Type 0 where
  pub number : ℕ
  pub first : 1 ≤ number
  pub last : number ≤ length opening.setup
  pub named : names_guardian step past number ≡ true

self : (g : ℕ) → (g == g) ≡ true
self g = grind (arith, nat_tests)

in_opening : (count g : ℕ) → ((g == 0) || nat_lt count g) ≡ false → (1 ≤ g) × (g ≤ count)
in_opening count g h =
    let p = or_parts (g == 0) (nat_lt count g) h in
    let some = eqb-false g 0 p.0 in
    let few = ltb-false count g p.1 in
    (omega arith, omega arith)

-- an event takes the registry, or names a guardian of the opening
pub touches_some : (opening : Opening) (e : Event) (past : List Event) → IsRun opening (e ∷ past)
    → (touches e past 0 ≡ true) ⊎ NamesOne opening e.step past
touches_some opening e past r = of e.step (checked opening e past r)
  where
    of : (step : Step) → NoneApplies (checks opening step past) → (takes_registry step ≡ true) ⊎ NamesOne opening step past
    of (Op a x wanted) f =
        let there = in_opening (length opening.setup) x.guardian (f why.NoGuardian) in
        let home = not-false (x.guardian == home_of a past) (f why.Elsewhere) in
        let same : x.guardian ≡ home_of a past = Rattle.std.proofs.Common.eqb-true x.guardian (home_of a past) home in
        inr (record { number = home_of a past; first = omega (arith, same, there.0); last = omega (arith, same, there.1); named = self (home_of a past) })
    of (Crash g) f =
        let there = in_opening (length opening.setup) g (f why.NoGuardian) in
        inr (record { number = g; first = there.0; last = there.1; named = self g })
    of (Recover g) f =
        let there = in_opening (length opening.setup) g (f why.NoGuardian) in
        inr (record { number = g; first = there.0; last = there.1; named = self g })
    of _ f = inl refl

-- a run that goes on is the one that was seen, or its last event leaves the place
last_event : {place : Option ℕ} {seen now : List Event} → GoesOn touches place seen now
    → (now ≡ seen) ⊎ ((e : Event) × (past : List Event) × (now ≡ e ∷ past) × (touches_at touches place e past ≡ false))
last_event stays = inl refl
last_event (longer {past = past} e quiet rest) = inr (e, past, refl, quiet)

-- What was seen at the registry and at each guardian of the opening is the whole run.
pub whole_seen : (opening : Opening) (past now : List Event) → IsRun opening now → GoesOn touches (Some 0) past now
    → ((g : ℕ) → 1 ≤ g → g ≤ length opening.setup → GoesOn touches (Some (suc g)) past now) → now ≡ past
whole_seen opening past now r there each = of (last_event there)
  where
    alike : (e d : Event) (p q : List Event) (g : ℕ) → e ∷ p ≡ d ∷ q → names_guardian d.step q g ≡ false → names_guardian e.step p g ≡ false
    alike e d p q g same quiet =
        let first : e ≡ d = cc in
        let rest : p ≡ q = cc in
        ap (λ x. names_guardian x.step p g) first ∙ ap (λ l. names_guardian d.step l g) rest ∙ quiet

    at : (e : Event) (p : List Event) → now ≡ e ∷ p → NamesOne opening e.step p → now ≡ past
    at e p is n = elim (last_event (each n.number n.first n.last)) [
      | inl same ↦ same
      | inr other ↦ absurd (false≢true (sym (alike e other.0 p other.1 n.number (sym is ∙ other.2) other.3) ∙ n.named))
    ]

    of : (now ≡ past) ⊎ ((e : Event) × (p : List Event) × (now ≡ e ∷ p) × (touches_at touches (Some 0) e p ≡ false)) → now ≡ past
    of (inl same) = same
    of (inr (e, p, is, quiet)) = elim (touches_some opening e p (subst (λ l. IsRun opening l) is r)) [
      | inl touched ↦ absurd (false≢true (sym quiet ∙ touched))
      | inr n ↦ at e p is n
    ]
