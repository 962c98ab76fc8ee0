-- Guardians of the opening: who has prepared, and the homes of actions.
use Rattle.std.proofs.Common.{Bool, List, [], ap, arith, cond, eqb-true, false, inl, inr, length, nat_lt, refl, subst, sym, true, ℕ, ◌<◌, ◌==◌, ◌∙◌, ◌∷◌, ◌≡◌, ◌≤◌, ◌||◌}
use Rattle.std.proofs.lemmas.Bool.{and_parts, eqb-false, false≢true, ltb-false, not-false, or_cases, or_parts}
use Rattle.action_names.specs.Names.{Name, has_name}
use Rattle.run_model.specs.declared.answer.Answer.{Answer}
use Rattle.run_model.specs.declared.answer.Answer.TheVariants.{VoteNo, VoteYes}
use Rattle.run_model.specs.declared.answer.Refusal.TheVariants as why
use Rattle.run_model.specs.declared.history.Event.{Event}
use Rattle.run_model.specs.declared.step.Step.{Step}
use Rattle.run_model.specs.declared.step.Step.TheVariants.{Arms, Call, NestedTop, Op, Prepare, Top}
use Rattle.run_model.specs.Actions.{begins, home_in, home_of, is_begun, names_begun}
use Rattle.run_model.specs.Answers.{granted_or_waits, outcome}
use Rattle.run_model.specs.Keeping.{blockers}
use Rattle.run_model.specs.Openings.{Opening}
use Rattle.run_model.specs.Refusals.{checks}
use Rattle.run_model.specs.Runs.{IsRun}
use Rattle.run_model.specs.Visibility.{has_prepared, votes_yes}
use Rattle.run_model.specs.Votes.{may_prepare}
use Rattle.run_laws.proofs.Accepted.{NoneApplies, answered, checked}
use Rattle.run_laws.proofs.Begun.{begun_cases}
use Rattle.run_laws.proofs.Names.{clash}
use Rattle.recovery_laws.specs.Numbers.{IsGuardian}

bounds : (g n : ℕ) → (g ≡ 0 → ⊥) → g ≤ n → (0 < g) × (g ≤ n)
bounds g n h l = (omega arith, l)

-- one that is not refused as none
pub there_by : (opening : Opening) (g : ℕ) → ((g == 0) || nat_lt (length opening.setup) g) ≡ false → IsGuardian opening g
there_by opening g h =
    let p = or_parts (g == 0) _ h in bounds g (length opening.setup) (eqb-false g 0 p.0) (ltb-false (length opening.setup) g p.1)

-- who has prepared
pub prepared_there : (opening : Opening) (past : List Event) (g : ℕ) (t : Name) → IsRun opening past → has_prepared g t past ≡ true
    → IsGuardian opening g
prepared_there opening [] g t r h = absurd (false≢true h)
prepared_there opening (e ∷ past) g t r h = elim (or_cases _ _ h) [
  | inl k ↦ of e.step e.answer (checked opening e past r) k
  | inr k ↦ prepared_there opening past g t r.2 k
]
  where
    of : (step : Step) (answer : Answer) → NoneApplies (checks opening step past) → votes_yes step answer g t ≡ true → IsGuardian opening g
    of (Prepare h b) VoteYes f v =
        subst (λ k. IsGuardian opening k) (eqb-true h g (and_parts _ _ v).0) (there_by opening h (f why.NoGuardian))
    of _ _ f v = absurd (false≢true v)

-- the home of what was begun
pub home_there : (opening : Opening) (past : List Event) (a : Name) → IsRun opening past → is_begun a past ≡ true
    → IsGuardian opening (home_of a past)
home_there opening [] a r h = absurd (false≢true h)
home_there opening (e ∷ past) a r h =
    of (begins e a) refl (λ b k. home_there opening past b r.2 k)
  where
    There : ℕ → Type 0
    There g = IsGuardian opening g

    Before : Type 0
    Before = (b : Name) → is_begun b past ≡ true → There (home_of b past)

    new : (step : Step) → NoneApplies (checks opening step past) → has_name (names_begun (outcome opening step past)) a ≡ true → Before
        → There (home_in step (λ b. home_of b past))
    new (Top g) f k before = there_by opening g (f why.NoGuardian)
    new (NestedTop b) f k before = before b (not-false _ (f why.NoAction))
    new (Call b g) f k before = there_by opening g (f why.NoGuardian)
    new (Arms b kinds) f k before = before b (not-false _ (f why.NoAction))
    new (Op b x wanted) f k before = absurd (clash k (none (blockers b x wanted past)))
      where
        none : (bs : List Name) → has_name (names_begun (granted_or_waits opening x wanted past bs)) a ≡ false
        none [] = refl
        none (c ∷ bs) = refl
    new (Prepare g t) f k before = absurd (clash k (none (may_prepare g t past)))
      where
        none : (vote : Bool) → has_name (names_begun (cond vote VoteYes VoteNo)) a ≡ false
        none true = refl
        none false = refl
    new _ f k before = absurd (false≢true k)

    of : (b : Bool) → begins e a ≡ b → Before → There (cond b (home_in e.step (λ d. home_of d past)) (home_of a past))
    of true q before =
        new e.step (checked opening e past r) (ap (λ answer. has_name (names_begun answer) a) (sym (answered opening e past r)) ∙ q) before
    of false q before = elim (begun_cases e past a h) [ inl k ↦ absurd (clash k q) | inr k ↦ before a k ]
