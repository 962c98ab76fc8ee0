-- The guardians that an accepted step names are in the setup; so others have no history.
use Rattle.std.proofs.Common.{Bool, List, None, Option, Some, [], ap, arith, cond, eqb-true, false, inl, inr, length, nat_lt, refl, subst, sym, true, ℕ, ◌==◌, ◌∙◌, ◌∷◌, ◌≡◌, ◌≤◌, ◌||◌}
use Rattle.std.proofs.lemmas.Bool.{eqb-false, false≢true, ltb-false, not-false, or_cases, or_parts}
use Rattle.action_names.specs.Names.{Name, has_name, parent_of}
use Rattle.run_model.specs.declared.answer.Answer.TheVariants.{VoteNo, VoteYes}
use Rattle.run_model.specs.declared.history.Event.{Event}
use Rattle.run_model.specs.declared.step.Step.{Step}
use Rattle.run_model.specs.declared.step.Step.TheVariants.{Abort, Arms, Call, Close, Commit, Crash, Decide, NestedTop, Op, Prepare, Recover, Tell, Top}
use Rattle.run_model.specs.Actions.{begins, home_in, home_of, is_begun, maker_in, maker_of, names_begun}
use Rattle.run_model.specs.Answers.{granted_or_waits, outcome}
use Rattle.run_model.specs.Keeping.{blockers}
use Rattle.run_model.specs.LocalHistories.{Stamped, events_of, is_home_of, local_history, names_guardian}
use Rattle.run_model.specs.Refusals.{checks}
use Rattle.run_model.specs.Openings.{Opening}
use Rattle.run_model.specs.Runs.{IsRun}
use Rattle.run_model.specs.Votes.{may_prepare}
use Rattle.run_laws.proofs.Accepted.{NoneApplies, answered, checked}
use Rattle.run_laws.proofs.Begun.{begun_cases, begun_more, parent_begun}
use Rattle.run_laws.proofs.Homes.{home_more}
use Rattle.run_laws.proofs.Names.{clash}
use Rattle.local_laws.proofs.Outcomes.{history_unnamed}
use Rattle.run_model.specs.declared.answer.Refusal.TheVariants as why
use Rattle.world_steps.specs.Standings.{IsOut}

pub record IsInside (opening : Opening) (g : ℕ) : Type 0 where
  pub low : 1 ≤ g
  pub high : g ≤ length opening.setup

guardian_from : (opening : Opening) (g : ℕ) → ((g == 0) || nat_lt (length opening.setup) g) ≡ false → IsInside opening g
guardian_from opening g h =
    let p = or_parts _ _ h in
    record { low = positive g (eqb-false g 0 p.0); high = ltb-false (length opening.setup) g p.1 }
  where
    positive : (g : ℕ) → (g ≡ 0 → ⊥) → 1 ≤ g
    positive g q = omega arith

home_given : (opening : Opening) (step : Step) (past : List Event) (a : Name) → NoneApplies (checks opening step past)
    → has_name (names_begun (outcome opening step past)) a ≡ true
    → ((b : Name) → is_begun b past ≡ true → IsInside opening (home_of b past))
    → IsInside opening (home_in step (λ b. home_of b past))
home_given opening (Top g) past a f h known = guardian_from opening g (f why.NoGuardian)
home_given opening (Call b g) past a f h known = guardian_from opening g (f why.NoGuardian)
home_given opening (NestedTop b) past a f h known = known b (not-false _ (f why.NoAction))
home_given opening (Arms b kinds) past a f h known = known b (not-false _ (f why.NoAction))
home_given opening (Op b x wanted) past a f h known = absurd (clash h (none (blockers b x wanted past)))
  where
    none : (bs : List Name) → has_name (names_begun (granted_or_waits opening x wanted past bs)) a ≡ false
    none [] = refl
    none (b ∷ bs) = refl
home_given opening (Prepare g t) past a f h known = absurd (clash h (none (may_prepare g t past)))
  where
    none : (vote : Bool) → has_name (names_begun (cond vote VoteYes VoteNo)) a ≡ false
    none true = refl
    none false = refl
home_given opening _ past a f h known = absurd (false≢true h)

home_inside : (opening : Opening) (past : List Event) (a : Name) → IsRun opening past → is_begun a past ≡ true → IsInside opening (home_of a past)
home_inside opening [] a r h = absurd (false≢true h)
home_inside opening (e ∷ past) a r h = elim (begun_cases e past a h) [
  | inr k ↦ subst (λ g. IsInside opening g) (sym (home_more opening e past a r k)) (home_inside opening past a r.2 k)
  | inl k ↦
      let given = home_given opening e.step past a (checked opening e past r) (ap (λ x. has_name (names_begun x) a) (sym (answered opening e past r)) ∙ k)
      (λ b. home_inside opening past b r.2) in
      subst (λ g. IsInside opening g)
      (sym (ap (λ t. cond t (home_in e.step (λ b. home_of b past)) (home_of a past)) k)) given
]

some_same : (a b : Name) → Some a ≡ Some b → a ≡ b
some_same a b e = cc

-- who made an action was begun
made_by_begun : (opening : Opening) (step : Step) (past : List Event) (m : Name) → NoneApplies (checks opening step past) → maker_in step ≡ Some m → is_begun m past ≡ true
made_by_begun opening (NestedTop b) past m f q = subst (λ c. is_begun c past ≡ true) (some_same b m q) (not-false _ (f why.NoAction))
made_by_begun opening (Call b g) past m f q = subst (λ c. is_begun c past ≡ true) (some_same b m q) (not-false _ (f why.NoAction))
made_by_begun opening (Arms b kinds) past m f q = subst (λ c. is_begun c past ≡ true) (some_same b m q) (not-false _ (f why.NoAction))
made_by_begun opening (Top g) past m f q = absurd (none m q)
  where
    none : (m : Name) → None ≡ Some m → ⊥
    none m q = cc
made_by_begun opening _ past m f q = absurd (none m q)
  where
    none : (m : Name) → None ≡ Some m → ⊥
    none m q = cc

maker_begun : (opening : Opening) (past : List Event) (a m : Name) → IsRun opening past → maker_of a past ≡ Some m → is_begun m past ≡ true
maker_begun opening [] a m r q = absurd (none m q)
  where
    none : (m : Name) → None ≡ Some m → ⊥
    none m q = cc
maker_begun opening (e ∷ past) a m r q = of (begins e a) refl (λ h. maker_begun opening past a m r.2 h)
  where
    of : (t : Bool) → begins e a ≡ t → (maker_of a past ≡ Some m → is_begun m past ≡ true) → is_begun m (e ∷ past) ≡ true
    of true k ih = begun_more e past m (made_by_begun opening e.step past m (checked opening e past r) (sym (ap (λ t. cond t (maker_in e.step) (maker_of a past)) k) ∙ q))
    of false k ih = begun_more e past m (ih (sym (ap (λ t. cond t (maker_in e.step) (maker_of a past)) k) ∙ q))

pub named_inside : (opening : Opening) (e : Event) (past : List Event) (g : ℕ) → IsRun opening (e ∷ past) → names_guardian e.step past g ≡ true → IsInside opening g
named_inside opening e past g r n = of e.step (checked opening e past r) n
  where
    same : (h : ℕ) → (h == g) ≡ true → IsInside opening h → IsInside opening g
    same h q i = subst (λ k. IsInside opening k) (eqb-true h g q) i

    home : (a : Name) → is_begun a past ≡ true → (home_of a past == g) ≡ true → IsInside opening g
    home a b q = same (home_of a past) q (home_inside opening past a r.2 b)

    made : (a : Name) (o : Option Name) → maker_of a past ≡ o → is_home_of o past g ≡ true → IsInside opening g
    made a None k q = absurd (false≢true q)
    made a (Some m) k q = home m (maker_begun opening past a m r.2 k) q

    of : (step : Step) → NoneApplies (checks opening step past) → names_guardian step past g ≡ true → IsInside opening g
    of (Top h) f n = same h n (guardian_from opening h (f why.NoGuardian))
    of (NestedTop a) f n = home a (not-false _ (f why.NoAction)) n
    of (Call a h) f n = elim (or_cases _ _ n) [
      | inl q ↦ home a (not-false _ (f why.NoAction)) q
      | inr q ↦ same h q (guardian_from opening h (f why.NoGuardian))
    ]
    of (Arms a kinds) f n = home a (not-false _ (f why.NoAction)) n
    of (Op a x wanted) f n = home a (not-false _ (f why.NoAction)) n
    of (Commit a) f n = elim (or_cases _ _ n) [
      | inl q ↦ home a (not-false _ (f why.NoAction)) q
      | inr q ↦ home (parent_of a) (parent_begun opening past a r.2 (not-false _ (f why.NoAction)) (f why.NotSub)) q
    ]
    of (Close t) f n = home t (not-false _ (f why.NoAction)) n
    of (Prepare h t) f n = elim (or_cases _ _ n) [
      | inl q ↦ home t (not-false _ (f why.NoAction)) q
      | inr q ↦ same h q (guardian_from opening h (f why.NoGuardian))
    ]
    of (Decide t) f n = home t (not-false _ (f why.NoAction)) n
    of (Abort a) f n = elim (or_cases _ _ n) [
      | inl q ↦ home a (not-false _ (f why.NoAction)) q
      | inr q ↦ made a (maker_of a past) refl q
    ]
    of (Tell h a) f n = same h n (guardian_from opening h (f why.NoGuardian))
    of (Crash h) f n = same h n (guardian_from opening h (f why.NoGuardian))
    of (Recover h) f n = same h n (guardian_from opening h (f why.NoGuardian))

inside_out : (opening : Opening) (g : ℕ) → IsInside opening g → IsOut (length opening.setup) g → ⊥
inside_out opening g i (inl z) = let l = i.low in omega arith
inside_out opening g i (inr z) = let h = i.high in omega arith

-- what is no guardian has no history
pub outside_empty : (opening : Opening) (run : List Stamped) (g : ℕ) → IsRun opening (events_of run) → IsOut (length opening.setup) g → local_history opening run g ≡ []
outside_empty opening [] g r o = refl
outside_empty opening (s ∷ run) g r o = of (names_guardian s.1.step (events_of run) g) refl (outside_empty opening run g r.2 o)
  where
    of : (t : Bool) → names_guardian s.1.step (events_of run) g ≡ t → local_history opening run g ≡ [] → local_history opening (s ∷ run) g ≡ []
    of true n ih = absurd (inside_out opening g (named_inside opening s.1 (events_of run) g r n) o)
    of false n ih = history_unnamed opening s run g n ∙ ih
