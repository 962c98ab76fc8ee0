-- Homes and incarnations stay as they were when an action began; a lost action is older than the last crash of its home.
use Rattle.std.proofs.Common.{Bool, List, [], ap, arith, cond, eqb-true, false, filter, inl, inr, le_trans, length, lt_of_lt_of_le, refl, subst, suc, sym, true, ℕ, ◌<◌, ◌∙◌, ◌∷◌, ◌≡◌, ◌≤◌}
use Rattle.std.proofs.lemmas.Bool.{and_parts, eqb-false, false≢true, ltb-false, or_cases, or_parts}
use Rattle.action_names.specs.Names.{Name}
use Rattle.run_model.specs.declared.history.Event.{Event}
use Rattle.run_model.specs.declared.step.Step.{Step}
use Rattle.run_model.specs.declared.step.Step.TheVariants.{Crash}
use Rattle.run_model.specs.Actions.{begins, crashes, home_in, home_of, incarnation_of, is_begun, step_crashes}
use Rattle.run_model.specs.Refusals.{checks}
use Rattle.run_model.specs.Openings.{Opening}
use Rattle.run_model.specs.Runs.{IsRun}
use Rattle.run_model.specs.Visibility.{is_lost}
use Rattle.run_laws.proofs.Accepted.{NoneApplies, checked}
use Rattle.run_laws.proofs.Begun.{begun_cases, begun_more, begun_once}
use Rattle.run_model.specs.declared.answer.Refusal.TheVariants as why
use Rattle.run_laws.proofs.Growth.{Follows, begun_stays, here, later}

-- an event leaves the home of what was begun
pub home_more : (opening : Opening) (e : Event) (past : List Event) (a : Name) → IsRun opening (e ∷ past) → is_begun a past ≡ true
    → home_of a (e ∷ past) ≡ home_of a past
home_more opening e past a r h = ap (λ t. cond t (home_in e.step (λ b. home_of b past)) (home_of a past)) (begun_once opening e past a r h)

-- and its incarnation
incarnation_more : (opening : Opening) (e : Event) (past : List Event) (a : Name) → IsRun opening (e ∷ past) → is_begun a past ≡ true
    → incarnation_of a (e ∷ past) ≡ incarnation_of a past
incarnation_more opening e past a r h =
    ap (λ t. cond t (crashes (home_of a (e ∷ past)) past) (incarnation_of a past)) (begun_once opening e past a r h)

-- so what holds of both holds after a step
pub as_before : (opening : Opening) (e : Event) (past : List Event) (a : Name) → IsRun opening (e ∷ past) → is_begun a past ≡ true
    → (P : ℕ → ℕ → Type 0) → P (home_of a past) (incarnation_of a past) → P (home_of a (e ∷ past)) (incarnation_of a (e ∷ past))
as_before opening e past a r h P p =
    subst (λ n. P (home_of a (e ∷ past)) n) (sym (incarnation_more opening e past a r h))
    (subst (λ g. P g (incarnation_of a past)) (sym (home_more opening e past a r h)) p)

-- it begins at its home's present incarnation
pub incarnation_new : (e : Event) (past : List Event) (a : Name) → begins e a ≡ true
    → incarnation_of a (e ∷ past) ≡ crashes (home_of a (e ∷ past)) past
incarnation_new e past a h = ap (λ t. cond t (crashes (home_of a (e ∷ past)) past) (incarnation_of a past)) h

-- the home stays for good
pub home_stays : (opening : Opening) (a : Name) {past now : List Event} → Follows past now → IsRun opening now → is_begun a past ≡ true
    → home_of a now ≡ home_of a past
home_stays opening a here r h = refl
home_stays opening a (later {now = now} e w) r h = home_more opening e now a r (begun_stays a w h) ∙ home_stays opening a w r.2 h

-- an event adds one crash or none
pub crashes_next : (e : Event) (past : List Event) (g : ℕ) (t : Bool) → step_crashes e.step g ≡ t
    → crashes g (e ∷ past) ≡ cond t (suc (crashes g past)) (crashes g past)
crashes_next e past g true h =
    ap (λ t. length (cond t (e ∷ filter (λ x. step_crashes x.step g) past) (filter (λ x. step_crashes x.step g) past))) h
crashes_next e past g false h =
    ap (λ t. length (cond t (e ∷ filter (λ x. step_crashes x.step g) past) (filter (λ x. step_crashes x.step g) past))) h

-- crashes are never fewer
pub crashes_more : (e : Event) (past : List Event) (g : ℕ) → crashes g past ≤ crashes g (e ∷ past)
crashes_more e past g = step (step_crashes e.step g) (crashes g (e ∷ past)) (crashes_next e past g (step_crashes e.step g) refl)
  where
    step : (t : Bool) (n : ℕ) → n ≡ cond t (suc (crashes g past)) (crashes g past) → crashes g past ≤ n
    step true n h = omega arith
    step false n h = omega arith

-- no incarnation is later than the present one
incarnation_bound : (opening : Opening) (past : List Event) (b : Name) → IsRun opening past → is_begun b past ≡ true
    → incarnation_of b past ≤ crashes (home_of b past) past
incarnation_bound opening [] b r h = absurd (false≢true h)
incarnation_bound opening (e ∷ past) b r h = elim (begun_cases e past b h) [
  | inl k ↦
      subst (λ n. n ≤ crashes (home_of b (e ∷ past)) (e ∷ past)) (sym (incarnation_new e past b k))
      (crashes_more e past (home_of b (e ∷ past)))
  | inr k ↦
      as_before opening e past b r k (λ g n. n ≤ crashes g (e ∷ past))
      (le_trans (incarnation_bound opening past b r.2 k) (crashes_more e past (home_of b past)))
]

-- a lost action began before its home last crashed
pub record IsLostAt (opening : Opening) (b : Name) (past : List Event) : Type 0 where
  pub was_begun : is_begun b past ≡ true
  pub older : incarnation_of b past < crashes (home_of b past) past
  pub there : (0 < home_of b past) × (home_of b past ≤ length opening.setup)

-- who crashes is in the opening
crash_facts : (opening : Opening) (e : Event) (past : List Event) (g : ℕ) → IsRun opening (e ∷ past) → step_crashes e.step g ≡ true
    → (0 < g) × (g ≤ length opening.setup)
crash_facts opening e past g r k = of e.step (checked opening e past r) k
  where
    of : (step : Step) → NoneApplies (checks opening step past) → step_crashes step g ≡ true → (0 < g) × (g ≤ length opening.setup)
    of (Crash h) f k =
        let p = or_parts _ _ (f why.NoGuardian) in
        bounds h (length opening.setup) (eqb-true h g k) (eqb-false h 0 p.0) (ltb-false (length opening.setup) h p.1)
      where
        bounds : (h n : ℕ) → h ≡ g → (h ≡ 0 → ⊥) → h ≤ n → (0 < g) × (g ≤ n)
        bounds h n e q m = omega arith
    of _ f k = absurd (false≢true k)

-- what is lost began before, and its home is in the opening
pub lost_facts : (opening : Opening) (past : List Event) (b : Name) → IsRun opening past → is_lost b past ≡ true → IsLostAt opening b past
lost_facts opening [] b r h = absurd (false≢true h)
lost_facts opening (e ∷ past) b r h = elim (or_cases _ _ h) [
  | inl k ↦
      let l = lost_facts opening past b r.2 k in
      build l.was_begun (lt_of_lt_of_le l.older (crashes_more e past (home_of b past))) l.there
  | inr k ↦
      let p = and_parts _ _ k in
      let c = (and_parts _ _ p.1).0 in
      let bound = incarnation_bound opening past b r.2 p.0 in
      let older =
      subst (λ n. incarnation_of b past < n) (sym (crashes_next e past (home_of b past) true c))
      (more (incarnation_of b past) (crashes (home_of b past) past) bound) in
      build p.0 older (crash_facts opening e past (home_of b past) r c)
]
  where
    more : (a b : ℕ) → a ≤ b → a < suc b
    more a b x = omega arith

    build : is_begun b past ≡ true → incarnation_of b past < crashes (home_of b past) (e ∷ past)
        → (0 < home_of b past) × (home_of b past ≤ length opening.setup) → IsLostAt opening b (e ∷ past)
    build k lt th = record {
      was_begun = begun_more e past b k;
      older = as_before opening e past b r k (λ g n. n < crashes g (e ∷ past)) lt;
      there = as_before opening e past b r k (λ g n. (0 < g) × (g ≤ length opening.setup)) th;
    }
