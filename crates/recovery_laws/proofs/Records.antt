-- What comes of a record: where its top action was decided, what that holds is laid, and elsewhere nothing.
use Rattle.std.proofs.Common.{Bool, List, None, Option, Some, [], ap, arith, cond, false, inl, inr, is_some, length, refl, subst, sym, true, ℕ, ◌&&◌, ◌<◌, ◌==◌, ◌∙◌, ◌∷◌, ◌≡◌, ◌≤◌, ◌||◌, ◌⊎◌}
use Rattle.std.proofs.lemmas.Bool.{and_from, and_left, and_parts, false_from_ne_true, false≢true, or_cases, or_from, or_left, or_right}
use Rattle.std.specs.List.{list_any}
use Rattle.action_names.specs.Names.{Name, is_ancestor, is_top, last_of, parent_of, top_of}
use Rattle.values.specs.declared.content.Content.{Content}
use Rattle.atomic_types.specs.declared.part.Part.{Part}
use Rattle.atomic_types.specs.Parts.{laid_where}
use Rattle.run_model.specs.declared.history.Event.{Event}
use Rattle.run_model.specs.declared.step.ObjectId.{ObjectId}
use Rattle.run_model.specs.declared.step.Step.{Step}
use Rattle.run_model.specs.declared.step.Step.TheVariants.{Commit, Decide, Tell}
use Rattle.run_model.specs.declared.answer.Refusal.TheVariants as why
use Rattle.run_model.specs.Actions.{home_of, is_begun, is_committed, next_number, step_commits}
use Rattle.run_model.specs.Keeping.{Performed, is_kept, kept_on, performed, same_object, standing_of}
use Rattle.run_model.specs.Openings.{Opening, first_content, objects_at, part_at}
use Rattle.run_model.specs.Refusals.{checks}
use Rattle.run_model.specs.Runs.{IsRun}
use Rattle.run_model.specs.StableContent.{Prepared, installed_over, is_stably_decided, parts_held, stable_prepared, step_decides, step_told}
use Rattle.run_model.specs.Telling.{step_tells, tells, told_committed, was_told}
use Rattle.run_model.specs.Versions.{part_held, version_by}
use Rattle.run_model.specs.Visibility.{has_prepared, votes_yes}
use Rattle.run_laws.proofs.Accepted.{NoneApplies, checked}
use Rattle.run_laws.proofs.Begun.{begun_cases, new_in_run}
use Rattle.run_laws.proofs.Each.{each_map}
use Rattle.run_laws.proofs.Exchanged.{same_object_true}
use Rattle.run_laws.proofs.Granted.{each_performed}
use Rattle.run_laws.proofs.Growth.{run_before}
use Rattle.run_laws.proofs.Names.{clash, eqb_self, same_name_true, single_top, top_is_own, top_of_ancestor}
use Rattle.run_laws.proofs.NothingLost.{yes_facts}
use Rattle.local_laws.proofs.Based.{WasGranted, all_granted, none_pass}
use Rattle.local_laws.proofs.Beside.{IsHeld, held_facts}
use Rattle.local_laws.proofs.Laid.{records_are_held}
use Rattle.local_laws.proofs.Numbered.{read_at}
use Rattle.local_laws.proofs.Prepared.{committed_prepared, granted_number, one_top}
use Rattle.local_laws.proofs.Written.{held_of, is_held, laid_over, part_is_held, standing}
use Rattle.recovery_laws.specs.Numbers.{DecidedAreOlder, IsGuardian}
use Rattle.recovery_laws.specs.Settled.{is_recorded, settled_by, settled_with}
use Rattle.recovery_laws.proofs.Guardians.{home_there}

-- ---- decisions

any_more : (p q : Event → Bool) (past : List Event) → ((e : Event) → p e ≡ true → q e ≡ true) → list_any p past ≡ true → list_any q past ≡ true
any_more p q [] f h = absurd (false≢true h)
any_more p q (e ∷ past) f h = elim (or_cases _ _ h) [
  | inl k ↦ or_left (q e) (list_any q past) (f e k)
  | inr k ↦ or_right (q e) (list_any q past) (any_more p q past f k)
]

-- what was decided has committed
pub decided_committed : (t : Name) (past : List Event) → list_any (λ e. step_decides e.step t) past ≡ true → is_committed t past ≡ true
decided_committed t past h = any_more (λ e. step_decides e.step t) (λ e. step_commits e.step t) past (λ e k. of e.step k) h
  where
    of : (step : Step) → step_decides step t ≡ true → step_commits step t ≡ true
    of (Decide b) k = k
    of _ k = absurd (false≢true k)

-- and a top action that has committed was decided
pub committed_decided : (opening : Opening) (past : List Event) (t : Name) → IsRun opening past → is_top t ≡ true → is_committed t past ≡ true
    → list_any (λ e. step_decides e.step t) past ≡ true
committed_decided opening [] t r top h = absurd (false≢true h)
committed_decided opening (e ∷ past) t r top h = elim (or_cases _ _ h) [
  | inl k ↦ or_left (step_decides e.step t) _ (of e.step (checked opening e past r) k)
  | inr k ↦ or_right (step_decides e.step t) _ (committed_decided opening past t r.2 top k)
]
  where
    of : (step : Step) → NoneApplies (checks opening step past) → step_commits step t ≡ true → step_decides step t ≡ true
    of (Decide b) f k = k
    of (Commit b) f k = absurd (clash (ap is_top (same_name_true b t k) ∙ top) (f why.NotSub))
    of _ f k = absurd (false≢true k)

-- a top action that begins has at least the first number
pub begins_late : (opening : Opening) (past : List Event) (t : Name) → IsRun opening past → is_begun t past ≡ true → is_top t ≡ true
    → opening.first_top ≤ last_of t
begins_late opening [] t r h top = absurd (false≢true h)
begins_late opening (e ∷ past) t r h top = elim (begun_cases e past t h) [
  | inr k ↦ begins_late opening past t r.2 k top
  | inl k ↦
      let low = (new_in_run opening e past t r k).low in
      late (single_top t top) low
]
  where
    late : parent_of t ≡ [] → next_number opening (parent_of t) past ≤ last_of t → opening.first_top ≤ last_of t
    late p low =
        let from : next_number opening [] past ≤ last_of t = subst (λ a. next_number opening a past ≤ last_of t) p low in
        omega arith

-- a top action of the history is none that a store had as decided before
pub undecided_before : (opening : Opening) (past : List Event) (t : Name) (g : ℕ) → DecidedAreOlder opening → IsRun opening past
    → IsGuardian opening g → is_begun t past ≡ true → is_top t ≡ true → (opening.stores g).decided t ≡ false
undecided_before opening past t g older r there h top = false_from_ne_true _ (λ k. of t k top (begins_late opening past t r h top))
  where
    of : (t : Name) → (opening.stores g).decided t ≡ true → is_top t ≡ true → opening.first_top ≤ last_of t → ⊥
    of [] k q l = false≢true q
    of (n ∷ []) k q l = let less = older g n there k in omega arith
    of (m ∷ n ∷ a) k q l = false≢true q

-- ---- records

-- of what it has prepared a guardian's store has the record, or the guardian was told the outcome
pub recorded : (opening : Opening) (past : List Event) (g : ℕ) (t : Name) → has_prepared g t past ≡ true
    → ((q : Prepared) × (stable_prepared opening g t past ≡ Some q)) ⊎ (was_told g t past ≡ true)
recorded opening [] g t h = absurd (false≢true h)
recorded opening (e ∷ past) g t h = of (votes_yes e.step e.answer g t) (step_told e.step g t) refl h (λ k. recorded opening past g t k)
  where
    read : Prepared
    read = record { home = home_of t past; parts = parts_held opening g t (e ∷ past) }

    telling : (step : Step) (told ended : Bool) → step_told step g t ≡ true → step_tells step g t told ended ≡ true
    telling (Tell h a) told ended k = k
    telling _ told ended k = absurd (false≢true k)

    of : (v s : Bool) → step_told e.step g t ≡ s → (v || has_prepared g t past) ≡ true
        → (has_prepared g t past ≡ true → ((q : Prepared) × (stable_prepared opening g t past ≡ Some q)) ⊎ (was_told g t past ≡ true))
        → ((q : Prepared) × (cond v (Some read) (cond s None (stable_prepared opening g t past)) ≡ Some q)) ⊎ (was_told g t (e ∷ past) ≡ true)
    of true s w k ih = inl (read, refl)
    of false true w k ih = inr (or_right (was_told g t past) (tells e past g t) (telling e.step _ _ w))
    of false false w k ih = elim (ih k) [ inl y ↦ inl y | inr y ↦ inr (or_left (was_told g t past) (tells e past g t) y) ]

-- what it has a record of, it has prepared
pub recorded_prepared : (opening : Opening) (past : List Event) (g : ℕ) (t : Name) → is_recorded opening g past t ≡ true → has_prepared g t past ≡ true
recorded_prepared opening [] g t h = absurd (false≢true h)
recorded_prepared opening (e ∷ past) g t h =
    of (votes_yes e.step e.answer g t) (step_told e.step g t) h (λ k. recorded_prepared opening past g t k)
  where
    read : Prepared
    read = record { home = home_of t past; parts = parts_held opening g t (e ∷ past) }

    of : (v s : Bool) → is_some (cond v (Some read) (cond s None (stable_prepared opening g t past))) ≡ true
        → (is_recorded opening g past t ≡ true → has_prepared g t past ≡ true) → (v || has_prepared g t past) ≡ true
    of true s k ih = refl
    of false true k ih = absurd (false≢true k)
    of false false k ih = ih k

-- which is a top action
pub prepared_top : (opening : Opening) (past : List Event) (g : ℕ) (t : Name) → IsRun opening past → has_prepared g t past ≡ true → is_top t ≡ true
prepared_top opening [] g t r h = absurd (false≢true h)
prepared_top opening (e ∷ past) g t r h = elim (or_cases _ _ h) [
  | inl k ↦ (yes_facts opening e past g t r k).top
  | inr k ↦ prepared_top opening past g t r.2 k
]

pub recorded_top : (opening : Opening) (past : List Event) (g : ℕ) (t : Name) → IsRun opening past → is_recorded opening g past t ≡ true
    → is_top t ≡ true
recorded_top opening past g t r h = prepared_top opening past g t r (recorded_prepared opening past g t h)

module _ (opening : Opening) (past : List Event) (r : IsRun opening past) (x : ObjectId) where
  abbrev c : Content
  c = first_content opening x

  abbrev told : Name → Bool
  told d = told_committed x.guardian d past

  -- on an object that the guardian has not, nothing is kept
  none_kept_outside : (0 < x.number → x.number ≤ length (objects_at opening.setup x.guardian) → ⊥) → kept_on x past ≡ []
  none_kept_outside out =
      none_pass (λ o. same_object o.object x && is_kept o past) (performed past)
      (each_performed past _ (λ o e before p w. false_from_ne_true _ (λ h.
      let n = granted_number opening o e before (run_before opening w r) p in
      let there = same_object_true o.object x (and_parts _ _ h).0 in
      let m = subst (λ (y : ObjectId). (0 < y.number) × (y.number ≤ length (objects_at opening.setup y.guardian))) there n in
      out m.0 m.1)))

  -- a record has what its top action holds
  pub part_recorded : (t : Name) (q : Prepared) → stable_prepared opening x.guardian t past ≡ Some q → part_at q.parts x.number ≡ part_held c (standing_of x past) t
  part_recorded t q e =
      ap (λ (p : Prepared). part_at p.parts x.number) (records_are_held opening past x.guardian t q r e)
      ∙ read_at (λ n. part_held (first_content opening (at n)) (standing_of (at n) past) t) (length (objects_at opening.setup x.guardian)) x.number
      (λ out. ap (λ os. part_held c (standing told os) t) (none_kept_outside out) ∙ part_is_held c told [] t)
    where
      at : ℕ → ObjectId
      at n = record { guardian = x.guardian; number = n }

  -- where a top action has committed of which there is no record, it holds nothing
  none_recorded : (t : Name) → is_top t ≡ true → is_committed t past ≡ true → stable_prepared opening x.guardian t past ≡ None
      → part_held c (standing_of x past) t ≡ None
  none_recorded t top h none =
      part_is_held c told (kept_on x past) t
      ∙ ap (λ ps. held_of (version_by c (standing_of x past) t) ps)
      (none_pass (is_held told t) (kept_on x past) (each_map _ _ (kept_on x past) (λ o w. false_from_ne_true _ (λ k. never o w (held_facts told t o.action top k)))
      (all_granted x past)))
    where
      never : (o : Performed) → WasGranted x o past → IsHeld told t o.action → ⊥
      never o w f = elim (recorded opening past x.guardian t prepared) [
        | inl q ↦ let e : None ≡ Some q.0 = sym none ∙ q.1 in absurd cc
        | inr k ↦ clash (and_from (was_told x.guardian t past) (is_committed t past) k h) f.untold
      ]
        where
          committed : (d : Name) → is_ancestor d o.action ≡ true → (b : Bool) → is_top d ≡ b → is_committed d past ≡ true
          committed d k true b = ap (λ y. is_committed y past) (one_top d t o.action b top k f.above) ∙ h
          committed d k false b = (and_parts (was_told x.guardian d past) (is_committed d past) (f.others d k b)).1

          prepared : has_prepared x.guardian t past ≡ true
          prepared =
              ap (λ y. has_prepared x.guardian y past) (sym (top_is_own t top) ∙ top_of_ancestor t o.action f.above)
              ∙ ap (λ y. has_prepared y.guardian (top_of o.action) past) (sym w.on)
              ∙ committed_prepared opening o w.event w.before w.grants w.came r (λ d k. committed d k (is_top d) refl)

  -- What comes of the record of a top action of the history.
  pub comes_to_rest : DecidedAreOlder opening → (t : Name) → is_begun t past ≡ true → is_top t ≡ true → (part : Option Part) (below : Content)
      → laid_where (settled_by opening x.guardian x.number past t part) below
      ≡ cond (is_committed t past) (laid_where (part_held (first_content opening x) (standing_of x past) t) (laid_where part below)) (laid_where part below)
  comes_to_rest older t b top part below = of (stable_prepared opening x.guardian t past) refl (is_committed t past) refl
    where
      decided : ℕ → Bool
      decided h = is_stably_decided opening h t past

      home_in_opening : (q : Prepared) → stable_prepared opening x.guardian t past ≡ Some q → IsGuardian opening q.home
      home_in_opening q e =
          subst (λ (p : Prepared). IsGuardian opening p.home) (sym (records_are_held opening past x.guardian t q r e)) (home_there opening past t r b)

      of : (o : Option Prepared) → stable_prepared opening x.guardian t past ≡ o → (d : Bool) → is_committed t past ≡ d
          → laid_where (settled_with o decided x.number part) below
          ≡ cond d (laid_where (part_held c (standing_of x past) t) (laid_where part below)) (laid_where part below)
      of None e false k = refl
      of None e true k = sym (ap (λ p. laid_where p (laid_where part below)) (none_recorded t top k e))
      of (Some q) e false k =
          ap (λ u. laid_where (cond u (installed_over (part_at q.parts x.number) part) part) below)
          (or_from ((opening.stores q.home).decided t) _ (undecided_before opening past t q.home older r (home_in_opening q e) b top)
          (and_left (list_any (λ d. step_decides d.step t) past) (home_of t past == q.home) (false_from_ne_true _ (λ d. clash (decided_committed t past d) k))))
      of (Some q) e true k =
          ap (λ u. laid_where (cond u (installed_over (part_at q.parts x.number) part) part) below) at_home
          ∙ laid_over (part_at q.parts x.number) part below
          ∙ ap (λ p. laid_where p (laid_where part below)) (part_recorded t q e)
        where
          at_home : decided q.home ≡ true
          at_home =
              ap (λ (p : Prepared). decided p.home) (records_are_held opening past x.guardian t q r e)
              ∙ or_right ((opening.stores (home_of t past)).decided t) _
              (and_from _ (home_of t past == home_of t past) (committed_decided opening past t r top k) (eqb_self (home_of t past)))
