-- What a yes vote leaves on an object of what was granted before it: nothing under an aborted subaction.
use Rattle.std.proofs.Common.{Bool, List, [], ap, arith, false, inl, inr, length, nat_lt, not, refl, subst, suc, sym, true, ℕ, ◌&&◌, ◌==◌, ◌∙◌, ◌∷◌, ◌≡◌, ◌≤◌, ◌||◌, ◌⊎◌}
use Rattle.std.proofs.lemmas.Bool.{and_from, and_parts, false_from_ne_true, false≢true, not-true, or_cases, or_from, or_left, or_parts, or_right}
use Rattle.action_names.specs.Names.{Name, is_ancestor, is_proper_ancestor, is_top, same_name, top_of}
use Rattle.run_model.specs.declared.answer.Answer.{Answer}
use Rattle.run_model.specs.declared.answer.Answer.TheVariants.{VoteYes}
use Rattle.run_model.specs.declared.answer.Refusal.TheVariants as why
use Rattle.run_model.specs.declared.history.Event.{Event}
use Rattle.run_model.specs.declared.step.Step.{Step}
use Rattle.run_model.specs.declared.step.Step.TheVariants.{Op, Prepare}
use Rattle.run_model.specs.Actions.{is_aborted, is_committed, is_ended, step_aborts, step_commits, step_crashes}
use Rattle.run_model.specs.Keeping.{Performed, is_kept, prepared_after, undoes}
use Rattle.run_model.specs.Lists.{is_known_orphan, knows_abort}
use Rattle.run_model.specs.Openings.{Opening}
use Rattle.run_model.specs.Refusals.{checks}
use Rattle.run_model.specs.Runs.{IsRun}
use Rattle.run_model.specs.Telling.{step_tells, tells, told_since_crash, was_told}
use Rattle.run_model.specs.Visibility.{has_prepared, votes_yes}
use Rattle.run_laws.specs.Laws.{Grants}
use Rattle.run_laws.proofs.Accepted.{NoneApplies, aborts_unended, checked}
use Rattle.run_laws.proofs.Begun.{nameless}
use Rattle.run_laws.proofs.Ended.{not_both}
use Rattle.run_laws.proofs.Granted.{grant_parts, granted_before, granting}
use Rattle.run_laws.proofs.Growth.{Follows, here, later, run_before}
use Rattle.run_laws.proofs.Kept.{kept_next}
use Rattle.run_laws.proofs.Names.{any_ancestor_from, clash, same_name_true, top_above, top_facts}
use Rattle.local_laws.proofs.Outcomes.{told_has_ended}
use Rattle.local_laws.proofs.Prepared.{NoneAborted, told_below}
use Rattle.local_laws.proofs.Told.{was_told_ended}
use Rattle.guardian_laws.proofs.Marks.{prepared_low}

-- ---- what is told to have aborted is known

-- what had ended, and has aborted, had aborted
pub had_aborted : (opening : Opening) (e : Event) (past : List Event) (b : Name) → IsRun opening (e ∷ past) → is_ended b past ≡ true
    → is_aborted b (e ∷ past) ≡ true → is_aborted b past ≡ true
had_aborted opening e past b r h k = elim (or_cases (is_committed b past) (is_aborted b past) h) [
  | inl x ↦ absurd (not_both opening (e ∷ past) b r (or_right (step_commits e.step b) _ x) k)
  | inr x ↦ x
]

-- what was told since a crash was told
told_ever : (g : ℕ) (b : Name) (past : List Event) → told_since_crash g b past ≡ true → was_told g b past ≡ true
told_ever g b [] h = h
told_ever g b (e ∷ past) h = elim (or_cases _ _ (and_parts (not (step_crashes e.step g)) _ h).1) [
  | inl k ↦ or_left _ _ (told_ever g b past k)
  | inr k ↦ or_right (was_told g b past) _ k
]

told_ended : (opening : Opening) (past : List Event) (g : ℕ) (b : Name) → IsRun opening past → told_since_crash g b past ≡ true → is_ended b past ≡ true
told_ended opening past g b r h = was_told_ended opening past g b r (told_ever g b past h)

told_known : (opening : Opening) (past : List Event) (g : ℕ) (b : Name) → IsRun opening past → told_since_crash g b past ≡ true
    → is_aborted b past ≡ true → knows_abort g b past ≡ true
told_known opening [] g b r h k = absurd (false≢true h)
told_known opening (e ∷ past) g b r h k =
    let p = and_parts (not (step_crashes e.step g)) (told_since_crash g b past || tells e past g b) h in
    and_from (not (step_crashes e.step g)) _ p.0 (elim (or_cases (told_since_crash g b past) (tells e past g b) p.1) [
      | inl x ↦ or_left _ _ (told_known opening past g b r.2 x (had_aborted opening e past b r (told_ended opening past g b r.2 x) k))
      | inr x ↦
          let now = and_from (tells e past g b) (is_aborted b past) x (had_aborted opening e past b r (told_has_ended opening e past g b r x) k) in
          or_right (knows_abort g b past) _ (or_left _ _ now)
    ])

-- ---- nothing is kept under an action that was told to have aborted

-- such a telling undoes the operation
pub undone_by : (o : Performed) (d : Event) (now : List Event) (f : Name) → is_ancestor f o.action ≡ true → tells d now o.object.guardian f ≡ true
    → is_aborted f now ≡ true → undoes d now o ≡ true
undone_by o d now f l t a =
    or_left _ _ (any_ancestor_from (λ c. tells d now o.object.guardian c && is_aborted c now) o.action f l
    (and_from (tells d now o.object.guardian f) (is_aborted f now) t a))

-- what is kept was kept, and the event leaves it
pub kept_before : (o : Performed) (e : Event) (past : List Event) (d : Event) {now : List Event} → Grants o e past → Follows (e ∷ past) now
    → is_kept o (d ∷ now) ≡ true → (is_kept o now ≡ true) × (undoes d now o ≡ false)
kept_before o e past d {now = now} p w k =
    let q = and_parts (is_kept o now) (not (undoes d now o)) (sym (kept_next o d now (granted_before o e past p w)) ∙ k) in
    (q.0, not-true _ q.1)

-- an action that operates is no known orphan
operates_known : (opening : Opening) (o : Performed) (e : Event) (past : List Event) → IsRun opening (e ∷ past) → Grants o e past
    → is_known_orphan opening o.action o.object.guardian past ≡ false
operates_known opening o e past r p =
    let P : Step → Type 0 = λ s. NoneApplies (checks opening s past) in
    let asked : NoneApplies (checks opening (Op o.action o.object o.operation) past) = subst P (grant_parts o e past p).0 (checked opening e past r) in
    ap (λ h. is_known_orphan opening o.action h past) (sym (granting opening o e past r p).home) ∙ asked why.Orphan

untold_above : (opening : Opening) (o : Performed) (e : Event) (past : List Event) {now : List Event} → Grants o e past → Follows (e ∷ past) now
    → IsRun opening now → is_kept o now ≡ true → (f : Name) → is_ancestor f o.action ≡ true → is_aborted f now ≡ true
    → told_since_crash o.object.guardian f now ≡ true → ⊥
untold_above opening o e past p here r k f l a t = clash orphan (operates_known opening o e past r p)
  where
    g : ℕ
    g = o.object.guardian

    step_is : e.step ≡ Op o.action o.object o.operation
    step_is = (grant_parts o e past p).0

    aborted : is_aborted f past ≡ true
    aborted = elim (or_cases (step_aborts e.step f) (is_aborted f past) a) [
      | inl x ↦ absurd (clash x (ap (λ s. step_aborts s f) step_is))
      | inr x ↦ x
    ]

    told : told_since_crash g f past ≡ true
    told = elim (or_cases (told_since_crash g f past) (tells e past g f) (and_parts (not (step_crashes e.step g)) _ t).1) [
      | inl x ↦ x
      | inr x ↦ absurd (clash x (ap (λ s. step_tells s g f (told_since_crash g f past) (is_ended f past)) step_is))
    ]

    orphan : is_known_orphan opening o.action g past ≡ true
    orphan = or_left _ _ (any_ancestor_from (λ c. knows_abort g c past) o.action f l (told_known opening past g f r.2 told aborted))
untold_above opening o e past p (later {now = now} d w) r k f l a t = elim (or_cases (told_since_crash g f now) (tells d now g f) parts.1) [
  | inl x ↦
      let ended = told_ended opening now g f r.2 x in
      untold_above opening o e past p w r.2 kept.0 f l (had_aborted opening d now f r ended a) x
  | inr x ↦
      let ended = told_has_ended opening d now g f r x in
      clash (undone_by o d now f l x (had_aborted opening d now f r ended a)) kept.1
]
  where
    g : ℕ
    g = o.object.guardian

    kept : (is_kept o now ≡ true) × (undoes d now o ≡ false)
    kept = kept_before o e past d p w k

    parts : (not (step_crashes d.step g) ≡ true) × ((told_since_crash g f now || tells d now g f) ≡ true)
    parts = and_parts (not (step_crashes d.step g)) (told_since_crash g f now || tells d now g f) t

-- ---- at a vote and after it

-- a yes vote aborts nothing
votes_abort_nothing : (step : Step) (answer : Answer) (g : ℕ) (t f : Name) → votes_yes step answer g t ≡ true → step_aborts step f ≡ false
votes_abort_nothing (Prepare h b) VoteYes g t f v = refl
votes_abort_nothing _ _ g t f v = absurd (false≢true v)

-- it tells all that has ended below the top action
vote_tells : (step : Step) (answer : Answer) (g : ℕ) (t f : Name) (told : Bool) → votes_yes step answer g t ≡ true → is_proper_ancestor t f ≡ true
    → (told ≡ true) ⊎ (step_tells step g f told true ≡ true)
vote_tells (Prepare h b) VoteYes g t f true v k = inl refl
vote_tells (Prepare h b) VoteYes g t f false v k =
    let p = and_parts (h == g) (same_name b t) v in
    inr (and_from _ _ p.0 (and_from _ _ (ap (λ d. is_proper_ancestor d f) (same_name_true b t p.1) ∙ k) refl))
vote_tells _ _ g t f told v k = absurd (false≢true v)

-- what was prepared after a number was prepared
pub after_prepared : (n g : ℕ) (t : Name) (past : List Event) → prepared_after n g t past ≡ true → has_prepared g t past ≡ true
after_prepared n g t [] h = h
after_prepared n g t (e ∷ past) h = elim (or_cases (prepared_after n g t past) _ h) [
  | inl x ↦ or_right (votes_yes e.step e.answer g t) _ (after_prepared n g t past x)
  | inr x ↦ or_left _ _ (and_parts (nat_lt n (suc (length past))) _ x).1
]

-- at its own event nothing has prepared its top action since
pub unprepared_yet : (o : Performed) (e : Event) (past : List Event) (g : ℕ) (t : Name) → Grants o e past → prepared_after o.number g t (e ∷ past) ≡ false
unprepared_yet o e past g t p = prepared_low o.number g t (e ∷ past) (at_most (length past) o.number p.0)
  where
    at_most : (m n : ℕ) → n ≡ suc m → suc m ≤ n
    at_most m n h = omega arith

-- Nothing is kept under an aborted subaction once its guardian has voted yes on the top action.
pub none_aborted : (opening : Opening) (o : Performed) (e : Event) (past : List Event) {now : List Event} → Grants o e past → Follows (e ∷ past) now
    → IsRun opening now → is_kept o now ≡ true → prepared_after o.number o.object.guardian (top_of o.action) now ≡ true → NoneAborted o.action now
none_aborted opening o e past p here r k v = absurd (clash v (unprepared_yet o e past o.object.guardian (top_of o.action) p))
none_aborted opening o e past p (later {now = now} d w) r k v = elim (or_cases (prepared_after o.number g t now) _ v) [
  | inl x ↦ after_vote x (none_aborted opening o e past p w r.2 kept.0 x)
  | inr x ↦ at_vote (and_parts (nat_lt o.number (suc (length now))) _ x).1
]
  where
    g : ℕ
    g = o.object.guardian

    t : Name
    t = top_of o.action

    kept : (is_kept o now ≡ true) × (undoes d now o ≡ false)
    kept = kept_before o e past d p w k

    -- all of it had committed
    after_vote : prepared_after o.number g t now ≡ true → NoneAborted o.action now → NoneAborted o.action (d ∷ now)
    after_vote x before f l u = or_from (step_aborts d.step f) _ (false_from_ne_true _ ends) (before f l u)
      where
        ends : step_aborts d.step f ≡ true → ⊥
        ends y =
            let told = told_below opening o e past p w r.2 (after_prepared o.number g t now x) before f l u in
            clash (and_parts (was_told g f now) (is_committed f now) told).1 (or_parts _ _ (aborts_unended opening d now f r y)).0

    -- the vote would undo it
    at_vote : votes_yes d.step d.answer g t ≡ true → NoneAborted o.action (d ∷ now)
    at_vote y f l u = false_from_ne_true _ (λ a. undone (aborted a) (vote_tells d.step d.answer g t f (told_since_crash g f now) y proper))
      where
        run_then : IsRun opening (e ∷ past)
        run_then = run_before opening w r.2

        above : (is_top t ≡ true) × (is_ancestor t o.action ≡ true)
        above = top_facts o.action (nameless opening past o.action run_then.2 (granting opening o e past run_then p).was_begun)

        proper : is_proper_ancestor t f ≡ true
        proper = and_from (is_ancestor t f) (not (same_name t f)) (top_above t f o.action above.0 above.1 l)
            (ap not (false_from_ne_true _ (λ q. clash (ap is_top (sym (same_name_true t f q)) ∙ above.0) u)))

        aborted : is_aborted f (d ∷ now) ≡ true → is_aborted f now ≡ true
        aborted a = elim (or_cases (step_aborts d.step f) (is_aborted f now) a) [
          | inl x ↦ absurd (clash x (votes_abort_nothing d.step d.answer g t f y))
          | inr x ↦ x
        ]

        undone : is_aborted f now ≡ true → (told_since_crash g f now ≡ true) ⊎ (step_tells d.step g f (told_since_crash g f now) true ≡ true) → ⊥
        undone a (inl m) = untold_above opening o e past p w r.2 kept.0 f l a m
        undone a (inr m) =
            let ended : is_ended f now ≡ true = or_right (is_committed f now) _ a in
            clash (undone_by o d now f l (ap (λ b. step_tells d.step g f (told_since_crash g f now) b) ended ∙ m) a) kept.1
