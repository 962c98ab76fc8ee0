-- In a run a crash leaves of an object just what was written and added and is safe.
use Rattle.std.proofs.Common.{Bool, List, None, Option, Some, [], ap, ap₂, cond, false, inl, inr, is_none, is_some, map, not, refl, subst, sym, true, ℕ, ◌&&◌, ◌∙◌, ◌∷◌, ◌≡◌, ◌||◌}
use Rattle.std.proofs.lemmas.Bool.{and_from, and_parts, false_from_ne_true, false≢true, or_cases, or_left, or_right}
use Rattle.std.specs.List.{AllByRecursion}
use Rattle.action_names.specs.Names.{Name, is_ancestor, is_top, top_of}
use Rattle.atomic_types.specs.Operations.{is_read}
use Rattle.atomic_types.specs.declared.part.Part.{Part}
use Rattle.run_model.specs.declared.history.Event.{Event}
use Rattle.run_model.specs.declared.step.ObjectId.{ObjectId}
use Rattle.run_model.specs.Actions.{home_of, is_aborted, is_closed, is_committed, is_ended, is_exactly, step_commits}
use Rattle.run_model.specs.Keeping.{Performed, Standing, is_kept, kept_on, performed, prepared_after, same_object, undoes}
use Rattle.run_model.specs.LocalHistories.{Stamped, events_of, local_history}
use Rattle.run_model.specs.LocalReadings.{LocalEvent, events_here, kept_here, restored_here, told_committed_here}
use Rattle.run_model.specs.Openings.{Opening}
use Rattle.run_model.specs.Runs.{IsRun}
use Rattle.run_model.specs.StableContent.{Prepared, parts_held, stable_prepared, step_told}
use Rattle.run_model.specs.Telling.{holder_by, tells, told_committed, told_since_crash, was_told}
use Rattle.run_model.specs.Visibility.{has_prepared, votes_yes}
use Rattle.run_laws.specs.Laws.{Grants}
use Rattle.run_laws.proofs.Begun.{nameless}
use Rattle.run_laws.proofs.Each.{Each, each_filter}
use Rattle.run_laws.proofs.Ended.{not_both}
use Rattle.run_laws.proofs.Exchanged.{same_object_true}
use Rattle.run_laws.proofs.Granted.{IsGranted, each_performed, grant_parts, granting}
use Rattle.run_laws.proofs.Growth.{Follows, aborted_stays, here, later, run_before}
use Rattle.run_laws.proofs.Kept.{prepared_closed, prepared_when}
use Rattle.run_laws.proofs.Names.{clash, descendant_is_own, same_name_self, top_facts}
use Rattle.run_laws.proofs.NothingLost.{yes_facts}
use Rattle.local_laws.proofs.Beside.{all_told, held_facts}
use Rattle.local_laws.proofs.Kept.{Marked, standing_same}
use Rattle.local_laws.proofs.Orderly.{holder_is}
use Rattle.local_laws.proofs.Outcomes.{told_has_ended}
use Rattle.local_laws.proofs.Prepared.{NoneAborted, committed_prepared, one_top, told_below, top_told}
use Rattle.local_laws.proofs.Stable.{prepared_same}
use Rattle.local_laws.proofs.Told.{told_committed_same}
use Rattle.guardian_laws.specs.Crashes.{LeavesSafe, is_safe}
use Rattle.guardian_laws.proofs.Marks.{mark, marks_same}
use Rattle.guardian_laws.proofs.Undone.{after_prepared, kept_before, none_aborted, undone_by, unprepared_yet}

-- ---- records

-- a record is that of a top action on which the guardian voted yes
recorded_prepared : (opening : Opening) (g : ℕ) (t : Name) (past : List Event) → is_some (stable_prepared opening g t past) ≡ true → has_prepared g t past ≡ true
recorded_prepared opening g t [] h = absurd (false≢true h)
recorded_prepared opening g t (e ∷ past) h =
    of (λ k. recorded_prepared opening g t past k) (votes_yes e.step e.answer g t) refl (step_told e.step g t) h
  where
    made : Prepared
    made = record { home = home_of t past; parts = parts_held opening g t (e ∷ past) }

    of : (is_some (stable_prepared opening g t past) ≡ true → has_prepared g t past ≡ true)
        → (v : Bool) → votes_yes e.step e.answer g t ≡ v → (u : Bool) → is_some (cond v (Some made) (cond u None (stable_prepared opening g t past))) ≡ true
        → (votes_yes e.step e.answer g t || has_prepared g t past) ≡ true
    of rest true q u k = or_left _ _ q
    of rest false q true k = absurd (false≢true k)
    of rest false q false k = or_right (votes_yes e.step e.answer g t) _ (rest k)

prepared_top : (opening : Opening) (past : List Event) (g : ℕ) (t : Name) → IsRun opening past → has_prepared g t past ≡ true → is_top t ≡ true
prepared_top opening [] g t r h = absurd (false≢true h)
prepared_top opening (e ∷ past) g t r h = elim (or_cases (votes_yes e.step e.answer g t) (has_prepared g t past) h) [
  | inl k ↦ (yes_facts opening e past g t r k).top
  | inr k ↦ prepared_top opening past g t r.2 k
]

-- what was told committed stays so
told_more : (g : ℕ) (c : Name) (e : Event) (past : List Event) → told_committed g c past ≡ true → told_committed g c (e ∷ past) ≡ true
told_more g c e past h =
    let p = and_parts (was_told g c past) (is_committed c past) h in
    and_from _ _ (or_left (was_told g c past) _ p.0) (or_right (step_commits e.step c) _ p.1)

untold_before : (g : ℕ) (c : Name) (e : Event) (past : List Event) → told_committed g c (e ∷ past) ≡ false → told_committed g c past ≡ false
untold_before g c e past h = false_from_ne_true _ (λ k. clash (told_more g c e past k) h)

-- While something is kept that was granted before the vote, and the guardian was not told that the top action committed, its record is there.
record_kept : (opening : Opening) (o : Performed) (e : Event) (past : List Event) {now : List Event} → Grants o e past → Follows (e ∷ past) now
    → IsRun opening now → is_top (top_of o.action) ≡ true → is_ancestor (top_of o.action) o.action ≡ true → is_kept o now ≡ true
    → prepared_after o.number o.object.guardian (top_of o.action) now ≡ true → told_committed o.object.guardian (top_of o.action) now ≡ false
    → is_some (stable_prepared opening o.object.guardian (top_of o.action) now) ≡ true
record_kept opening o e past p here r top above k v n = absurd (clash v (unprepared_yet o e past o.object.guardian (top_of o.action) p))
record_kept opening o e past p (later {now = now} d w) r top above k v n =
    of (λ a b c. record_kept opening o e past p w r.2 top above a b c) (votes_yes d.step d.answer g t) refl (step_told d.step g t) refl
  where
    g : ℕ
    g = o.object.guardian

    t : Name
    t = top_of o.action

    made : Prepared
    made = record { home = home_of t now; parts = parts_held opening g t (d ∷ now) }

    rest : Option Prepared
    rest = stable_prepared opening g t now

    kept : (is_kept o now ≡ true) × (undoes d now o ≡ false)
    kept = kept_before o e past d p w k

    -- a telling would say that it committed, or undo the operation
    told : step_told d.step g t ≡ true → ⊥
    told s =
        let tells_it : tells d now g t ≡ true = top_told d.step g t (told_since_crash g t now) (is_ended t now) top ∙ s in
        elim (or_cases (is_committed t now) (is_aborted t now) (told_has_ended opening d now g t r tells_it)) [
          | inl c ↦ clash (and_from (was_told g t (d ∷ now)) (is_committed t (d ∷ now)) (or_right (was_told g t now) _ tells_it) (or_right (step_commits d.step t) _ c)) n
          | inr a ↦ clash (undone_by o d now t above tells_it a) kept.1
        ]

    before : votes_yes d.step d.answer g t ≡ false → prepared_after o.number g t now ≡ true
    before q = elim (or_cases (prepared_after o.number g t now) _ v) [
      | inl x ↦ x
      | inr x ↦ absurd (clash (and_parts _ (votes_yes d.step d.answer g t) x).1 q)
    ]

    of : (is_kept o now ≡ true → prepared_after o.number g t now ≡ true → told_committed g t now ≡ false → is_some rest ≡ true)
        → (y : Bool) → votes_yes d.step d.answer g t ≡ y → (z : Bool) → step_told d.step g t ≡ z
        → is_some (stable_prepared opening g t (d ∷ now)) ≡ true
    of before_it true q z m = ap (λ u. is_some (cond u (Some made) (cond (step_told d.step g t) None rest))) q
    of before_it false q true m = absurd (told m)
    of before_it false q false m =
        ap₂ (λ u z. is_some (cond u (Some made) (cond z None rest))) q m
        ∙ before_it kept.0 (before q) (untold_before g t d now n)

-- ---- what is safe

-- by the flat history
abbrev pub is_recorded : Opening → ℕ → List Event → Option Name → Bool
is_recorded opening g past None = true
is_recorded opening g past (Some a) = is_some (stable_prepared opening g a past)

-- both or neither
both : (a b : Bool) → (a ≡ true → b ≡ true) → (b ≡ true → a ≡ true) → a ≡ b
both true b f g = sym (f refl)
both false true f g = g refl
both false false f g = refl

-- An operation under no aborted subaction was granted before its guardian voted on its top action, where that did at all.
voted_since : (opening : Opening) (o : Performed) (e : Event) (past : List Event) {now : List Event} → Grants o e past → Follows (e ∷ past) now
    → IsRun opening now → NoneAborted o.action now → has_prepared o.object.guardian (top_of o.action) now ≡ true
    → prepared_after o.number o.object.guardian (top_of o.action) now ≡ true
voted_since opening o e past p w r n h = elim (prepared_when o e past g t p w h) [ inl x ↦ absurd (never x) | inr x ↦ x ]
  where
    g : ℕ
    g = o.object.guardian

    t : Name
    t = top_of o.action

    run_then : IsRun opening (e ∷ past)
    run_then = run_before opening w r

    given : IsGranted opening o.action o.object o.operation o.reply past
    given = granting opening o e past run_then p

    above : (is_top t ≡ true) × (is_ancestor t o.action ≡ true)
    above = top_facts o.action (nameless opening past o.action run_then.2 given.was_begun)

    -- an action that operates has not closed, and no subaction that does was told to have committed
    never : has_prepared g t past ≡ true → ⊥
    never x = of (is_top o.action) refl
      where
        own : is_ancestor o.action o.action ≡ true
        own = descendant_is_own t o.action above.1

        none : NoneAborted o.action (e ∷ past)
        none f l u = false_from_ne_true _ (λ y. clash (aborted_stays f w y) (n f l u))

        of : (u : Bool) → is_top o.action ≡ u → ⊥
        of true u =
            let is = one_top t o.action o.action above.0 u above.1 own in
            clash (or_right (is_ended o.action past) _ (ap (λ c. is_closed c past) (sym is) ∙ prepared_closed opening past g t run_then.2 x)) given.undone
        of false u =
            let told = told_below opening o e past p here run_then (or_right (votes_yes e.step e.answer g t) _ x) none o.action own u in
            elim (or_cases (step_commits e.step o.action) (is_committed o.action past) (and_parts (was_told g o.action (e ∷ past)) (is_committed o.action (e ∷ past)) told).1) [
              | inl y ↦ clash y (ap (λ s. step_commits s o.action) (grant_parts o e past p).0)
              | inr y ↦ clash (or_left (is_ended o.action past) _ (or_left (is_committed o.action past) _ y)) given.undone
            ]

-- Of what is kept just that is safe whose guardian voted yes on its top action since.
kept_safe : (opening : Opening) (o : Performed) (e : Event) (past now : List Event) → Grants o e past → Follows (e ∷ past) now
    → IsRun opening now → is_kept o now ≡ true
    → prepared_after o.number o.object.guardian (top_of o.action) now
    ≡ is_recorded opening o.object.guardian now (holder_by (λ c. told_committed o.object.guardian c now) o.action)
kept_safe opening o e past now p w r k = both _ _ (λ v. safe v (holder_by told o.action) refl) (λ h. since (holder_by told o.action) refl h)
  where
    g : ℕ
    g = o.object.guardian

    t : Name
    t = top_of o.action

    told : Name → Bool
    told c = told_committed g c now

    run_then : IsRun opening (e ∷ past)
    run_then = run_before opening w r

    above : (is_top t ≡ true) × (is_ancestor t o.action ≡ true)
    above = top_facts o.action (nameless opening past o.action run_then.2 (granting opening o e past run_then p).was_begun)

    committed : (c : Name) → told c ≡ true → is_committed c now ≡ true
    committed c h = (and_parts (was_told g c now) (is_committed c now) h).1

    unaborted : (c : Name) → told c ≡ true → is_aborted c now ≡ false
    unaborted c h = false_from_ne_true _ (λ a. not_both opening now c r (committed c h) a)

    safe : prepared_after o.number g t now ≡ true → (h : Option Name) → holder_by told o.action ≡ h → is_recorded opening g now h ≡ true
    safe v None q = refl
    safe v (Some a) q = of (is_top a) refl
      where
        held : (is_ancestor a o.action ≡ true) × (told a ≡ false)
        held = holder_is told o.action a q

        of : (u : Bool) → is_top a ≡ u → is_some (stable_prepared opening g a now) ≡ true
        of false u =
            let n = none_aborted opening o e past p w r k v in
            absurd (clash (told_below opening o e past p w r (after_prepared o.number g t now v) n a held.0 u) held.1)
        of true u =
            let is : t ≡ a = one_top t a o.action above.0 u above.1 held.0 in
            ap (λ c. is_some (stable_prepared opening g c now)) (sym is)
            ∙ record_kept opening o e past p w r above.0 above.1 k v (ap (λ c. told c) is ∙ held.1)

    since : (h : Option Name) → holder_by told o.action ≡ h → is_recorded opening g now h ≡ true → prepared_after o.number g t now ≡ true
    since None q h =
        let all = all_told told o.action (ap (λ m. is_none m) q) in
        voted_since opening o e past p w r (λ f l u. unaborted f (all f l))
        (committed_prepared opening o e past p w r (λ f l. committed f (all f l)))
    since (Some a) q h =
        let voted = recorded_prepared opening g a now h in
        let top = prepared_top opening now g a r voted in
        let held = held_facts told a o.action top (ap (λ m. is_exactly m a) q ∙ same_name_self a) in
        let is : a ≡ t = one_top a t o.action top above.0 held.above above.1 in
        voted_since opening o e past p w r (λ f l u. unaborted f (held.others f l u)) (ap (λ c. has_prepared g c now) (sym is) ∙ voted)

-- ---- in the guardian's own history

-- what a crash leaves, as it stands beside a mark
abbrev IsSafe : Opening → ℕ → List Event → Marked → Type 0
IsSafe opening g past m =
    (not (is_read m.0.operation) && m.1) ≡ (not (is_read m.0.operation) && is_recorded opening g past (holder_by (λ c. told_committed g c past) m.0.action))

all_safe : (opening : Opening) (past : List Event) (x : ObjectId) → IsRun opening past → Each (λ o. IsSafe opening x.guardian past (mark past o)) (kept_on x past)
all_safe opening past x r =
    each_filter _ (λ o. same_object o.object x && is_kept o past) (performed past)
    (each_performed past _ (λ o e before p w q.
    let k = and_parts (same_object o.object x) (is_kept o past) q in
    let on = ap (λ (y : ObjectId). y.guardian) (same_object_true o.object x k.0) in
    ap (λ t. not (is_read o.operation) && t)
    (kept_safe opening o e before past p w r k.1 ∙ ap (λ g. is_recorded opening g past (holder_by (λ c. told_committed g c past) o.action)) on)))

each_image : {X Y : Type 0} (P : Y → Type 0) (f : X → Y) (xs : List X) → Each (λ x. P (f x)) xs → Each P (map f xs)
each_image P f [] h = tt
each_image P f (x ∷ xs) h = (h.0, each_image P f xs h.1)

all_of_image : {X Y : Type 0} (P : Y → Type 0) (f : X → Y) (xs : List X) → Each P (map f xs) → AllByRecursion (λ x. P (f x)) xs
all_of_image P f [] h = tt
all_of_image P f (x ∷ xs) h = (h.0, all_of_image P f xs h.1)

all_more : {X : Type 0} (P Q : X → Type 0) (xs : List X) → ((x : X) → P x → Q x) → AllByRecursion P xs → AllByRecursion Q xs
all_more P Q [] f h = tt
all_more P Q (x ∷ xs) f h = (f x h.0, all_more P Q xs f h.1)

-- The law at each object: what a crash leaves is what is safe.
pub leaves_safe : (opening : Opening) (run : List Stamped) (x : ObjectId) → IsRun opening (events_of run)
    → LeavesSafe opening (local_history opening run x.guardian) x
leaves_safe opening run x r = record {
  kept = all_more (λ o. IsSafe opening g past (mark (events_here own) o)) _ (kept_here x own) (λ o h. h ∙ ap (λ t. not (is_read o.operation) && t) (sym (same o.action))) marked;
  restored =
      subst (λ (rs : List (Name × Part)). AllByRecursion (λ q. is_safe opening g own (holder_by (λ b. told_committed_here b own) q.0) ≡ true) rs)
      (sym nothing_back) tt;
}
  where
    g : ℕ
    g = x.guardian

    past : List Event
    past = events_of run

    own : List LocalEvent
    own = local_history opening run g

    -- the two histories say the same of who is safe
    recorded : (h : Option Name) → is_safe opening g own h ≡ is_recorded opening g past h
    recorded None = refl
    recorded (Some a) = ap (λ p. is_some p) (prepared_same opening run g a r)

    same : (a : Name) → is_safe opening g own (holder_by (λ b. told_committed_here b own) a) ≡ is_recorded opening g past (holder_by (λ c. told_committed g c past) a)
    same a =
        let moved : is_safe opening g own (holder_by (λ b. told_committed_here b own) a) ≡ is_safe opening g own (holder_by (λ c. told_committed g c past) a)
        = λ i. is_safe opening g own (holder_by (λ b. told_committed_same opening run g b r i) a) in
        moved ∙ recorded (holder_by (λ c. told_committed g c past) a)

    marked : AllByRecursion (λ o. IsSafe opening g past (mark (events_here own) o)) (kept_here x own)
    marked =
        all_of_image (IsSafe opening g past) (λ o. mark (events_here own) o) (kept_here x own)
        (subst (λ ms. Each (IsSafe opening g past) ms) (sym (marks_same opening run x r))
        (each_image (IsSafe opening g past) (λ o. mark past o) (kept_on x past) (all_safe opening past x r)))

    -- within a run nothing was given back
    nothing_back : restored_here x own ≡ []
    nothing_back = ap (λ (s : Standing). s.restored) (standing_same opening run x r)
