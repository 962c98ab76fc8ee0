-- What a guardian that has voted yes on a top action knows of what was done there below it.
use Rattle.std.proofs.Common.{Bool, List, Some, [], ap, arith, false, inl, inr, length, not, refl, subst, sym, true, ℕ, ◌&&◌, ◌<◌, ◌==◌, ◌∙◌, ◌∷◌, ◌≡◌, ◌≤◌, ◌||◌, ◌⊎◌, is_none}
use Rattle.std.proofs.lemmas.Bool.{and_from, and_left, and_parts, and_right, eqb-false, false_from_ne_true, false≢true, ltb-false, not-false, or_cases, or_from, or_left, or_parts, or_right, true_from_ne_false}
use Rattle.action_names.specs.Names.{Name, ancestors, has_name, is_ancestor, is_proper_ancestor, is_top, parent_of, same_name, top_of}
use Rattle.atomic_types.specs.Objects.{knows}
use Rattle.atomic_types.specs.Operations.{is_read}
use Rattle.std.specs.List.{list_any}
use Rattle.run_model.specs.declared.answer.Answer.{Answer}
use Rattle.run_model.specs.declared.answer.Answer.TheVariants.{VoteYes}
use Rattle.run_model.specs.declared.answer.Refusal.TheVariants as why
use Rattle.run_model.specs.declared.history.Event.{Event}
use Rattle.run_model.specs.declared.step.Step.{Step}
use Rattle.run_model.specs.declared.step.Step.TheVariants.{Op, Prepare, Tell}
use Rattle.run_model.specs.Actions.{begins, home_of, is_aborted, is_begun, is_committed, is_done, is_ended, names_begun, step_crashes}
use Rattle.run_model.specs.Dependencies.{dependency}
use Rattle.run_model.specs.Keeping.{Performed, outlives_crash, undoes}
use Rattle.run_model.specs.Openings.{Opening, first_content, objects_at}
use Rattle.run_model.specs.Refusals.{checks}
use Rattle.run_model.specs.Runs.{IsRun}
use Rattle.run_model.specs.StableContent.{step_told}
use Rattle.run_model.specs.Telling.{step_tells, tells, told_committed, told_since_crash, was_told}
use Rattle.run_model.specs.Visibility.{has_prepared, votes_yes}
use Rattle.run_laws.specs.Laws.{Grants}
use Rattle.run_laws.proofs.Accepted.{NoneApplies, checked, makes_facts}
use Rattle.run_laws.proofs.Active.{nothing_active_below_done}
use Rattle.run_laws.proofs.Begun.{ancestor_begun, begun_cases, begun_once, nameless, new_in_run}
use Rattle.run_laws.proofs.Depends.{depends_on_visible}
use Rattle.run_laws.proofs.Ended.{closed_begun, closed_committed, decided_at, undone_before, undone_from}
use Rattle.run_laws.proofs.Granted.{grant_parts, granting}
use Rattle.run_laws.proofs.Growth.{Follows, aborted_stays, any_stays, begun_stays, earlier, here, later, run_before}
use Rattle.run_laws.proofs.Homes.{home_stays}
use Rattle.run_laws.proofs.Kept.{prepared_closed, prepared_when}
use Rattle.run_laws.proofs.Names.{ancestor_both, ancestor_trans, ancestor_up, any_ancestor_use, clash, no_top, parent_ancestor, same_name_true, top_above, top_facts}
use Rattle.run_laws.proofs.NothingLost.{each_guardian, yes_facts}
use Rattle.run_laws.proofs.Settled.{settled_begun, settled_visible}

-- two top actions above one action are one
pub one_top : (f t b : Name) → is_top f ≡ true → is_top t ≡ true → is_ancestor f b ≡ true → is_ancestor t b ≡ true → f ≡ t
one_top f t b p q k l = ancestor_both f t (top_above f t b p k l) (top_above t f b q l k)

-- a yes vote is on a top action that has not ended, and begins nothing
votes_unended : (opening : Opening) (e : Event) (past : List Event) (g : ℕ) (t : Name) → IsRun opening (e ∷ past) → votes_yes e.step e.answer g t ≡ true
    → is_ended t past ≡ false
votes_unended opening e past g t r v = of e.step e.answer (checked opening e past r) v
  where
    of : (step : Step) (answer : Answer) → NoneApplies (checks opening step past) → votes_yes step answer g t ≡ true → is_ended t past ≡ false
    of (Prepare h b) VoteYes f v = ap (λ c. is_ended c past) (sym (same_name_true b t (and_parts _ _ v).1)) ∙ f why.Ended
    of _ _ f v = absurd (false≢true v)

votes_begin_nothing : (step : Step) (answer : Answer) (g : ℕ) (t c : Name) → votes_yes step answer g t ≡ true → has_name (names_begun answer) c ≡ false
votes_begin_nothing (Prepare h b) VoteYes g t c v = refl
votes_begin_nothing _ _ g t c v = absurd (false≢true v)

-- an aborted subaction above the action
abbrev IsUnderAborted : Name → List Event → Type 0
IsUnderAborted c past = (f : Name) × (is_ancestor f c ≡ true) × (is_top f ≡ false) × (is_aborted f past ≡ true)

under_more : (c : Name) (e : Event) (past : List Event) → IsUnderAborted c past → IsUnderAborted c (e ∷ past)
under_more c e past u = (u.0, u.1, u.2, or_right _ _ u.3)

-- what is active below a top action at the vote on it is under an aborted subaction
active_at_vote : (opening : Opening) (e : Event) (now : List Event) (g : ℕ) (t c : Name) → IsRun opening (e ∷ now)
    → votes_yes e.step e.answer g t ≡ true → is_begun c now ≡ true → is_done c now ≡ false → is_ancestor t c ≡ true → IsUnderAborted c now
active_at_vote opening e now g t c r v b u k =
    let yes = yes_facts opening e now g t r v in
    let (f, l, x) = nothing_active_below_done opening now t c r.2 b u k (or_right _ _ yes.closed) in
    let unaborted = (or_parts _ _ (votes_unended opening e now g t r v)).1 in
    (f, l, false_from_ne_true _ (λ q. clash (ap (λ d. is_aborted d now) (sym (one_top f t c q yes.top l k)) ∙ x) unaborted), x)

-- and so is all that is active there after the vote
active_under : (opening : Opening) (now : List Event) (g : ℕ) (t c : Name) → IsRun opening now → has_prepared g t now ≡ true
    → is_begun c now ≡ true → is_done c now ≡ false → is_ancestor t c ≡ true → IsUnderAborted c now
active_under opening [] g t c r p b u k = absurd (false≢true p)
active_under opening (e ∷ now) g t c r p b u k = under_more c e now (elim (or_cases _ _ p) [
  | inl v ↦ elim (begun_cases e now c b) [
    | inl m ↦ absurd (clash m (votes_begin_nothing e.step e.answer g t c v))
    | inr m ↦ active_at_vote opening e now g t c r v m (undone_before e now c u) k
  ]
  | inr q ↦ elim (begun_cases e now c b) [
    | inr m ↦ active_under opening now g t c r.2 q m (undone_before e now c u) k
    | inl m ↦ elim (ancestor_up t c k) [
      | inl l ↦ absurd (clash m (ap (λ x. begins e x) (sym l) ∙ begun_once opening e now t r (closed_begun opening now t r.2 (prepared_closed opening now g t r.2 q))))
      | inr l ↦ elim (new_in_run opening e now c r m).made [
        | inl n ↦ absurd (clash n (no_top t c l))
        | inr n ↦
            let f = makes_facts opening e now (parent_of c) r n in
            let above = active_under opening now g t (parent_of c) r.2 q f.0 f.1 l in
            (above.0, ancestor_trans above.0 (parent_of c) c above.1 (parent_ancestor c (no_top t c l) (nameless opening (e ∷ now) c r b)), above.2, above.3)
      ]
    ]
  ]
])

-- no subaction above it aborted
abbrev pub NoneAborted : Name → List Event → Type 0
NoneAborted b past = (f : Name) → is_ancestor f b ≡ true → is_top f ≡ false → is_aborted f past ≡ false

fewer_aborted : (b : Name) (e : Event) (past : List Event) → NoneAborted b (e ∷ past) → NoneAborted b past
fewer_aborted b e past n f k t = (or_parts _ _ (n f k t)).1

-- Such an operation was granted before its guardian voted on its top action.
granted_unprepared : (opening : Opening) (o : Performed) (e : Event) (past : List Event) → IsRun opening (e ∷ past) → Grants o e past → NoneAborted o.action past
    → has_prepared o.object.guardian (top_of o.action) past ≡ false
granted_unprepared opening o e past r p n = false_from_ne_true _ (λ h.
    let given = granting opening o e past r p in
    let top = top_facts o.action (nameless opening past o.action r.2 given.was_begun) in
    let u = active_under opening past o.object.guardian (top_of o.action) o.action r.2 h given.was_begun given.undone top.1 in
    clash u.3 (n u.0 u.1 u.2))

-- what was told since a crash was told
told_ever : (g : ℕ) (b : Name) (past : List Event) → told_since_crash g b past ≡ true → was_told g b past ≡ true
told_ever g b [] h = h
told_ever g b (e ∷ past) h = elim (or_cases _ _ (and_parts (not (step_crashes e.step g)) _ h).1) [
  | inl k ↦ or_left _ _ (told_ever g b past k)
  | inr k ↦ or_right (was_told g b past) _ k
]

-- A yes vote tells all that has ended below the top action.
vote_tells : (step : Step) (answer : Answer) (g : ℕ) (t c : Name) (told ended : Bool) → votes_yes step answer g t ≡ true → is_proper_ancestor t c ≡ true
    → ended ≡ true → (told ≡ true) ⊎ (step_tells step g c told ended ≡ true)
vote_tells (Prepare h b) VoteYes g t c true ended v k m = inl refl
vote_tells (Prepare h b) VoteYes g t c false ended v k m =
    let p = and_parts (h == g) (same_name b t) v in
    inr (and_from _ _ p.0 (and_from _ _ (ap (λ d. is_proper_ancestor d c) (same_name_true b t p.1) ∙ k) (and_from _ _ m refl)))
vote_tells _ _ g t c told ended v k m = absurd (false≢true v)

-- what was told committed stays so
told_more : (g : ℕ) (c : Name) (e : Event) (past : List Event) → told_committed g c past ≡ true → told_committed g c (e ∷ past) ≡ true
told_more g c e past h = let p = and_parts (was_told g c past) (is_committed c past) h in and_from _ _ (or_left _ _ p.0) (or_right _ _ p.1)

-- Once its guardian has voted yes on the top action, it was told that all between this and the operation's action committed.
pub told_below : (opening : Opening) (o : Performed) (e : Event) (past : List Event) {now : List Event} → Grants o e past → Follows (e ∷ past) now
    → IsRun opening now → has_prepared o.object.guardian (top_of o.action) now ≡ true → NoneAborted o.action now
    → (c : Name) → is_ancestor c o.action ≡ true → is_top c ≡ false → told_committed o.object.guardian c now ≡ true
told_below opening o e past p here r h n c k t = elim (or_cases _ _ h) [
  | inl v ↦ absurd (clash v (ap (λ s. votes_yes s e.answer o.object.guardian (top_of o.action)) (grant_parts o e past p).0))
  | inr v ↦ absurd (clash v (granted_unprepared opening o e past r p (fewer_aborted o.action e past n)))
]
told_below opening o e past p (later {now = now} d w) r h n c k t = elim (or_cases _ _ h) [
  | inr v ↦ told_more o.object.guardian c d now (told_below opening o e past p w r.2 v (fewer_aborted o.action d now n) c k t)
  | inl v ↦ at_vote v
]
  where
    g : ℕ
    g = o.object.guardian

    top : Name
    top = top_of o.action

    at_vote : votes_yes d.step d.answer g top ≡ true → told_committed g c (d ∷ now) ≡ true
    at_vote v =
        let yes = yes_facts opening d now g top r v in
        let run_then = run_before opening w r.2 in
        let given = granting opening o e past run_then p in
        let above = top_facts o.action (nameless opening past o.action run_then.2 given.was_begun) in
        let under = top_above top c o.action yes.top above.1 k in
        let was_begun = ancestor_begun opening now c o.action r.2 (begun_stays o.action (earlier w) given.was_begun) k in
        let unaborted = fewer_aborted o.action d now n in
        let committed : is_committed c now ≡ true = true_from_ne_false _ (λ x.
        let undone = undone_from c now x (unaborted c k t) (false_from_ne_true _ (λ y. clash (closed_committed opening now c r.2 t y) x)) in
        let u = active_at_vote opening d now g top c r v was_begun undone under in
        clash u.3 (unaborted u.0 (ancestor_trans u.0 c o.action u.1 k) u.2)) in
        let proper = and_from (is_ancestor top c) (not (same_name top c)) under (ap not (false_from_ne_true _ (λ q. clash (ap is_top (sym (same_name_true top c q)) ∙ yes.top) t))) in
        let told : was_told g c (d ∷ now) ≡ true = elim (vote_tells d.step d.answer g top c (told_since_crash g c now) (is_ended c now) v proper (or_left _ _ committed)) [
          | inl m ↦ or_left (was_told g c now) (tells d now g c) (told_ever g c now m)
          | inr m ↦ or_right (was_told g c now) (tells d now g c) m
        ] in
        and_from (was_told g c (d ∷ now)) (is_committed c (d ∷ now)) told (or_right _ _ committed)

-- what was checked at the grant of an operation
granted_checks : (opening : Opening) (o : Performed) (e : Event) (past : List Event) → IsRun opening (e ∷ past) → Grants o e past
    → NoneApplies (checks opening (Op o.action o.object o.operation) past)
granted_checks opening o e past r p =
    let P : Step → Type 0 = λ s. NoneApplies (checks opening s past) in subst P (grant_parts o e past p).0 (checked opening e past r)

granted_there : (opening : Opening) (o : Performed) (e : Event) (past : List Event) → IsRun opening (e ∷ past) → Grants o e past
    → (0 < o.object.guardian) × (o.object.guardian ≤ length opening.setup)
granted_there opening o e past r p =
    let q = or_parts _ _ (granted_checks opening o e past r p why.NoGuardian) in
    bounds o.object.guardian (length opening.setup) (eqb-false o.object.guardian 0 q.0) (ltb-false (length opening.setup) o.object.guardian q.1)
  where
    bounds : (g n : ℕ) → (g ≡ 0 → ⊥) → g ≤ n → (0 < g) × (g ≤ n)
    bounds g n h l = (omega arith, l)

pub granted_number : (opening : Opening) (o : Performed) (e : Event) (past : List Event) → IsRun opening (e ∷ past) → Grants o e past
    → (0 < o.object.number) × (o.object.number ≤ length (objects_at opening.setup o.object.guardian))
granted_number opening o e past r p =
    let q = or_parts _ _ (granted_checks opening o e past r p why.NoObject) in
    let n = length (objects_at opening.setup o.object.guardian) in
    bounds o.object.number n (eqb-false o.object.number 0 q.0) (ltb-false n o.object.number q.1)
  where
    bounds : (g n : ℕ) → (g ≡ 0 → ⊥) → g ≤ n → (0 < g) × (g ≤ n)
    bounds g n h l = (omega arith, l)

pub granted_known : (opening : Opening) (o : Performed) (e : Event) (past : List Event) → IsRun opening (e ∷ past) → Grants o e past
    → knows (first_content opening o.object) o.operation ≡ true
granted_known opening o e past r p = not-false _ (granted_checks opening o e past r p why.BadOp)

-- a guardian on which a top action depends, where all of those are ready
participant_ready : (t : Name) (g h n : ℕ) (past : List Event) → h ≡ g → dependency t h past ≡ Some n
    → (is_none (dependency t g past) || has_prepared g t past) ≡ true → has_prepared g t past ≡ true
participant_ready t g h n past e d k =
    ap (λ o. is_none o || has_prepared g t past) (sym (ap (λ m. dependency t m past) (sym e) ∙ d)) ∙ k

-- Where all above an operation committed, its guardian had voted yes on the top action.
pub committed_prepared : (opening : Opening) (o : Performed) (e : Event) (past : List Event) {now : List Event} → Grants o e past → Follows (e ∷ past) now
    → IsRun opening now → ((f : Name) → is_ancestor f o.action ≡ true → is_committed f now ≡ true)
    → has_prepared o.object.guardian (top_of o.action) now ≡ true
committed_prepared opening o e past {now = now} p w r all =
    let run_then = run_before opening w r in
    let given = granting opening o e past run_then p in
    let top = top_facts o.action (nameless opening past o.action run_then.2 given.was_begun) in
    let (mid, v, d) = decided_at opening t now r top.0 (all t top.1) in
    let begun_then = settled_begun opening t o.action v here r all d.closed top.1 (begun_stays o.action (earlier w) given.was_begun) in
    let visible_then = settled_visible opening t o.action v r all top.0 d.closed top.1 begun_then in
    let depends = depends_on_visible opening mid t o.action (run_before opening v r) begun_then top.1 visible_then in
    let home : home_of o.action mid ≡ g = sym (home_stays opening o.action v r begun_then) ∙ home_stays opening o.action (earlier w) r given.was_begun ∙ given.home in
    let there = granted_there opening o e past run_then p in
    let ready = each_guardian (λ h. is_none (dependency t h mid) || has_prepared h t mid) (length opening.setup) g d.ready there.0 there.1 in
    any_stays (λ x. votes_yes x.step x.answer g t) v (participant_ready t g (home_of o.action mid) depends.least mid home depends.is_least ready)
  where
    g : ℕ
    g = o.object.guardian

    t : Name
    t = top_of o.action

-- nothing is above a top action but itself
pub above_top : (b t : Name) → is_top t ≡ true → is_ancestor b t ≡ same_name b t
above_top b [] k = absurd (false≢true k)
above_top [] (x ∷ []) k = refl
above_top (m ∷ []) (x ∷ []) k = refl
above_top (m ∷ l ∷ b) (x ∷ []) k = refl
above_top b (x ∷ y ∷ t) k = absurd (false≢true k)

-- of a top action a guardian is told by its telling alone
pub top_told : (step : Step) (g : ℕ) (t : Name) (told ended : Bool) → is_top t ≡ true → step_tells step g t told ended ≡ step_told step g t
top_told (Tell h a) g t told ended k = refl
top_told (Prepare h b) g t told ended k =
    and_right (h == g) _ (and_left (is_proper_ancestor b t) (ended && not told) (not_proper b t k))
  where
    not_proper : (b t : Name) → is_top t ≡ true → is_proper_ancestor b t ≡ false
    not_proper b t k = ap (λ u. u && not (same_name b t)) (above_top b t k) ∙ never_both (same_name b t)
      where
        never_both : (u : Bool) → (u && not u) ≡ false
        never_both true = refl
        never_both false = refl
top_told _ g t told ended k = refl

-- A write or an add that is not under an aborted subaction stays, once its guardian has voted yes on its top action, until that is told
-- to have aborted.
pub not_undone : (opening : Opening) (o : Performed) (e : Event) (past : List Event) (d : Event) {now : List Event} → Grants o e past
    → Follows (e ∷ past) now → IsRun opening now → has_prepared o.object.guardian (top_of o.action) now ≡ true → NoneAborted o.action now
    → (step_told d.step o.object.guardian (top_of o.action) && is_aborted (top_of o.action) now) ≡ false → is_read o.operation ≡ false
    → undoes d now o ≡ false
not_undone opening o e past d {now = now} p w r h n untold write = or_from _ _ (false_from_ne_true _ aborts) (and_right (step_crashes d.step g) _ (ap not outlives))
  where
    g : ℕ
    g = o.object.guardian

    t : Name
    t = top_of o.action

    run_then : IsRun opening (e ∷ past)
    run_then = run_before opening w r

    top : (is_top t ≡ true) × (is_ancestor t o.action ≡ true)
    top = top_facts o.action (nameless opening past o.action run_then.2 (granting opening o e past run_then p).was_begun)

    aborts : list_any (λ c. tells d now g c && is_aborted c now) (ancestors o.action) ≡ true → ⊥
    aborts x =
        let (c, k, q) = any_ancestor_use (λ c. tells d now g c && is_aborted c now) o.action x in
        let y = and_parts (tells d now g c) (is_aborted c now) q in
        of c k y.0 y.1 (is_top c) refl
      where
        of : (c : Name) → is_ancestor c o.action ≡ true → tells d now g c ≡ true → is_aborted c now ≡ true → (u : Bool) → is_top c ≡ u → ⊥
        of c k y z false u = clash z (n c k u)
        of c k y z true u =
            let is : c ≡ t = one_top c t o.action u top.0 k top.1 in
            let told = ap (λ b. step_told d.step g b) (sym is) ∙ sym (top_told d.step g c (told_since_crash g c now) (is_ended c now) u) ∙ y in
            clash (and_from (step_told d.step g t) (is_aborted t now) told (ap (λ b. is_aborted b now) (sym is) ∙ z)) untold

    outlives : outlives_crash o now ≡ true
    outlives = elim (prepared_when o e past g t p w h) [
      | inl x ↦ absurd (clash x (granted_unprepared opening o e past run_then p (λ f k u. false_from_ne_true _ (λ y. clash (aborted_stays f (earlier w) y) (n f k u)))))
      | inr x ↦ and_from (not (is_read o.operation)) _ (ap not write) x
    ]
