-- What one event changes of what belongs to an object's base and of what a top action holds there.
use Rattle.std.proofs.Common.{Bool, List, [], ap, ap₂, cond, false, filter, inl, inr, length, not, refl, suc, sym, true, ℕ, ◌&&◌, ◌++◌, ◌∙◌, ◌∷◌, ◌≡◌, ◌||◌, ◌⊎◌}
use Rattle.std.proofs.lemmas.Bool.{and_from, and_left, and_parts, and_right, false_from_ne_true, false≢true, not-true, or_cases, or_from, or_left, or_parts, or_right, true≢false}
use Rattle.std.proofs.lemmas.List.Elements.{filter-append}
use Rattle.std.specs.List.{list_any}
use Rattle.action_names.specs.Names.{Name, ancestors, is_ancestor, is_top, top_of}
use Rattle.atomic_types.specs.Operations.{is_read}
use Rattle.run_model.specs.declared.answer.Answer.{Answer}
use Rattle.run_model.specs.declared.answer.Answer.TheVariants.{Granted}
use Rattle.run_model.specs.declared.history.Event.{Event}
use Rattle.run_model.specs.declared.step.ObjectId.{ObjectId}
use Rattle.run_model.specs.declared.step.Step.{Step}
use Rattle.run_model.specs.declared.step.Step.TheVariants.{Op, Tell}
use Rattle.run_model.specs.Actions.{is_aborted, is_closed, is_committed, is_ended, step_commits, step_crashes}
use Rattle.run_model.specs.Keeping.{Performed, is_kept, outlives_crash, kept_on, performed, performed_by, same_object, undoes}
use Rattle.run_model.specs.Openings.{Opening}
use Rattle.run_model.specs.Runs.{IsRun}
use Rattle.run_model.specs.StableContent.{step_told}
use Rattle.run_model.specs.Telling.{tells, told_committed, told_since_crash, was_told}
use Rattle.run_model.specs.Visibility.{has_prepared}
use Rattle.run_laws.specs.Laws.{Grants}
use Rattle.run_laws.proofs.Each.{Each, each_both, each_filter, each_map}
use Rattle.run_laws.proofs.Begun.{nameless}
use Rattle.run_laws.proofs.Ended.{commits_unended, not_both}
use Rattle.run_laws.proofs.Exchanged.{same_object_true}
use Rattle.run_laws.proofs.Granted.{each_performed, granting}
use Rattle.run_laws.proofs.Growth.{Follows, run_before}
use Rattle.run_laws.proofs.Kept.{prepared_closed}
use Rattle.run_laws.proofs.Names.{any_ancestor_from, clash, descendant_is_own, same_name_true, top_facts}
use Rattle.local_laws.proofs.Beside.{IsBeside, IsHeld, all_told, held_facts, held_from, told_all}
use Rattle.local_laws.proofs.Kept.{filter_same, kept_more}
use Rattle.local_laws.proofs.Prepared.{NoneAborted, committed_prepared, not_undone, one_top, told_below, top_told}
use Rattle.local_laws.proofs.Told.{commit_tells_nothing, was_told_ended}
use Rattle.local_laws.proofs.Written.{held_by, in_base, is_held, writing}

-- ---- lists

filter_twice : (p q : Performed → Bool) (os : List Performed) → filter p (filter q os) ≡ filter (λ o. p o && q o) os
filter_twice p q [] = refl
filter_twice p q (o ∷ os) = of (q o) (p o) refl (filter_twice p q os)
  where
    of : (s t : Bool) → p o ≡ t → filter p (filter q os) ≡ filter (λ o. p o && q o) os
        → filter p (cond s (o ∷ filter q os) (filter q os)) ≡ cond (t && s) (o ∷ filter (λ o. p o && q o) os) (filter (λ o. p o && q o) os)
    of true true e ih = ap (λ u. cond u (o ∷ filter p (filter q os)) (filter p (filter q os))) e ∙ ap (λ ps. o ∷ ps) ih
    of true false e ih = ap (λ u. cond u (o ∷ filter p (filter q os)) (filter p (filter q os))) e ∙ ih
    of false true e ih = ih
    of false false e ih = ih

pub none_pass : (p : Performed → Bool) (os : List Performed) → Each (λ o. p o ≡ false) os → filter p os ≡ []
none_pass p [] h = refl
none_pass p (o ∷ os) h = ap (λ u. cond u (o ∷ filter p os) (filter p os)) h.0 ∙ none_pass p os h.1

-- two tests that agree once reads are left out
agree : (p q : Performed → Bool) (os : List Performed) → Each (λ o. is_read o.operation ≡ false → p o ≡ q o) os
    → writing (filter p os) ≡ writing (filter q os)
agree p q os h =
    filter_twice (λ o. not (is_read o.operation)) p os
    ∙ filter_same (λ o. not (is_read o.operation) && p o) (λ o. not (is_read o.operation) && q o) os (each_map _ _ os (λ o k. of o (is_read o.operation) refl k) h)
    ∙ sym (filter_twice (λ o. not (is_read o.operation)) q os)
  where
    of : (o : Performed) (t : Bool) → is_read o.operation ≡ t → (is_read o.operation ≡ false → p o ≡ q o)
        → (not (is_read o.operation) && p o) ≡ (not (is_read o.operation) && q o)
    of o true e k = and_left _ _ (ap not e) ∙ sym (and_left _ _ (ap not e))
    of o false e k = ap (λ u. not (is_read o.operation) && u) (k e)

-- both or neither
both : (a b : Bool) → (a ≡ true → b ≡ true) → (b ≡ true → a ≡ true) → a ≡ b
both true b f g = sym (f refl)
both false true f g = g refl
both false false f g = refl

-- ---- what was granted, and kept

pub record WasGranted (x : ObjectId) (o : Performed) (past : List Event) : Type 0 where
  pub event : Event
  pub before : List Event
  pub grants : Grants o event before
  pub came : Follows (event ∷ before) past
  pub on : o.object ≡ x

pub all_granted : (x : ObjectId) (past : List Event) → Each (λ o. WasGranted x o past) (kept_on x past)
all_granted x past =
    each_filter _ (λ o. same_object o.object x && is_kept o past) (performed past)
    (each_performed past _ (λ o e before g w k. record {
      event = e;
      before = before;
      grants = g;
      came = w;
      on = same_object_true o.object x (and_parts _ _ k).0;
    }))

new_grants : (e : Event) (past : List Event) → Each (λ o. Grants o e past) (performed_by (suc (length past)) e.step e.answer)
new_grants e past = of e.step e.answer
  where
    of : (step : Step) (answer : Answer)
        → Each (λ o. (o.number ≡ suc (length past)) × (performed_by o.number step answer ≡ o ∷ [])) (performed_by (suc (length past)) step answer)
    of (Op a y o) (Granted r) = ((refl, refl), tt)
    of _ _ = tt

-- What an event makes of a part of what is kept, but for reads: it adds nothing to the part, and of older operations it leaves those.
pub next_kept : (x : ObjectId) (e : Event) (past : List Event) (p q : Performed → Bool)
    → ((o : Performed) → Grants o e past → p o ≡ false)
    → Each (λ o. is_read o.operation ≡ false → (p o && not (undoes e past o)) ≡ q o) (kept_on x past)
    → writing (filter p (kept_on x (e ∷ past))) ≡ writing (filter q (kept_on x past))
next_kept x e past p q new old =
    ap (λ os. writing (filter p os)) (kept_more x e past)
    ∙ ap writing (filter-append p (filter (λ o. same_object o.object x) granted) (filter (λ o. not (undoes e past o)) (kept_on x past)))
    ∙ ap₂ (λ os ps. writing (os ++ ps))
    (none_pass p (filter (λ o. same_object o.object x) granted) (each_filter _ (λ o. same_object o.object x) granted (each_map _ _ granted (λ o g k. new o g) (new_grants e past))))
    (filter_twice p (λ o. not (undoes e past o)) (kept_on x past))
    ∙ agree (λ o. p o && not (undoes e past o)) q (kept_on x past) old
  where
    granted : List Performed
    granted = performed_by (suc (length past)) e.step e.answer

-- ---- what is told

-- one event more of what was told committed
pub told_next : (opening : Opening) (e : Event) (past : List Event) (g : ℕ) (b : Name) → IsRun opening (e ∷ past)
    → told_committed g b (e ∷ past) ≡ (told_committed g b past || (tells e past g b && is_committed b past))
told_next opening e past g b r = next (step_commits e.step b) (was_told g b past) (tells e past g b) (is_committed b past) refl refl refl
  where
    next : (c w t k : Bool) → step_commits e.step b ≡ c → was_told g b past ≡ w → tells e past g b ≡ t
        → ((w || t) && (c || k)) ≡ ((w && k) || (t && k))
    next false true true true x y z = refl
    next false true true false x y z = refl
    next false true false true x y z = refl
    next false true false false x y z = refl
    next false false true k x y z = refl
    next false false false k x y z = refl
    next true true t k x y z = absurd (true≢false (sym (was_told_ended opening past g b r.2 y) ∙ commits_unended opening e past b r x))
    next true false true k x y z = absurd (true≢false (sym z ∙ commit_tells_nothing e.step g b (told_since_crash g b past) (is_ended b past) x))
    next true false false k x y z = refl

-- one run, one event more, and one object
module _ (opening : Opening) (e : Event) (past : List Event) (r : IsRun opening (e ∷ past)) (x : ObjectId) where
  abbrev told : Name → Bool
  told c = told_committed x.guardian c past

  abbrev told_then : Name → Bool
  told_then c = told_committed x.guardian c (e ∷ past)

  still_told : (c : Name) → told c ≡ true → told_then c ≡ true
  still_told c h = told_next opening e past x.guardian c r ∙ or_left _ _ h

  untold_before : (c : Name) → told_then c ≡ false → told c ≡ false
  untold_before c h = (or_parts _ _ (sym (told_next opening e past x.guardian c r) ∙ h)).0

  -- what is told committed had committed
  had_committed : (c : Name) → told_then c ≡ true → is_committed c past ≡ true
  had_committed c h = elim (or_cases _ _ (sym (told_next opening e past x.guardian c r) ∙ h)) [
    | inl k ↦ (and_parts (was_told x.guardian c past) (is_committed c past) k).1
    | inr k ↦ (and_parts (tells e past x.guardian c) (is_committed c past) k).1
  ]

  not_aborted : (c : Name) → is_committed c past ≡ true → is_aborted c past ≡ false
  not_aborted c h = false_from_ne_true _ (λ k. not_both opening past c r.2 h k)

  -- where it is told now that a top action committed, the step tells just that
  newly_told : (t : Name) → is_top t ≡ true → told t ≡ false → told_then t ≡ true → (step_told e.step x.guardian t ≡ true) × (is_committed t past ≡ true)
  newly_told t k n h = elim (or_cases _ _ (sym (told_next opening e past x.guardian t r) ∙ h)) [
    | inl y ↦ absurd (clash y n)
    | inr y ↦
        let p = and_parts (tells e past x.guardian t) (is_committed t past) y in
        (sym (top_told e.step x.guardian t (told_since_crash x.guardian t past) (is_ended t past) k) ∙ p.0, p.1)
  ]

  told_by_it : (t : Name) → is_top t ≡ true → step_told e.step x.guardian t ≡ true → is_committed t past ≡ true → told_then t ≡ true
  told_by_it t k s h =
      told_next opening e past x.guardian t r
      ∙ or_right (told t) _ (and_from (tells e past x.guardian t) (is_committed t past) (top_told e.step x.guardian t (told_since_crash x.guardian t past) (is_ended t past) k ∙ s) h)

  -- the top action of an operation
  top_is : (o : Performed) → WasGranted x o past → (is_top (top_of o.action) ≡ true) × (is_ancestor (top_of o.action) o.action ≡ true)
  top_is o w =
      let run = run_before opening w.came r.2 in
      top_facts o.action (nameless opening w.before o.action run.2 (granting opening o w.event w.before run w.grants).was_begun)

  -- where all above it committed, its guardian had prepared its top action
  is_prepared : (o : Performed) → WasGranted x o past → ((c : Name) → is_ancestor c o.action ≡ true → is_committed c past ≡ true)
      → has_prepared x.guardian (top_of o.action) past ≡ true
  is_prepared o w all =
      ap (λ y. has_prepared y.guardian (top_of o.action) past) (sym w.on) ∙ committed_prepared opening o w.event w.before w.grants w.came r.2 all

  -- and once it had, was told of all below the top action
  is_told : (o : Performed) → WasGranted x o past → has_prepared x.guardian (top_of o.action) past ≡ true → NoneAborted o.action past
      → (c : Name) → is_ancestor c o.action ≡ true → is_top c ≡ false → told c ≡ true
  is_told o w h n c k t =
      ap (λ y. told_committed y.guardian c past) (sym w.on)
      ∙ told_below opening o w.event w.before w.grants w.came r.2 (ap (λ y. has_prepared y.guardian (top_of o.action) past) w.on ∙ h) n c k t

  stays : (o : Performed) → WasGranted x o past → has_prepared x.guardian (top_of o.action) past ≡ true → NoneAborted o.action past
      → (step_told e.step x.guardian (top_of o.action) && is_aborted (top_of o.action) past) ≡ false → is_read o.operation ≡ false
      → not (undoes e past o) ≡ true
  stays o w h n s k =
      ap not (not_undone opening o w.event w.before e w.grants w.came r.2 (ap (λ y. has_prepared y.guardian (top_of o.action) past) w.on ∙ h) n
      (ap (λ y. step_told e.step y.guardian (top_of o.action) && is_aborted (top_of o.action) past) w.on ∙ s) k)

  -- ---- the base

  base_after : (o : Performed) → in_base told o ≡ true → in_base told_then o ≡ true
  base_after o h = told_all told_then o.action (λ c k. still_told c (all_told told o.action h c k))

  base_stays_there : (o : Performed) → WasGranted x o past → in_base told o ≡ true → is_read o.operation ≡ false → not (undoes e past o) ≡ true
  base_stays_there o w h k =
      let committed = λ (c : Name) (l : is_ancestor c o.action ≡ true). (and_parts (was_told x.guardian c past) (is_committed c past) (all_told told o.action h c l)).1 in
      stays o w (is_prepared o w committed) (λ f l u. not_aborted f (committed f l))
      (and_right (step_told e.step x.guardian (top_of o.action)) _ (not_aborted (top_of o.action) (committed (top_of o.action) (top_is o w).1))) k

  -- what the event brings to the base was held by a top action that it tells
  record IsBrought (o : Performed) : Type 0 where
    pub prepared : has_prepared x.guardian (top_of o.action) past ≡ true
    pub untold : told (top_of o.action) ≡ false
    pub told_now : told_then (top_of o.action) ≡ true
    pub held : is_held told (top_of o.action) o ≡ true

  base_before : (o : Performed) → WasGranted x o past → in_base told_then o ≡ true → (in_base told o ≡ true) ⊎ IsBrought o
  base_before o w h = of (told (top_of o.action)) refl
    where
      committed : (c : Name) → is_ancestor c o.action ≡ true → is_committed c past ≡ true
      committed c k = had_committed c (all_told told_then o.action h c k)

      below : (c : Name) → is_ancestor c o.action ≡ true → is_top c ≡ false → told c ≡ true
      below = is_told o w (is_prepared o w committed) (λ f l u. not_aborted f (committed f l))

      of : (t : Bool) → told (top_of o.action) ≡ t → (in_base told o ≡ true) ⊎ IsBrought o
      of true q = inl (told_all told o.action (λ c k. each c k (is_top c) refl))
        where
          each : (c : Name) → is_ancestor c o.action ≡ true → (u : Bool) → is_top c ≡ u → told c ≡ true
          each c k false u = below c k u
          each c k true u = ap told (one_top c (top_of o.action) o.action u (top_is o w).0 k (top_is o w).1) ∙ q
      of false q = inr (record {
        prepared = is_prepared o w committed;
        untold = q;
        told_now = all_told told_then o.action h (top_of o.action) (top_is o w).1;
        held = held_from told (top_of o.action) o.action (top_is o w).0 (record { above = (top_is o w).1; untold = q; others = below });
      })

  -- a new operation belongs to its own action, which has not committed
  new_untold : (o : Performed) → Grants o e past → told_then o.action ≡ false
  new_untold o p = false_from_ne_true _ (λ h. clash (or_left _ _ (or_left _ _ (had_committed o.action h))) (granting opening o e past r p).undone)

  new_above : (o : Performed) → Grants o e past → is_ancestor o.action o.action ≡ true
  new_above o p =
      descendant_is_own (top_of o.action) o.action (top_facts o.action (nameless opening past o.action r.2 (granting opening o e past r p).was_begun)).1

  new_no_base : (o : Performed) → Grants o e past → in_base told_then o ≡ false
  new_no_base o p = false_from_ne_true _ (λ h. clash (all_told told_then o.action h o.action (new_above o p)) (new_untold o p))

  -- ---- what a top action holds on which the guardian has voted yes

  module _ (t : Name) (top : is_top t ≡ true) (voted : has_prepared x.guardian t past ≡ true) where
    new_not_held : (o : Performed) → Grants o e past → is_held told_then t o ≡ false
    new_not_held o p = false_from_ne_true _ (λ h. of (held_facts told_then t o.action top h) (is_top o.action) refl)
      where
        of : IsHeld told_then t o.action → (u : Bool) → is_top o.action ≡ u → ⊥
        of h false u = clash (h.others o.action (new_above o p) u) (new_untold o p)
        of h true u =
            let is : o.action ≡ t = one_top o.action t o.action u top (new_above o p) h.above in
            clash (or_right (is_ended o.action past) _ (ap (λ c. is_closed c past) is ∙ prepared_closed opening past x.guardian t r.2 voted))
            (granting opening o e past r p).undone

    own_top : (o : Performed) → WasGranted x o past → is_ancestor t o.action ≡ true → top_of o.action ≡ t
    own_top o w h = one_top (top_of o.action) t o.action (top_is o w).0 top (top_is o w).1 h

    held_before : (o : Performed) → WasGranted x o past → is_held told_then t o ≡ true → is_held told t o ≡ true
    held_before o w h =
        let f = held_facts told_then t o.action top h in
        let unaborted = λ (c : Name) (k : is_ancestor c o.action ≡ true) (u : is_top c ≡ false). not_aborted c (had_committed c (f.others c k u)) in
        held_from told t o.action top (record {
          above = f.above;
          untold = untold_before t f.untold;
          others = is_told o w (ap (λ c. has_prepared x.guardian c past) (own_top o w f.above) ∙ voted) unaborted;
        })

    held_after : (o : Performed) → told_then t ≡ false → is_held told t o ≡ true → is_held told_then t o ≡ true
    held_after o n h =
        let f = held_facts told t o.action top h in
        held_from told_then t o.action top (record { above = f.above; untold = n; others = λ c k u. still_told c (f.others c k u) })

    held_moves : (o : Performed) → told_then t ≡ true → is_held told t o ≡ true → in_base told_then o ≡ true
    held_moves o n h = told_all told_then o.action (λ c k. each c k (is_top c) refl)
      where
        f : IsHeld told t o.action
        f = held_facts told t o.action top h

        each : (c : Name) → is_ancestor c o.action ≡ true → (u : Bool) → is_top c ≡ u → told_then c ≡ true
        each c k false u = still_told c (f.others c k u)
        each c k true u = ap told_then (one_top c t o.action u top k f.above) ∙ n

    held_stays : (o : Performed) → WasGranted x o past → (step_told e.step x.guardian t && is_aborted t past) ≡ false → is_held told t o ≡ true
        → is_read o.operation ≡ false → not (undoes e past o) ≡ true
    held_stays o w s h k =
        let f = held_facts told t o.action top h in
        let is = own_top o w f.above in
        stays o w (ap (λ c. has_prepared x.guardian c past) is ∙ voted)
        (λ c l u. not_aborted c (and_parts (was_told x.guardian c past) (is_committed c past) (f.others c l u)).1)
        (ap (λ c. step_told e.step x.guardian c && is_aborted c past) is ∙ s) k

  -- ---- the whole of it

  -- where nothing is told that had been prepared, the base stays
  pub base_stays : ((t : Name) → step_told e.step x.guardian t ≡ true → is_committed t past ≡ true → has_prepared x.guardian t past ≡ true → ⊥)
      → writing (filter (in_base told_then) (kept_on x (e ∷ past))) ≡ writing (filter (in_base told) (kept_on x past))
  base_stays none =
      next_kept x e past (in_base told_then) (in_base told) new_no_base
      (each_map _ _ (kept_on x past) (λ o w k. both _ _ (λ h. before o w (and_parts _ _ h).0) (λ h. and_from _ _ (base_after o h) (base_stays_there o w h k))) (all_granted x past))
    where
      before : (o : Performed) → WasGranted x o past → in_base told_then o ≡ true → in_base told o ≡ true
      before o w h = elim (base_before o w h) [
        | inl y ↦ y
        | inr y ↦
            let n = newly_told (top_of o.action) (top_is o w).0 y.untold y.told_now in
            absurd (none (top_of o.action) n.0 n.1 y.prepared)
      ]

  module _ (t : Name) (top : is_top t ≡ true) (voted : has_prepared x.guardian t past ≡ true) where
    -- when t is told, nothing comes to the base but what t held
    at_telling : (o : Performed) → WasGranted x o past → step_told e.step x.guardian t ≡ true → in_base told_then o ≡ true
        → (in_base told o || is_held told t o) ≡ true
    at_telling o w s h = elim (base_before o w h) [
      | inl y ↦ or_left _ _ y
      | inr y ↦
          let n = newly_told (top_of o.action) (top_is o w).0 y.untold y.told_now in
          or_right _ _ (ap (λ c. is_held told c o) (sym (one_told e.step x.guardian (top_of o.action) t n.0 s)) ∙ y.held)
    ]
      where
        one_told : (step : Step) (h : ℕ) (a b : Name) → step_told step h a ≡ true → step_told step h b ≡ true → a ≡ b
        one_told (Tell k c) h a b m n = sym (same_name_true c a (and_parts _ _ m).1) ∙ same_name_true c b (and_parts _ _ n).1
        one_told _ h a b m n = absurd (false≢true m)

    -- once t is told committed, what it held belongs to the base
    pub base_moves : step_told e.step x.guardian t ≡ true → is_committed t past ≡ true
        → writing (filter (in_base told_then) (kept_on x (e ∷ past))) ≡ writing (filter (λ o. in_base told o || is_held told t o) (kept_on x past))
    base_moves s c =
        next_kept x e past (in_base told_then) (λ o. in_base told o || is_held told t o) new_no_base
        (each_map _ _ (kept_on x past) (λ o w k. both _ _ (λ h. at_telling o w s (and_parts _ _ h).0) (λ h. after o w k (or_cases _ _ h))) (all_granted x past))
      where
        after : (o : Performed) → WasGranted x o past → is_read o.operation ≡ false → (in_base told o ≡ true) ⊎ (is_held told t o ≡ true)
            → (in_base told_then o && not (undoes e past o)) ≡ true
        after o w k (inl h) = and_from _ _ (base_after o h) (base_stays_there o w h k)
        after o w k (inr h) =
            and_from _ _ (held_moves t top voted o (told_by_it t top s c) h)
            (held_stays t top voted o w (and_right (step_told e.step x.guardian t) _ (not_aborted t c)) h k)

    -- until it is told, it holds what it held
    pub held_same : step_told e.step x.guardian t ≡ false → told_then t ≡ false
        → writing (held_by told_then t (kept_on x (e ∷ past))) ≡ writing (held_by told t (kept_on x past))
    held_same s n =
        next_kept x e past (is_held told_then t) (is_held told t) (new_not_held t top voted)
        (each_map _ _ (kept_on x past)
        (λ o w k. both _ _ (λ h. held_before t top voted o w (and_parts _ _ h).0)
        (λ h. and_from _ _ (held_after t top voted o n h) (held_stays t top voted o w (and_left _ _ s) h k)))
        (all_granted x past))

    -- and beside a write of it the base stays
    pub version_same : step_told e.step x.guardian t ≡ false → told_then t ≡ false → Each (IsBeside told t) (kept_on x past)
        → writing (filter (λ o. in_base told_then o || is_held told_then t o) (kept_on x (e ∷ past)))
        ≡ writing (filter (λ o. in_base told o || is_held told t o) (kept_on x past))
    version_same s n beside =
        next_kept x e past (λ o. in_base told_then o || is_held told_then t o) (λ o. in_base told o || is_held told t o)
        (λ o p. or_from _ _ (new_no_base o p) (new_not_held t top voted o p))
        (each_both _ _ _ (kept_on x past) (λ o w b k. both _ _ (λ h. before o w b (or_cases _ _ (and_parts _ _ h).0)) (λ h. after o w k (or_cases _ _ h)))
        (all_granted x past) beside)
      where
        before : (o : Performed) → WasGranted x o past → IsBeside told t o → (in_base told_then o ≡ true) ⊎ (is_held told_then t o ≡ true)
            → (in_base told o || is_held told t o) ≡ true
        before o w b (inr h) = or_right _ _ (held_before t top voted o w h)
        before o w b (inl h) = elim (base_before o w h) [
          | inl y ↦ or_left _ _ y
          | inr y ↦ absurd (clash (ap told_then (sym (b y.untold (top_is o w).1)) ∙ y.told_now) n)
        ]

        after : (o : Performed) → WasGranted x o past → is_read o.operation ≡ false → (in_base told o ≡ true) ⊎ (is_held told t o ≡ true)
            → ((in_base told_then o || is_held told_then t o) && not (undoes e past o)) ≡ true
        after o w k (inl h) = and_from _ _ (or_left _ _ (base_after o h)) (base_stays_there o w h k)
        after o w k (inr h) = and_from _ _ (or_right _ _ (held_after t top voted o n h)) (held_stays t top voted o w (and_left _ _ s) h k)

    -- once it is told, it holds nothing but reads
    pub held_no_more : step_told e.step x.guardian t ≡ true → is_ended t past ≡ true
        → writing (held_by told_then t (kept_on x (e ∷ past))) ≡ writing (filter (λ o. false) (kept_on x past))
    held_no_more s h =
        next_kept x e past (is_held told_then t) (λ o. false) (new_not_held t top voted)
        (each_map _ _ (kept_on x past) (λ o w k. false_from_ne_true _ (λ y. of o w (and_parts _ _ y).0 (and_parts _ _ y).1 (or_cases _ _ h))) (all_granted x past))
      where
        of : (o : Performed) → WasGranted x o past → is_held told_then t o ≡ true → not (undoes e past o) ≡ true
            → (is_committed t past ≡ true) ⊎ (is_aborted t past ≡ true) → ⊥
        of o w y z (inl c) = clash (told_by_it t top s c) (held_facts told_then t o.action top y).untold
        of o w y z (inr a) =
            let above = (held_facts told_then t o.action top y).above in
            let tells_it = top_told e.step x.guardian t (told_since_crash x.guardian t past) (is_ended t past) top ∙ s in
            let here = and_from (tells e past x.guardian t) (is_aborted t past) tells_it a in
            let aborts = any_ancestor_from (λ c. tells e past x.guardian c && is_aborted c past) o.action t above here in
            clash (ap (λ y. list_any (λ c. tells e past y.guardian c && is_aborted c past) (ancestors o.action) || rest o) w.on ∙ or_left _ (rest o) aborts) (not-true _ z)
          where
            rest : Performed → Bool
            rest o = step_crashes e.step o.object.guardian && not (outlives_crash o past)
