-- What is visible to an action that is no orphan is kept, but for reads that a crash dropped once their top action had closed.
use Rattle.std.proofs.Common.{Bool, List, [], ap, arith, eq-eqb, false, inl, inr, length, not, refl, suc, sym, true, ℕ, ◌&&◌, ◌++◌, ◌<◌, ◌||◌, ◌∙◌, ◌∷◌, ◌≡◌, ◌≤◌, ◌⊎◌}
use Rattle.std.proofs.lemmas.Bool.{and_from, and_left, and_parts, and_right, false_from_ne_true, false≢true, lt-ltb, ne_eqb, not-true, or_cases, or_left, or_parts, or_right}
use Rattle.action_names.specs.Names.{Name, is_ancestor, same_name, top_of}
use Rattle.atomic_types.specs.Operations.{is_read}
use Rattle.run_model.specs.declared.history.Event.{Event}
use Rattle.run_model.specs.Actions.{begun, home_of, is_aborted, is_begun, is_closed, is_committed, step_crashes}
use Rattle.run_model.specs.Keeping.{Performed, is_kept, outlives_crash, prepared_after, undoes}
use Rattle.run_model.specs.Openings.{Opening}
use Rattle.run_model.specs.Runs.{IsRun}
use Rattle.run_model.specs.Telling.{tells}
use Rattle.run_model.specs.Visibility.{has_prepared, is_lost, is_orphan, is_visible, votes_yes}
use Rattle.run_laws.specs.Laws.{Grants, KeptNeverAgain, VisibleIsKept}
use Rattle.run_laws.proofs.Active.{nothing_active_below_done}
use Rattle.run_laws.proofs.Begun.{nameless}
use Rattle.run_laws.proofs.Ended.{not_both}
use Rattle.run_laws.proofs.Granted.{IsGranted, grant_parts, granted_before, granting}
use Rattle.run_laws.proofs.Growth.{Follows, aborted_stays, begun_stays, came_from, closed_stays, earlier, followed, follows_from, follows_through, here, later, lost_stays, run_before}
use Rattle.run_laws.proofs.Homes.{home_stays}
use Rattle.run_laws.proofs.Names.{any_ancestor_use, any_name, clash, no_ancestor_use, same_name_self, top_facts, top_of_ancestor}
use Rattle.run_laws.proofs.NothingLost.{nothing_lost_under_committed, yes_facts}
use Rattle.run_laws.proofs.Visible.{visible_from, visible_use}

-- nothing visible to an action that is no orphan has an aborted ancestor
never_aborted : (opening : Opening) (now : List Event) (a b f : Name) → IsRun opening now → is_orphan a now ≡ false
    → is_visible b a now ≡ true
    → is_ancestor f b ≡ true → is_aborted f now ≡ true → ⊥
never_aborted opening now a b f r n v k h = elim (visible_use b a f now v k) [
  | inl l ↦ clash h (no_ancestor_use (λ c. is_aborted c now) a f (or_parts _ _ n).0 l)
  | inr l ↦ not_both opening now f r l h
]

-- and nothing that is visible to it is lost
never_lost : (opening : Opening) (now : List Event) (a b : Name) → IsRun opening now → is_begun b now ≡ true → is_orphan a now ≡ false
    → is_visible b a now ≡ true → is_lost b now ≡ true → ⊥
never_lost opening now a b r h n v l = decide (same_name (top_of b) (top_of a)) refl
  where
    decide : (t : Bool) → same_name (top_of b) (top_of a) ≡ t → ⊥
    decide true e =
        let lost = λ (d : Name). same_name (top_of d) (top_of a) && (is_lost d now && is_visible d a now) in
        clash (any_name lost (begun now) b h (and_from _ _ e (and_from _ _ l v))) (or_parts _ _ n).1
    decide false e =
        let top = top_facts b (nameless opening now b r h) in
        let seen = visible_from b (top_of b) now (λ f k. inr (committed f k)) in
        clash l (nothing_lost_under_committed opening now r (top_of b) b top.0 (committed (top_of b) top.1) top.1 seen)
      where
        -- b is of another tree, of which nothing is above a
        committed : (f : Name) → is_ancestor f b ≡ true → is_committed f now ≡ true
        committed f k = elim (visible_use b a f now v k) [
          | inl m ↦
              let one_tree = sym (top_of_ancestor f b k) ∙ top_of_ancestor f a m in
              absurd (clash (ap (λ z. same_name z (top_of a)) one_tree ∙ same_name_self (top_of a)) e)
          | inr m ↦ m
        ]

-- what was prepared had closed
pub prepared_closed : (opening : Opening) (past : List Event) (g : ℕ) (t : Name) → IsRun opening past → has_prepared g t past ≡ true
    → is_closed t past ≡ true
prepared_closed opening [] g t r h = absurd (false≢true h)
prepared_closed opening (e ∷ past) g t r h = or_right _ _ (elim (or_cases _ _ h) [
  | inl k ↦ (yes_facts opening e past g t r k).closed
  | inr k ↦ prepared_closed opening past g t r.2 k
])

-- g prepared t before an operation or after it
pub prepared_when : (o : Performed) (e : Event) (past : List Event) (g : ℕ) (t : Name) {mid : List Event} → Grants o e past
    → Follows (e ∷ past) mid → has_prepared g t mid ≡ true
    → (has_prepared g t past ≡ true) ⊎ (prepared_after o.number g t mid ≡ true)
prepared_when o e past g t p here h = elim (or_cases _ _ h) [
  | inl k ↦ absurd (clash k (ap (λ s. votes_yes s e.answer g t) (grant_parts o e past p).0))
  | inr k ↦ inl k
]
prepared_when o e past g t p (later {now = now} k w) h = elim (or_cases _ _ h) [
  | inl v ↦
      inr (or_right _ _ (and_from _ _ (lt-ltb o.number (suc (length now)) (le_suc o.number (length now) (granted_before o e past p w))) v))
  | inr v ↦ elim (prepared_when o e past g t p w v) [ inl x ↦ inl x | inr x ↦ inr (or_left _ _ x) ]
]
  where
    le_suc : (m n : ℕ) → m ≤ n → m < suc n
    le_suc m n h = omega arith

-- all above an operation that stays visible to an action that is no orphan was open when it was granted
pub open_above : (opening : Opening) (o : Performed) (e : Event) (past : List Event) (a : Name) {end : List Event} → Grants o e past
    → Follows (e ∷ past) end → IsRun opening end
    → is_orphan a end ≡ false → is_visible o.action a end ≡ true → (d : Name) → is_ancestor d o.action ≡ true → is_closed d past ≡ false
open_above opening o e past a {end = end} p w r n s d k = false_from_ne_true _ (λ h.
    let run = run_before opening w r in
    let given = granting opening o e past run p in
    let (f, l, x) = nothing_active_below_done opening past d o.action run.2 given.was_begun given.undone k (or_right _ _ h) in
    never_aborted opening end a o.action f r n s l (aborted_stays f (earlier w) x))

-- What undoes an operation that stays visible to an action that is no orphan is a crash, and the operation is a read whose top
-- action had closed.
undone_facts : (opening : Opening) (o : Performed) (e : Event) (past : List Event) (a : Name) (k : Event) {mid end : List Event}
    → Grants o e past → Follows (e ∷ past) mid
    → Follows (k ∷ mid) end → IsRun opening end → is_orphan a end ≡ false → is_visible o.action a end ≡ true → undoes k mid o ≡ true
    → (is_read o.operation ≡ true) × (is_closed (top_of o.action) mid ≡ true) × (step_crashes k.step o.object.guardian ≡ true)
undone_facts opening o e past a k {mid = mid} {end = end} p w v r n s u = elim (or_cases _ _ u) [
  | inl x ↦
      let (c, l, q) = any_ancestor_use (λ c. tells k mid g c && is_aborted c mid) b x in
      absurd (never_aborted opening end a b c r n s l (aborted_stays c (earlier v) (and_parts _ _ q).1))
  | inr x ↦ let y = and_parts _ _ x in crashed y.0 (not-true _ y.1) (has_prepared g t mid) refl (is_read o.operation) refl
]
  where
    g : ℕ
    g = o.object.guardian

    b : Name
    b = o.action

    t : Name
    t = top_of o.action

    run : IsRun opening mid
    run = run_before opening (earlier v) r

    run_then : IsRun opening (e ∷ past)
    run_then = run_before opening w run

    given : IsGranted opening o.action o.object o.operation o.reply past
    given = granting opening o e past run_then p

    -- where the crash came before g prepared, b is lost
    lost : step_crashes k.step g ≡ true → has_prepared g t mid ≡ false → ⊥
    lost c x =
        let known = begun_stays b (earlier w) given.was_begun in
        let home = home_stays opening b (earlier w) run given.was_begun ∙ given.home in
        let crash : step_crashes k.step (home_of b mid) ≡ true = ap (λ h. step_crashes k.step h) home ∙ c in
        let unprepared : not (has_prepared (home_of b mid) t mid) ≡ true = ap (λ h. not (has_prepared h t mid)) home ∙ ap not x in
        never_lost opening end a b r (begun_stays b (earlier v) known) n s
        (lost_stays b v (or_right _ _ (and_from _ _ known (and_from _ _ crash unprepared))))

    crashed : step_crashes k.step g ≡ true → outlives_crash o mid ≡ false → (x : Bool) → has_prepared g t mid ≡ x → (y : Bool)
        → is_read o.operation ≡ y
        → (is_read o.operation ≡ true) × (is_closed t mid ≡ true) × (step_crashes k.step g ≡ true)
    crashed c q false ex y ey = absurd (lost c ex)
    crashed c q true ex true ey = (ey, prepared_closed opening mid g t run ex, c)
    crashed c q true ex false ey = absurd (elim (prepared_when o e past g t p w ex) [
      | inl z ↦
          let top = top_facts b (nameless opening past b run_then.2 given.was_begun) in
          clash (prepared_closed opening past g t run_then.2 z) (open_above opening o e past a p (follows_through w (earlier v)) r n s t top.1)
      | inr z ↦ clash (and_from _ _ (ap not ey) z) q
    ])

-- after its own event an operation is kept as long as nothing undoes it
pub kept_next : (o : Performed) (e : Event) (past : List Event) → o.number ≤ length past
    → is_kept o (e ∷ past) ≡ (is_kept o past && not (undoes e past o))
kept_next o e past l = ap (λ t. t || (is_kept o past && not (undoes e past o))) (ne_eqb o.number (suc (length past)) (λ q. omega arith))

-- a crash dropped the operation, whose top action had closed
pub record IsDropped (o : Performed) (now : List Event) : Type 0 where
  pub crash : Event
  pub before : List Event
  pub came : Follows (crash ∷ before) now
  pub crashes : step_crashes crash.step o.object.guardian ≡ true
  pub kept : is_kept o before ≡ true
  pub dropped : is_kept o (crash ∷ before) ≡ false
  pub closed : is_closed (top_of o.action) before ≡ true

-- what is visible to an action that is no orphan at the end is kept, or it is a read that was so dropped
kept_or_dropped : (opening : Opening) (o : Performed) (e : Event) (past : List Event) (a : Name) {mid end : List Event} → Grants o e past
    → Follows (e ∷ past) mid → Follows mid end → IsRun opening end → is_orphan a end ≡ false → is_visible o.action a end ≡ true
    → (is_kept o mid ≡ true) ⊎ ((is_read o.operation ≡ true) × IsDropped o mid)
kept_or_dropped opening o e past a p here v r n s = inl (or_left _ _ (eq-eqb o.number (suc (length past)) p.0))
kept_or_dropped opening o e past a p (later {now = now} k w) v r n s = elim (kept_or_dropped opening o e past a p w (earlier v) r n s) [
  | inr x ↦ inr (x.0, still x.1)
  | inl x ↦ decide x (undoes k now o) refl
]
  where
    still : IsDropped o now → IsDropped o (k ∷ now)
    still d = record {
      crash = d.crash;
      before = d.before;
      came = later k d.came;
      crashes = d.crashes;
      kept = d.kept;
      dropped = d.dropped;
      closed = d.closed;
    }

    next : is_kept o (k ∷ now) ≡ (is_kept o now && not (undoes k now o))
    next = kept_next o k now (granted_before o e past p w)

    decide : is_kept o now ≡ true → (t : Bool) → undoes k now o ≡ t
        → (is_kept o (k ∷ now) ≡ true) ⊎ ((is_read o.operation ≡ true) × IsDropped o (k ∷ now))
    decide x false u = inl (next ∙ and_from _ _ x (ap not u))
    decide x true u =
        let f = undone_facts opening o e past a k p w v r n s u in
        let gone = next ∙ and_right _ _ (ap not u) in
        inr (f.0, record { crash = k; before = now; came = here; crashes = f.2; kept = x; dropped = gone; closed = f.1 })

-- so it is kept, or it is a read whose top action has closed
pub kept_or_closed : (opening : Opening) (o : Performed) (e : Event) (past : List Event) (a : Name) {mid end : List Event} → Grants o e past
    → Follows (e ∷ past) mid → Follows mid end → IsRun opening end → is_orphan a end ≡ false → is_visible o.action a end ≡ true
    → (is_kept o mid ≡ true) ⊎ ((is_read o.operation ≡ true) × (is_closed (top_of o.action) mid ≡ true))
kept_or_closed opening o e past a p w v r n s = elim (kept_or_dropped opening o e past a p w v r n s) [
  | inl x ↦ inl x
  | inr x ↦ inr (x.0, closed_stays (top_of o.action) (earlier x.1.came) x.1.closed)
]

-- the law
pub visible_is_kept : VisibleIsKept
visible_is_kept opening past r a o e before n c g v = elim (kept_or_dropped opening o e before a g (follows_from c) here r n v) [
  | inl x ↦ inl x
  | inr x ↦ let d = x.1 in inr (x.0, (d.crash, d.before, came_from d.came, d.crashes, d.kept, d.dropped, d.closed))
]

-- The law: an operation is kept from its own event on, and no later one brings it back.
pub kept_never_again : KeptNeverAgain
kept_never_again o e before earlier more c g n = go more
  where
    go : (more : List Event) → is_kept o (more ++ earlier) ≡ false
    go [] = n
    go (k ∷ more) =
        let l = granted_before o e before g (follows_through (follows_from c) (followed more earlier)) in
        kept_next o k (more ++ earlier) l ∙ and_left _ _ (go more)
