-- A yes vote finds the dependency at the present incarnation, so nothing lost is visible under a committed top action.
use Rattle.std.proofs.Common.{Bool, List, [], ap, arith, cond, eqb-true, false, inl, inr, is_none, length, refl, reverse, subst, suc, sym, true, zero, ℕ, ◌<◌, ◌||◌, ◌∙◌, ◌∷◌, ◌≡◌, ◌≤◌, ◌⊎◌}
use Rattle.std.proofs.lemmas.Bool.{and_from, and_parts, cases_eq, false_from_ne_true, false≢true, not-false, not-true, or_cases}
use Rattle.std.proofs.lemmas.List.{reverse-append}
use Rattle.std.proofs.lemmas.List.Folds.{list_all-append}
use Rattle.std.specs.List.{list_all}
use Rattle.action_names.specs.Names.{Name, is_ancestor, is_top, top_of}
use Rattle.run_model.specs.declared.answer.Answer.{Answer}
use Rattle.run_model.specs.declared.answer.Answer.TheVariants.{VoteNo, VoteYes}
use Rattle.run_model.specs.declared.history.Event.{Event}
use Rattle.run_model.specs.declared.step.Step.{Step}
use Rattle.run_model.specs.declared.step.Step.TheVariants.{Crash, Prepare}
use Rattle.run_model.specs.Actions.{crashes, home_of, incarnation_of, is_begun, is_closed, is_committed, step_crashes}
use Rattle.run_model.specs.Answers.{outcome}
use Rattle.run_model.specs.Dependencies.{dependency}
use Rattle.run_model.specs.Lists.{down_from, up_to}
use Rattle.run_model.specs.Refusals.{checks}
use Rattle.run_model.specs.Openings.{Opening}
use Rattle.run_model.specs.Runs.{IsRun}
use Rattle.run_model.specs.Visibility.{has_prepared, is_lost, votes_yes}
use Rattle.run_model.specs.Votes.{is_number, may_prepare}
use Rattle.run_laws.specs.Laws.{NothingLostUnderCommitted}
use Rattle.run_laws.proofs.Accepted.{NoneApplies, answered, checked}
use Rattle.run_laws.proofs.Depends.{depends_on_visible}
use Rattle.run_laws.proofs.Ended.{decided_at}
use Rattle.run_laws.proofs.Growth.{Follows, any_stays, earlier, here, run_before}
use Rattle.run_laws.proofs.Homes.{IsLostAt, home_more, home_stays, lost_facts}
use Rattle.run_laws.proofs.Names.{ancestor_both, clash, same_name_true, top_above, top_is_own, top_of_ancestor}
use Rattle.run_laws.proofs.Settled.{settled_begun, settled_visible}
use Rattle.run_model.specs.declared.answer.Refusal.TheVariants as why
use Rattle.run_laws.proofs.Visible.{visible_use}

-- a yes vote
pub record IsYes (g : ℕ) (t : Name) (past : List Event) : Type 0 where
  pub was_begun : is_begun t past ≡ true
  pub top : is_top t ≡ true
  pub closed : is_closed t past ≡ true
  pub present : is_number (dependency t g past) (crashes g past) ≡ true

-- what a yes vote says
pub yes_facts : (opening : Opening) (e : Event) (past : List Event) (g : ℕ) (t : Name) → IsRun opening (e ∷ past)
    → votes_yes e.step e.answer g t ≡ true → IsYes g t past
yes_facts opening e past g t r v = of e.step e.answer (checked opening e past r) (answered opening e past r) v
  where
    given : (x : Bool) → VoteYes ≡ cond x VoteYes VoteNo → x ≡ true
    given true h = refl
    given false h = cc

    of : (step : Step) (answer : Answer) → NoneApplies (checks opening step past) → answer ≡ outcome opening step past
        → votes_yes step answer g t ≡ true → IsYes g t past
    of (Prepare h b) VoteYes f a v =
        let p = and_parts _ _ v in
        subst (λ x. IsYes x t past) (eqb-true h g p.0) (subst (λ x. IsYes h x past) (same_name_true b t p.1) (record {
          was_begun = not-false _ (f why.NoAction);
          top = not-false _ (f why.NotTop);
          closed = not-false _ (f why.NotClosed);
          present = given (may_prepare h b past) a;
        }))
    of _ _ f a v = absurd (false≢true v)

-- a vote is no crash
crash_no_vote : (step : Step) (answer : Answer) (g h : ℕ) (t : Name) → step_crashes step g ≡ true → votes_yes step answer h t ≡ false
crash_no_vote (Crash k) answer g h t c = refl
crash_no_vote _ answer g h t c = absurd (false≢true c)

-- a home that prepared the tree had lost nothing of what the tree's commit makes visible
lost_unprepared : (opening : Opening) (b t : Name) (now : List Event) {end : List Event} → Follows now end → IsRun opening end
    → ((f : Name) → is_ancestor f b ≡ true → is_committed f end ≡ true)
    → top_of b ≡ t → is_ancestor t b ≡ true → is_lost b now ≡ true → has_prepared (home_of b now) t now ≡ true → ⊥
lost_unprepared opening b t [] w r all q k l p = false≢true l
lost_unprepared opening b t (e ∷ past) w r all q k l p = elim (or_cases _ _ l) [
  | inl before ↦ elim (prepared_cases (lost_facts opening past b run.2 before).was_begun) [
    | inl y ↦ voted (lost_facts opening past b run.2 before) (yes_facts opening e past (home_of b past) t run y)
    | inr y ↦ lost_unprepared opening b t past (earlier w) r all q k before y
  ]
  | inr now ↦
      let x = and_parts _ _ now in
      let y = and_parts _ _ x.1 in
      elim (prepared_cases x.0) [
        | inl z ↦ clash z (crash_no_vote e.step e.answer (home_of b past) (home_of b past) t y.0)
        | inr z ↦ clash z (ap (λ u. has_prepared (home_of b past) u past) (sym q) ∙ not-true _ y.1)
      ]
]
  where
    run : IsRun opening (e ∷ past)
    run = run_before opening w r

    prepared_cases : is_begun b past ≡ true
        → (votes_yes e.step e.answer (home_of b past) t ≡ true) ⊎ (has_prepared (home_of b past) t past ≡ true)
    prepared_cases h = or_cases _ _ (ap (λ g. has_prepared g t (e ∷ past)) (sym (home_more opening e past b run h)) ∙ p)

    -- the vote found the dependency at the present incarnation, which is later than that of what was lost
    voted : IsLostAt opening b past → IsYes (home_of b past) t past → ⊥
    voted lost vote =
        let visible = settled_visible opening t b (earlier w) r all vote.top vote.closed k lost.was_begun in
        let d = depends_on_visible opening past t b run.2 lost.was_begun k visible in
        let same =
        eqb-true d.least (crashes (home_of b past) past)
        (ap (λ x. is_number x (crashes (home_of b past) past)) (sym d.is_least) ∙ vote.present) in
        late d.least (incarnation_of b past) (crashes (home_of b past) past) same lost.older d.bound
      where
        late : (m i c : ℕ) → m ≡ c → i < c → m ≤ i → ⊥
        late m i c x y z = omega arith

-- what holds of all guardians holds of each
pub each_guardian : (p : ℕ → Bool) (n g : ℕ) → list_all p (up_to n) ≡ true → 0 < g → g ≤ n → p g ≡ true
each_guardian p n g h a b = fall n (all_reversed (down_from n) h) a b
  where
    all_reversed : (ns : List ℕ) → list_all p (reverse ns) ≡ true → list_all p ns ≡ true
    all_reversed [] h = h
    all_reversed (m ∷ ns) h =
        let q = and_parts _ _ (sym (ap (list_all p) (reverse-append (m ∷ []) ns) ∙ list_all-append p (reverse ns) (m ∷ [])) ∙ h) in
        and_from _ _ (and_parts _ _ q.1).0 (all_reversed ns q.0)

    fall : (n : ℕ) → list_all p (down_from n) ≡ true → 0 < g → g ≤ n → p g ≡ true
    fall zero h a b = absurd (omega arith)
    fall (suc n) h a b =
        let q = and_parts _ _ h in
        elim (cases_eq g (suc n)) [
          | inl e ↦ ap p e ∙ q.0
          | inr e ↦ fall n q.1 a (omega arith)
        ]

-- The law: the home of a lost action had prepared, as the decision asks; but then it had lost nothing.
pub nothing_lost_under_committed : NothingLostUnderCommitted
nothing_lost_under_committed opening now r t b p c k v = false_from_ne_true _ never
  where
    all : (f : Name) → is_ancestor f b ≡ true → is_committed f now ≡ true
    all f l = elim (visible_use b t f now v l) [
      | inl x ↦ ap (λ y. is_committed y now) (ancestor_both f t x (top_above t f b p k l)) ∙ c
      | inr x ↦ x
    ]

    never : is_lost b now ≡ true → ⊥
    never l =
        let lost = lost_facts opening now b r l in
        let (past, w, d) = decided_at opening t now r p c in
        let begun_then = settled_begun opening t b w here r all d.closed k lost.was_begun in
        let visible_then = settled_visible opening t b w r all p d.closed k begun_then in
        let depends = depends_on_visible opening past t b (run_before opening w r) begun_then k visible_then in
        let home : home_of b now ≡ home_of b past = home_stays opening b w r begun_then in
        let there = subst (λ g. (0 < g) × (g ≤ length opening.setup)) home lost.there in
        let ready =
        each_guardian (λ g. is_none (dependency t g past) || has_prepared g t past) (length opening.setup)
        (home_of b past) d.ready there.0 there.1 in
        let prepared : has_prepared (home_of b past) t past ≡ true =
        ap (λ o. is_none o || has_prepared (home_of b past) t past) (sym depends.is_least) ∙ ready in
        let stays : has_prepared (home_of b past) t now ≡ true = any_stays (λ e. votes_yes e.step e.answer (home_of b past) t) w prepared in
        lost_unprepared opening b t now here r all (sym (top_of_ancestor t b k) ∙ top_is_own t p) k l
        (ap (λ g. has_prepared g t now) home ∙ stays)
