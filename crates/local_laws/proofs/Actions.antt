-- How actions that are at home at a guardian stand, by the events of its own history.
use Rattle.std.proofs.Common.{Bool, List, None, Option, Some, [], ap, ap₂, cond, false, inl, inr, nat_lt, not, refl, sym, true, ℕ, ◌++◌, ◌==◌, ◌∙◌, ◌∷◌, ◌≡◌, ◌||◌, ◌⊎◌}
use Rattle.std.proofs.lemmas.Bool.{false_from_ne_true, false≢true, not-false, or_cases, or_left, or_right}
use Rattle.std.specs.List.{list_any}
use Rattle.action_names.specs.Names.{Name, child_of, has_name, is_top, parent_of, same_name}
use Rattle.run_model.specs.declared.history.Event.{Event}
use Rattle.run_model.specs.declared.step.Step.{Step}
use Rattle.run_model.specs.declared.step.Step.TheVariants.{Abort, Arms, Call, Close, Commit, Decide, NestedTop}
use Rattle.run_model.specs.Actions.{begins, begun, crashes, home_in, home_of, is_begun, is_closed, is_committed, is_done, is_ended, is_exactly, made_by, maker_in, maker_of, names_begun, next_number, step_aborts, step_closes, step_commits, step_makes}
use Rattle.run_model.specs.LocalHistories.{Stamped, events_of, is_home_of, names_guardian}
use Rattle.run_model.specs.Answers.{outcome}
use Rattle.run_model.specs.Refusals.{checks}
use Rattle.run_model.specs.Openings.{Opening}
use Rattle.run_model.specs.Runs.{IsRun}
use Rattle.run_laws.proofs.Accepted.{NoneApplies, answered, checked, closes_facts, makes_ends_nothing, makes_facts}
use Rattle.run_laws.proofs.Begun.{begun_more, begun_once, nameless, new_in_run}
use Rattle.run_laws.proofs.Ended.{commits_begun}
use Rattle.run_laws.proofs.Homes.{home_more}
use Rattle.run_laws.proofs.Names.{clash, eqb_self, has_name_append, parent_child, same_name_self, same_name_true, single_top}
use Rattle.local_laws.specs.Rosters.{ActionSame, own_events}
use Rattle.run_model.specs.declared.answer.Refusal.TheVariants as why
use Rattle.local_laws.proofs.Roster.{AllNamed, IsThere, any_own, guardian_same, home_new, own_named, own_unnamed, there_own}

-- Events that pass a test name g, where those that pass it come after a began and name a's home.
named_if : (opening : Opening) (run : List Stamped) (g : ℕ) (a : Name) (p : Event → Bool) → IsRun opening (events_of run)
    → ((e : Event) (past : List Event) → IsRun opening (e ∷ past) → p e ≡ true → is_begun a past ≡ true)
    → ((e : Event) (past : List Event) → IsRun opening (e ∷ past) → p e ≡ true → home_of a past ≡ g → names_guardian e.step past g ≡ true)
    → (is_begun a (events_of run) ≡ true → home_of a (events_of run) ≡ g) → AllNamed p g run
named_if opening [] g a p r b n h = tt
named_if opening (s ∷ run) g a p r b n h =
    let past = events_of run in
    let before = λ (k : is_begun a past ≡ true). sym (home_more opening s.1 past a r k) ∙ h (begun_more s.1 past a k) in
    (λ k. n s.1 past r k (before (b s.1 past r k)), named_if opening run g a p r.2 b n before)

at_home : (a b : Name) (past : List Event) (g : ℕ) → same_name b a ≡ true → home_of a past ≡ g → (home_of b past == g) ≡ true
at_home a b past g q h = ap (λ x. home_of x past == g) (same_name_true b a q) ∙ ap (λ x. x == g) h ∙ eqb_self g

commit_names : (step : Step) (past : List Event) (g : ℕ) (a : Name) → step_commits step a ≡ true → home_of a past ≡ g → names_guardian step past g ≡ true
commit_names (Commit b) past g a k h = or_left (home_of b past == g) (home_of (parent_of b) past == g) (at_home a b past g k h)
commit_names (Decide b) past g a k h = at_home a b past g k h
commit_names _ past g a k h = absurd (false≢true k)

close_names : (step : Step) (past : List Event) (g : ℕ) (a : Name) → step_closes step a ≡ true → home_of a past ≡ g → names_guardian step past g ≡ true
close_names (Commit b) past g a k h = or_left (home_of b past == g) (home_of (parent_of b) past == g) (at_home a b past g k h)
close_names (Close b) past g a k h = at_home a b past g k h
close_names _ past g a k h = absurd (false≢true k)

abort_names : (step : Step) (past : List Event) (g : ℕ) (a : Name) → step_aborts step a ≡ true → home_of a past ≡ g → names_guardian step past g ≡ true
abort_names (Abort b) past g a k h = or_left (home_of b past == g) (is_home_of (maker_of b past) past g) (at_home a b past g k h)
abort_names _ past g a k h = absurd (false≢true k)

make_names : (step : Step) (past : List Event) (g : ℕ) (a : Name) → step_makes step a ≡ true → home_of a past ≡ g → names_guardian step past g ≡ true
make_names (NestedTop b) past g a k h = at_home a b past g k h
make_names (Call b i) past g a k h = or_left (home_of b past == g) (i == g) (at_home a b past g k h)
make_names (Arms b kinds) past g a k h = at_home a b past g k h
make_names _ past g a k h = absurd (false≢true k)

-- what a step aborts was begun
aborts_begun : (opening : Opening) (e : Event) (past : List Event) (c : Name) → IsRun opening (e ∷ past) → step_aborts e.step c ≡ true
    → is_begun c past ≡ true
aborts_begun opening e past c r k = of e.step (checked opening e past r) k
  where
    of : (step : Step) → NoneApplies (checks opening step past) → step_aborts step c ≡ true → is_begun c past ≡ true
    of (Abort b) f k = ap (λ d. is_begun d past) (sym (same_name_true b c k)) ∙ not-false _ (f why.NoAction)
    of _ f k = absurd (false≢true k)

-- what an action made, and how that stands to it
record IsMade (a b : Name) (past : List Event) : Type 0 where
  maker : maker_of b past ≡ Some a
  was_begun : is_begun a past ≡ true
  below : ((is_top b ≡ true) × (home_of b past ≡ home_of a past)) ⊎ ((is_top b ≡ false) × (parent_of b ≡ a))

maker_new : (e : Event) (past : List Event) (b : Name) → begins e b ≡ true → maker_of b (e ∷ past) ≡ maker_in e.step
maker_new e past b k = ap (λ t. cond t (maker_in e.step) (maker_of b past)) k

maker_old : (e : Event) (past : List Event) (b : Name) → begins e b ≡ false → maker_of b (e ∷ past) ≡ maker_of b past
maker_old e past b k = ap (λ t. cond t (maker_in e.step) (maker_of b past)) k

exact : (o : Option Name) (a : Name) → is_exactly o a ≡ true → o ≡ Some a
exact None a k = absurd (false≢true k)
exact (Some b) a k = ap (λ c. Some c) (same_name_true b a k)

some_same : (a b : Name) → Some a ≡ Some b → a ≡ b
some_same a b q = cc

-- how what a step begins stands to its maker
made_new : (opening : Opening) (e : Event) (past : List Event) (a b : Name) → IsRun opening (e ∷ past) → begins e b ≡ true → step_makes e.step a ≡ true
    → IsMade a b (e ∷ past)
made_new opening e past a b r k m = record {
  maker = maker_new e past b k ∙ exact (maker_in e.step) a m;
  was_begun = begun_more e past a facts.0;
  below = decide (is_top b) refl;
}
  where
    facts : (is_begun a past ≡ true) × (is_done a past ≡ false)
    facts = makes_facts opening e past a r m

    -- a top action has the home of its starter
    top_home : (step : Step) → step ≡ e.step → is_top b ≡ true → step_makes step a ≡ true
        → home_of b (e ∷ past) ≡ home_of a (e ∷ past)
    top_home (NestedTop c) q t m =
        home_new e past b k ∙ ap (λ s. home_in s (λ x. home_of x past)) (sym q) ∙ ap (λ x. home_of x past) (same_name_true c a m)
        ∙ sym (home_more opening e past a r facts.0)
    top_home (Arms c kinds) q t m =
        home_new e past b k ∙ ap (λ s. home_in s (λ x. home_of x past)) (sym q) ∙ ap (λ x. home_of x past) (same_name_true c a m)
        ∙ sym (home_more opening e past a r facts.0)
    top_home (Call c h) q t m = absurd (nameless opening past a r.2 facts.0 (sym under ∙ single_top b t))
      where
        under : parent_of b ≡ a
        under = under_call c h q ∙ same_name_true c a m
          where
            under_call : (c : Name) (h : ℕ) → Call c h ≡ e.step → parent_of b ≡ c
            under_call c h q =
                let b' = child_of c (next_number opening c past) in
                let named : (same_name b' b || false) ≡ true =
                ap (λ s. has_name (names_begun (outcome opening s past)) b) q ∙ ap (λ x. has_name (names_begun x) b) (sym (answered opening e past r)) ∙ k in
                let same : b' ≡ b = elim (or_cases _ _ named) [ inl x ↦ same_name_true b' b x | inr x ↦ absurd (false≢true x) ] in
                ap (λ x. parent_of x) (sym same) ∙ parent_child c (next_number opening c past)
    top_home _ q t m = absurd (false≢true m)

    decide : (t : Bool) → is_top b ≡ t
        → ((is_top b ≡ true) × (home_of b (e ∷ past) ≡ home_of a (e ∷ past))) ⊎ ((is_top b ≡ false) × (parent_of b ≡ a))
    decide true t = inl (t, top_home e.step refl t m)
    decide false t = inr (
      t,
      elim (new_in_run opening e past b r k).made [
        | inl x ↦ absurd (clash x t)
        | inr x ↦ some_same (parent_of b) a (sym (exact (maker_in e.step) (parent_of b) x) ∙ exact (maker_in e.step) a m)
      ],
    )

-- what a made, by the last event or before
made_cases : (e : Event) (past : List Event) (a b : Name) → has_name (made_by a (e ∷ past)) b ≡ true
    → ((step_makes e.step a ≡ true) × (begins e b ≡ true)) ⊎ (has_name (made_by a past) b ≡ true)
made_cases e past a b h = of (step_makes e.step a) refl (or_cases _ _ (sym (has_name_append (cond (step_makes e.step a) (names_begun e.answer) []) (made_by a past) b) ∙ h))
  where
    of : (t : Bool) → step_makes e.step a ≡ t
        → (has_name (cond (step_makes e.step a) (names_begun e.answer) []) b ≡ true) ⊎ (has_name (made_by a past) b ≡ true)
        → ((step_makes e.step a ≡ true) × (begins e b ≡ true)) ⊎ (has_name (made_by a past) b ≡ true)
    of true q c = elim c [
      | inl x ↦ inl (q, ap (λ t. has_name (cond t (names_begun e.answer) []) b) (sym q) ∙ x)
      | inr x ↦ inr x
    ]
    of false q c = elim c [
      | inl x ↦ absurd (clash x (ap (λ t. has_name (cond t (names_begun e.answer) []) b) q))
      | inr x ↦ inr x
    ]

-- it stands to it so ever after
made_more : (opening : Opening) (e : Event) (past : List Event) (a b : Name) → IsRun opening (e ∷ past) → is_begun b past ≡ true → IsMade a b past
    → IsMade a b (e ∷ past)
made_more opening e past a b r k m = record {
  maker = maker_old e past b (begun_once opening e past b r k) ∙ m.maker;
  was_begun = begun_more e past a m.was_begun;
  below = elim m.below [
    | inl x ↦ inl (x.0, home_more opening e past b r k ∙ x.1 ∙ sym (home_more opening e past a r m.was_begun))
    | inr x ↦ inr x
  ];
}

-- what ends it names the home of its maker
end_names : (opening : Opening) (e : Event) (past : List Event) (g : ℕ) (a b : Name) → IsRun opening (e ∷ past) → IsMade a b past
    → home_of a past ≡ g → (step_commits e.step b ≡ true) ⊎ (step_aborts e.step b ≡ true) → names_guardian e.step past g ≡ true
end_names opening e past g a b r m h k = elim k [
  | inl c ↦ commits e.step (checked opening e past r) c
  | inr c ↦ aborts e.step c
]
  where
    commits : (step : Step) → NoneApplies (checks opening step past) → step_commits step b ≡ true → names_guardian step past g ≡ true
    commits (Commit c) f q = or_right (home_of c past == g) (home_of (parent_of c) past == g) (elim m.below [
      | inl x ↦ absurd (clash x.0 (ap is_top (sym (same_name_true c b q)) ∙ f why.NotSub))
      | inr x ↦ ap (λ y. home_of (parent_of y) past == g) (same_name_true c b q) ∙ ap (λ y. home_of y past == g) x.1 ∙ ap (λ y. y == g) h ∙ eqb_self g
    ])
    commits (Decide c) f q = elim m.below [
      | inl x ↦ ap (λ y. home_of y past == g) (same_name_true c b q) ∙ ap (λ y. y == g) (x.1 ∙ h) ∙ eqb_self g
      | inr x ↦ absurd (clash (not-false _ (f why.NotTop)) (ap is_top (same_name_true c b q) ∙ x.0))
    ]
    commits _ f q = absurd (false≢true q)

    aborts : (step : Step) → step_aborts step b ≡ true → names_guardian step past g ≡ true
    aborts (Abort c) q =
        or_right (home_of c past == g) (is_home_of (maker_of c past) past g)
        (ap (λ y. is_home_of (maker_of y past) past g) (same_name_true c b q) ∙ ap (λ o. is_home_of o past g) m.maker ∙ ap (λ y. y == g) h ∙ eqb_self g)
    aborts _ q = absurd (false≢true q)

-- what made something was begun, and what it made
made_begun : (opening : Opening) (past : List Event) (a b : Name) → IsRun opening past → has_name (made_by a past) b ≡ true
    → (is_begun a past ≡ true) × (is_begun b past ≡ true)
made_begun opening [] a b r h = absurd (false≢true h)
made_begun opening (e ∷ past) a b r h = of (step_makes e.step a) refl (made_begun opening past a b r.2) (made_cases e past a b h)
  where
    of : (t : Bool) → step_makes e.step a ≡ t → (has_name (made_by a past) b ≡ true → (is_begun a past ≡ true) × (is_begun b past ≡ true))
        → ((step_makes e.step a ≡ true) × (begins e b ≡ true)) ⊎ (has_name (made_by a past) b ≡ true)
        → (is_begun a (e ∷ past) ≡ true) × (is_begun b (e ∷ past) ≡ true)
    of t q ih c = elim c [
      | inl x ↦ (begun_more e past a (makes_facts opening e past a r x.0).0, has_name_append (names_begun e.answer) (begun past) b ∙ or_left _ _ x.1)
      | inr x ↦ let p = ih x in (begun_more e past a p.0, begun_more e past b p.1)
    ]

-- where nothing that passes the test came, all that did names g
none_named : (opening : Opening) (run : List Stamped) (g : ℕ) (b : Name) (p : Event → Bool) → IsRun opening (events_of run)
    → ((e : Event) (past : List Event) → IsRun opening (e ∷ past) → p e ≡ true → is_begun b past ≡ true)
    → is_begun b (events_of run) ≡ false → AllNamed p g run
none_named opening [] g b p r n h = tt
none_named opening (s ∷ run) g b p r n h =
    let past = events_of run in
    let before : is_begun b past ≡ false = false_from_ne_true _ (λ k. clash (begun_more s.1 past b k) h) in
    (λ k. absurd (clash (n s.1 past r k) before), none_named opening run g b p r.2 n before)

-- a test of what ends b
record EndsOnly (opening : Opening) (b : Name) (p : Event → Bool) : Type 0 where
  ends : (e : Event) → p e ≡ true → (step_commits e.step b ≡ true) ⊎ (step_aborts e.step b ≡ true)

ends_begun : (opening : Opening) (b : Name) (p : Event → Bool) → EndsOnly opening b p → (e : Event) (past : List Event) → IsRun opening (e ∷ past)
    → p e ≡ true → is_begun b past ≡ true
ends_begun opening b p n e past r k =
    elim (n.ends e k) [ inl x ↦ commits_begun opening e past b r x | inr x ↦ aborts_begun opening e past b r x ]

-- What a made stands to it as made, and what ends it names a's home.
made_named : (opening : Opening) (run : List Stamped) (g : ℕ) (a b : Name) (p : Event → Bool) → IsRun opening (events_of run) → EndsOnly opening b p
    → has_name (made_by a (events_of run)) b ≡ true → home_of a (events_of run) ≡ g → IsMade a b (events_of run) × AllNamed p g run
made_named opening [] g a b p r n h q = absurd (false≢true h)
made_named opening (s ∷ run) g a b p r n h q = of (made_cases s.1 (events_of run) a b h) (made_named opening run g a b p r.2 n)
  where
    past : List Event
    past = events_of run

    of : ((step_makes s.1.step a ≡ true) × (begins s.1 b ≡ true)) ⊎ (has_name (made_by a past) b ≡ true)
        → (has_name (made_by a past) b ≡ true → home_of a past ≡ g → IsMade a b past × AllNamed p g run)
        → IsMade a b (s.1 ∷ past) × AllNamed p g (s ∷ run)
    of c ih = elim c [
      | inl x ↦
          let m = made_new opening s.1 past a b r x.1 x.0 in
          let quiet = makes_ends_nothing s.1.step a b x.0 in
          let unbegun : is_begun b past ≡ false = false_from_ne_true _ (λ k. clash x.1 (begun_once opening s.1 past b r k)) in
          (m, ((λ k. absurd (elim (n.ends s.1 k) [ inl y ↦ clash y quiet.0 | inr y ↦ clash y quiet.1 ])), none_named opening run g b p r.2 (ends_begun opening b p n) unbegun))
      | inr x ↦
          let k = made_begun opening past a b r.2 x in
          let home = sym (home_more opening s.1 past a r k.0) ∙ q in
          let m = ih x home in
          (made_more opening s.1 past a b r k.1 m.0, ((λ y. end_names opening s.1 past g a b r m.0 home (n.ends s.1 y)), m.1))
    ]

-- what ends what a made stands in the own events
ended_made : (opening : Opening) (run : List Stamped) (g : ℕ) (a b : Name) → IsRun opening (events_of run)
    → has_name (made_by a (events_of run)) b ≡ true → home_of a (events_of run) ≡ g
    → is_ended b (own_events opening run g) ≡ is_ended b (events_of run)
ended_made opening run g a b r h q =
    ap₂ ◌||◌
    (any_own opening (λ e. step_commits e.step b) g run (made_named opening run g a b (λ e. step_commits e.step b) r (record { ends = λ e k. inl k }) h q).1)
    (any_own opening (λ e. step_aborts e.step b) g run (made_named opening run g a b (λ e. step_aborts e.step b) r (record { ends = λ e k. inr k }) h q).1)

-- what a made
made_own : (opening : Opening) (run : List Stamped) (g : ℕ) (a : Name) → AllNamed (λ e. step_makes e.step a) g run
    → made_by a (own_events opening run g) ≡ made_by a (events_of run)
made_own opening [] g a h = refl
made_own opening (s ∷ run) g a h = of (names_guardian s.1.step (events_of run) g) refl (made_own opening run g a h.1)
  where
    of : (t : Bool) → names_guardian s.1.step (events_of run) g ≡ t → made_by a (own_events opening run g) ≡ made_by a (events_of run)
        → made_by a (own_events opening (s ∷ run) g) ≡ made_by a (s.1 ∷ events_of run)
    of true n q = ap (λ l. made_by a l) (own_named opening s run g n) ∙ ap (λ l. cond (step_makes s.1.step a) (names_begun s.1.answer) [] ++ l) q
    of false n q =
        ap (λ l. made_by a l) (own_unnamed opening s run g n) ∙ q
        ∙ sym (ap (λ t. cond t (names_begun s.1.answer) [] ++ made_by a (events_of run)) (false_from_ne_true (step_makes s.1.step a) (λ k. clash (h.0 k) n)))

any_same_in : (p q : Name → Bool) (names : List Name) → ((b : Name) → has_name names b ≡ true → p b ≡ q b) → list_any p names ≡ list_any q names
any_same_in p q [] h = refl
any_same_in p q (b ∷ names) h =
    ap₂ ◌||◌ (h b (or_left _ _ (same_name_self b))) (any_same_in p q names (λ c k. h c (or_right _ _ k)))

-- the law
pub action_same : ActionSame
action_same opening run g a r b h = record {
  begun = there.begun ∙ sym b;
  home = there.home ∙ sym h;
  incarnation = there.incarnation;
  committed = committed;
  ended = ended;
  closed = closed;
  done = ap₂ ◌||◌ ended closed;
  gone = ap₂ (λ i n. nat_lt i n) there.incarnation
      (ap (λ x. crashes x own) there.home ∙ (guardian_same opening run g r).crashes ∙ sym (ap (λ x. crashes x past) h));
  busy = ap (λ names. list_any (λ c. not (is_ended c own)) names) (made_own opening run g a
      (named_if opening run g a (λ e. step_makes e.step a) r (λ e p q k. (makes_facts opening e p a q k).0) (λ e p q k m. make_names e.step p g a k m) (λ k. h)))
      ∙ any_same_in _ _ (made_by a past) (λ c k. ap not (ended_made opening run g a c r k h));
}
  where
    past : List Event
    past = events_of run

    own : List Event
    own = own_events opening run g

    there : IsThere a g own past
    there = there_own opening run g a r b h

    committed : is_committed a own ≡ is_committed a past
    committed = any_own opening _ g run
        (named_if opening run g a (λ e. step_commits e.step a) r (λ e p q k. commits_begun opening e p a q k) (λ e p q k m. commit_names e.step p g a k m) (λ k. h))

    ended : is_ended a own ≡ is_ended a past
    ended = ap₂ ◌||◌ committed (any_own opening _ g run
        (named_if opening run g a (λ e. step_aborts e.step a) r (λ e p q k. aborts_begun opening e p a q k) (λ e p q k m. abort_names e.step p g a k m) (λ k. h)))

    closed : is_closed a own ≡ is_closed a past
    closed = any_own opening _ g run
        (named_if opening run g a (λ e. step_closes e.step a) r (λ e p q k. (closes_facts opening e p a q k).was_begun) (λ e p q k m. close_names e.step p g a k m) (λ k. h))
