-- Actions that are at home at a guardian, and the guardian itself, can be read off the events of its own history.
use Rattle.std.proofs.Common.{Bool, List, [], ap, ap₂, cond, eqb-true, false, filter, inl, inr, length, max, not, refl, subst, suc, sym, true, ℕ, ◌&&◌, ◌+◌, ◌==◌, ◌∙◌, ◌∷◌, ◌≡◌, ◌||◌}
use Rattle.std.proofs.lemmas.Bool.{false_from_ne_true, false≢true, not-false, or_left, or_right, or_parts}
use Rattle.std.specs.List.{list_any}
use Rattle.action_names.specs.Names.{Name, has_name, last_of, same_name}
use Rattle.run_model.specs.declared.answer.Answer.{Answer}
use Rattle.run_model.specs.declared.answer.Answer.TheVariants.{VoteNo, VoteYes}
use Rattle.run_model.specs.declared.history.Event.{Event}
use Rattle.run_model.specs.declared.step.Step.{Step}
use Rattle.run_model.specs.declared.step.Step.TheVariants.{Arms, Call, Crash, NestedTop, Op, Prepare, Recover, Top}
use Rattle.run_model.specs.Actions.{begins, begun, crashes, home_in, home_of, incarnation_of, is_begun, is_down, names_begun, step_crashes, step_recovers}
use Rattle.run_model.specs.Answers.{granted_or_waits, outcome}
use Rattle.run_model.specs.Keeping.{blockers}
use Rattle.run_model.specs.LocalHistories.{Stamped, events_of, names_guardian}
use Rattle.run_model.specs.LocalReadings.{events_here}
use Rattle.run_model.specs.Refusals.{checks}
use Rattle.run_model.specs.Openings.{Opening}
use Rattle.run_model.specs.Runs.{IsRun}
use Rattle.run_model.specs.StableContent.{raised_by, stable_next_top}
use Rattle.run_model.specs.Visibility.{votes_yes}
use Rattle.run_model.specs.Votes.{may_prepare, step_votes}
use Rattle.run_laws.proofs.Accepted.{NoneApplies, answered, checked}
use Rattle.run_laws.proofs.Begun.{begun_cases, begun_more, begun_once}
use Rattle.run_laws.proofs.Homes.{home_more}
use Rattle.run_laws.proofs.Names.{clash, eqb_self, has_name_append}
use Rattle.local_laws.specs.Rosters.{BegunSame, GuardianSame, own_events}
use Rattle.run_model.specs.declared.answer.Refusal.TheVariants as why
use Rattle.local_laws.proofs.Outcomes.{history_named, history_unnamed, unnamed_crashes, unnamed_votes}

-- the two cases of the own events
pub own_named : (opening : Opening) (s : Stamped) (run : List Stamped) (g : ℕ) → names_guardian s.1.step (events_of run) g ≡ true
    → own_events opening (s ∷ run) g ≡ s.1 ∷ own_events opening run g
own_named opening s run g n = ap (λ l. events_here l) (history_named opening s run g n)

pub own_unnamed : (opening : Opening) (s : Stamped) (run : List Stamped) (g : ℕ) → names_guardian s.1.step (events_of run) g ≡ false
    → own_events opening (s ∷ run) g ≡ own_events opening run g
own_unnamed opening s run g n = ap (λ l. events_here l) (history_unnamed opening s run g n)

-- each event that passes the test names g
abbrev pub AllNamed : (Event → Bool) → ℕ → List Stamped → Type 0
AllNamed p g [] = Unit {0}
AllNamed p g (s ∷ run) = (p s.1 ≡ true → names_guardian s.1.step (events_of run) g ≡ true) × AllNamed p g run

-- then the events that pass it are the same
pub filter_own : (opening : Opening) (p : Event → Bool) (g : ℕ) (run : List Stamped) → AllNamed p g run
    → filter p (own_events opening run g) ≡ filter p (events_of run)
filter_own opening p g [] h = refl
filter_own opening p g (s ∷ run) h = of (names_guardian s.1.step (events_of run) g) refl (filter_own opening p g run h.1)
  where
    of : (t : Bool) → names_guardian s.1.step (events_of run) g ≡ t → filter p (own_events opening run g) ≡ filter p (events_of run)
        → filter p (own_events opening (s ∷ run) g) ≡ filter p (s.1 ∷ events_of run)
    of true n q = ap (λ l. filter p l) (own_named opening s run g n) ∙ ap (λ l. cond (p s.1) (s.1 ∷ l) l) q
    of false n q =
        ap (λ l. filter p l) (own_unnamed opening s run g n) ∙ q
        ∙ sym (ap (λ t. cond t (s.1 ∷ filter p (events_of run)) (filter p (events_of run))) (false_from_ne_true (p s.1) (λ k. clash (h.0 k) n)))

-- and so is whether some do
pub any_own : (opening : Opening) (p : Event → Bool) (g : ℕ) (run : List Stamped) → AllNamed p g run
    → list_any p (own_events opening run g) ≡ list_any p (events_of run)
any_own opening p g [] h = refl
any_own opening p g (s ∷ run) h = of (names_guardian s.1.step (events_of run) g) refl (any_own opening p g run h.1)
  where
    of : (t : Bool) → names_guardian s.1.step (events_of run) g ≡ t → list_any p (own_events opening run g) ≡ list_any p (events_of run)
        → list_any p (own_events opening (s ∷ run) g) ≡ list_any p (s.1 ∷ events_of run)
    of true n q = ap (λ l. list_any p l) (own_named opening s run g n) ∙ ap (λ t. p s.1 || t) q
    of false n q =
        ap (λ l. list_any p l) (own_unnamed opening s run g n) ∙ q
        ∙ sym (ap (λ t. t || list_any p (events_of run)) (false_from_ne_true (p s.1) (λ k. clash (h.0 k) n)))

-- a test that always names
always : (p : Event → Bool) (g : ℕ) → ((e : Event) (past : List Event) → p e ≡ true → names_guardian e.step past g ≡ true) → (run : List Stamped)
    → AllNamed p g run
always p g h [] = tt
always p g h (s ∷ run) = (h s.1 (events_of run), always p g h run)

pub crash_names : (step : Step) (past : List Event) (g : ℕ) → step_crashes step g ≡ true → names_guardian step past g ≡ true
crash_names (Crash h) past g k = k
crash_names _ past g k = absurd (false≢true k)

recover_names : (step : Step) (past : List Event) (g : ℕ) → step_recovers step g ≡ true → names_guardian step past g ≡ true
recover_names (Recover h) past g k = k
recover_names _ past g k = absurd (false≢true k)

vote_names : (step : Step) (past : List Event) (g : ℕ) (t : Name) → step_votes step g t ≡ true → names_guardian step past g ≡ true
vote_names (Prepare h b) past g t k = or_right (home_of b past == g) (h == g) (first (h == g) (same_name b t) k)
  where
    first : (x y : Bool) → (x && y) ≡ true → x ≡ true
    first true y q = refl
    first false y q = absurd (false≢true q)
vote_names _ past g t k = absurd (false≢true k)

yes_names : (step : Step) (answer : Answer) (past : List Event) (g : ℕ) (t : Name) → votes_yes step answer g t ≡ true
    → names_guardian step past g ≡ true
yes_names step answer past g t k = decide (names_guardian step past g) refl
  where
    decide : (x : Bool) → names_guardian step past g ≡ x → x ≡ true
    decide true q = refl
    decide false q = absurd (clash k (unnamed_votes step answer past g t q))

-- whether it is down
down_own : (opening : Opening) (run : List Stamped) (g : ℕ) → is_down g (own_events opening run g) ≡ is_down g (events_of run)
down_own opening [] g = refl
down_own opening (s ∷ run) g = of (names_guardian s.1.step (events_of run) g) refl (down_own opening run g)
  where
    of : (t : Bool) → names_guardian s.1.step (events_of run) g ≡ t → is_down g (own_events opening run g) ≡ is_down g (events_of run)
        → is_down g (own_events opening (s ∷ run) g) ≡ is_down g (s.1 ∷ events_of run)
    of true n q = ap (λ l. is_down g l) (own_named opening s run g n) ∙ ap (λ t. step_crashes s.1.step g || (not (step_recovers s.1.step g) && t)) q
    of false n q =
        ap (λ l. is_down g l) (own_unnamed opening s run g n) ∙ q
        ∙ sym (ap₂ (λ x y. x || (not y && is_down g (events_of run))) (unnamed_crashes s.1.step (events_of run) g n)
        (false_from_ne_true (step_recovers s.1.step g) (λ k. clash (recover_names s.1.step (events_of run) g k) n)))

-- the number after those that it voted yes on
next_top_own : (opening : Opening) (run : List Stamped) (g : ℕ) (o : Opening)
    → stable_next_top o g (own_events opening run g) ≡ stable_next_top o g (events_of run)
next_top_own opening [] g o = refl
next_top_own opening (s ∷ run) g o = of (names_guardian s.1.step (events_of run) g) refl (next_top_own opening run g o)
  where
    quiet : (step : Step) (n : ℕ) → names_guardian step (events_of run) g ≡ false → raised_by step s.1.answer g n ≡ n
    quiet (Prepare h t) n q = other s.1.answer (or_parts (home_of t (events_of run) == g) (h == g) q).1
      where
        other : (answer : Answer) → (h == g) ≡ false → raised_by (Prepare h t) answer g n ≡ n
        other VoteYes k = ap (λ u. cond u (max n (suc (last_of t))) n) k
        other _ k = refl
    quiet _ n q = refl

    of : (t : Bool) → names_guardian s.1.step (events_of run) g ≡ t
        → stable_next_top o g (own_events opening run g) ≡ stable_next_top o g (events_of run)
        → stable_next_top o g (own_events opening (s ∷ run) g) ≡ stable_next_top o g (s.1 ∷ events_of run)
    of true n q = ap (λ l. stable_next_top o g l) (own_named opening s run g n) ∙ ap (λ m. raised_by s.1.step s.1.answer g m) q
    of false n q =
        ap (λ l. stable_next_top o g l) (own_unnamed opening s run g n) ∙ q ∙ sym (quiet s.1.step (stable_next_top o g (events_of run)) n)

pub guardian_same : GuardianSame
guardian_same opening run g r = record {
  crashes = ap (λ l. length l) (filter_own opening _ g run (always _ g (λ e past k. crash_names e.step past g k) run));
  down = down_own opening run g;
  voted = λ t. any_own opening _ g run (always _ g (λ e past k. vote_names e.step past g t k) run);
  prepared = λ t. any_own opening _ g run (always _ g (λ e past k. yes_names e.step e.answer past g t k) run);
  recovered = λ o. ap (λ l. (o.stores g).count + length l) (filter_own opening _ g run (always _ g (λ e past k. recover_names e.step past g k) run));
  next_top = λ o. next_top_own opening run g o;
}

-- a step that begins actions
abbrev pub IsMaking : Step → Type 0
IsMaking (Top g) = Unit {0}
IsMaking (NestedTop a) = Unit {0}
IsMaking (Call a g) = Unit {0}
IsMaking (Arms a kinds) = Unit {0}
IsMaking _ = ⊥

pub making : (opening : Opening) (e : Event) (past : List Event) (a : Name) → IsRun opening (e ∷ past) → begins e a ≡ true → IsMaking e.step
making opening e past a r k = of e.step (ap (λ x. has_name (names_begun x) a) (sym (answered opening e past r)) ∙ k)
  where
    of : (step : Step) → has_name (names_begun (outcome opening step past)) a ≡ true → IsMaking step
    of (Top g) h = tt
    of (NestedTop b) h = tt
    of (Call b g) h = tt
    of (Arms b kinds) h = tt
    of (Op b x wanted) h = absurd (clash h (none (blockers b x wanted past)))
      where
        none : (bs : List Name) → has_name (names_begun (granted_or_waits opening x wanted past bs)) a ≡ false
        none [] = refl
        none (b ∷ bs) = refl
    of (Prepare g t) h = absurd (clash h (none (may_prepare g t past)))
      where
        none : (vote : Bool) → has_name (names_begun (cond vote VoteYes VoteNo)) a ≡ false
        none true = refl
        none false = refl
    of _ h = absurd (false≢true h)

-- what begins at home at g names g
pub new_named : (step : Step) (past : List Event) (g : ℕ) → IsMaking step → home_in step (λ b. home_of b past) ≡ g
    → names_guardian step past g ≡ true
new_named (Top h) past g m q = ap (λ x. x == g) q ∙ eqb_self g
new_named (NestedTop b) past g m q = ap (λ x. x == g) q ∙ eqb_self g
new_named (Call b h) past g m q = or_right (home_of b past == g) (h == g) (ap (λ x. x == g) q ∙ eqb_self g)
new_named (Arms b kinds) past g m q = ap (λ x. x == g) q ∙ eqb_self g
new_named _ past g m q = elim m [ ]

-- the home of what is new, by other homes of earlier actions
pub home_new : (e : Event) (past : List Event) (a : Name) → begins e a ≡ true → home_of a (e ∷ past) ≡ home_in e.step (λ b. home_of b past)
home_new e past a k = ap (λ t. cond t (home_in e.step (λ b. home_of b past)) (home_of a past)) k

home_old : (e : Event) (past : List Event) (a : Name) → begins e a ≡ false → home_of a (e ∷ past) ≡ home_of a past
home_old e past a k = ap (λ t. cond t (home_in e.step (λ b. home_of b past)) (home_of a past)) k

pub incarnation_begun : (e : Event) (past : List Event) (a : Name) → begins e a ≡ true
    → incarnation_of a (e ∷ past) ≡ crashes (home_of a (e ∷ past)) past
incarnation_begun e past a k = ap (λ t. cond t (crashes (home_of a (e ∷ past)) past) (incarnation_of a past)) k

incarnation_old : (e : Event) (past : List Event) (a : Name) → begins e a ≡ false → incarnation_of a (e ∷ past) ≡ incarnation_of a past
incarnation_old e past a k = ap (λ t. cond t (crashes (home_of a (e ∷ past)) past) (incarnation_of a past)) k

-- what is at home at g stands so in the own events
pub record IsThere (a : Name) (g : ℕ) (own past : List Event) : Type 0 where
  pub begun : is_begun a own ≡ true
  pub home : home_of a own ≡ g
  pub incarnation : incarnation_of a own ≡ incarnation_of a past

-- who takes a step that begins something was begun; and a home that a step gives is the same by the own events
home_given : (opening : Opening) (step : Step) (past own : List Event) (g : ℕ) → NoneApplies (checks opening step past) → IsMaking step
    → names_guardian step past g ≡ true
    → ((b : Name) → is_begun b past ≡ true → home_of b past ≡ g → home_of b own ≡ g)
    → home_in step (λ b. home_of b own) ≡ home_in step (λ b. home_of b past)
home_given opening (Top h) past own g f m n ih = refl
home_given opening (Call b h) past own g f m n ih = refl
home_given opening (NestedTop b) past own g f m n ih =
    let q = eqb-true (home_of b past) g n in ih b (not-false _ (f why.NoAction)) q ∙ sym q
home_given opening (Arms b kinds) past own g f m n ih =
    let q = eqb-true (home_of b past) g n in ih b (not-false _ (f why.NoAction)) q ∙ sym q
home_given opening _ past own g f m n ih = elim m [ ]

pub there_own : (opening : Opening) (run : List Stamped) (g : ℕ) (a : Name) → IsRun opening (events_of run) → is_begun a (events_of run) ≡ true
    → home_of a (events_of run) ≡ g → IsThere a g (own_events opening run g) (events_of run)
there_own opening [] g a r b h = absurd (false≢true b)
there_own opening (s ∷ run) g a r b h = elim (begun_cases s.1 (events_of run) a b) [
  | inl k ↦ new k (λ c p q. (there_own opening run g c r.2 p q).home)
  | inr k ↦ old k (there_own opening run g a r.2 k (sym (home_more opening s.1 (events_of run) a r k) ∙ h)) (names_guardian s.1.step (events_of run) g) refl
]
  where
    past : List Event
    past = events_of run

    own : List Event
    own = own_events opening run g

    P : List Event → Type 0
    P l = IsThere a g l (s.1 ∷ past)

    new : begins s.1 a ≡ true → ((c : Name) → is_begun c past ≡ true → home_of c past ≡ g → home_of c own ≡ g) → IsThere a g (own_events opening (s ∷ run) g) (s.1 ∷ past)
    new k ih =
        let made = making opening s.1 past a r k in
        let given : home_in s.1.step (λ b. home_of b past) ≡ g = sym (home_new s.1 past a k) ∙ h in
        let n = new_named s.1.step past g made given in
        let home : home_of a (s.1 ∷ own) ≡ g = home_new s.1 own a k ∙ home_given opening s.1.step past own g (checked opening s.1 past r) made n ih ∙ given in
        subst P (sym (own_named opening s run g n)) (record {
          begun = has_name_append (names_begun s.1.answer) (begun own) a ∙ or_left _ _ k;
          home = home;
          incarnation = incarnation_begun s.1 own a k ∙ ap (λ x. crashes x own) home ∙ (guardian_same opening run g r.2).crashes
              ∙ sym (incarnation_begun s.1 past a k ∙ ap (λ x. crashes x past) h);
        })

    old : is_begun a past ≡ true → IsThere a g own past → (t : Bool) → names_guardian s.1.step past g ≡ t
        → IsThere a g (own_events opening (s ∷ run) g) (s.1 ∷ past)
    old k ih true n =
        let once = begun_once opening s.1 past a r k in
        subst P (sym (own_named opening s run g n)) (record {
          begun = has_name_append (names_begun s.1.answer) (begun own) a ∙ or_right _ _ ih.begun;
          home = home_old s.1 own a once ∙ ih.home;
          incarnation = incarnation_old s.1 own a once ∙ ih.incarnation ∙ sym (incarnation_old s.1 past a once);
        })
    old k ih false n =
        let once = begun_once opening s.1 past a r k in
        subst P (sym (own_unnamed opening s run g n)) (record {
          begun = ih.begun;
          home = ih.home;
          incarnation = ih.incarnation ∙ sym (incarnation_old s.1 past a once);
        })

pub begun_same : BegunSame
begun_same opening [] g a r b = absurd (false≢true b)
begun_same opening (s ∷ run) g a r b = of (names_guardian s.1.step (events_of run) g) refl (begun_same opening run g a r.2)
  where
    past : List Event
    past = events_of run

    own : List Event
    own = own_events opening run g

    earlier : (is_begun a past ≡ true) × (home_of a own ≡ home_of a past) → (is_begun a (s.1 ∷ past) ≡ true) × (home_of a own ≡ home_of a (s.1 ∷ past))
    earlier p = (begun_more s.1 past a p.0, p.1 ∙ sym (home_more opening s.1 past a r p.0))

    of : (t : Bool) → names_guardian s.1.step past g ≡ t
        → (is_begun a own ≡ true → (is_begun a past ≡ true) × (home_of a own ≡ home_of a past))
        → (is_begun a (s.1 ∷ past) ≡ true) × (home_of a (own_events opening (s ∷ run) g) ≡ home_of a (s.1 ∷ past))
    of true n ih = elim (begun_cases s.1 own a (ap (λ l. is_begun a l) (sym (own_named opening s run g n)) ∙ b)) [
      | inl k ↦
          let made = making opening s.1 past a r k in (
            has_name_append (names_begun s.1.answer) (begun past) a ∙ or_left _ _ k,
            ap (λ l. home_of a l) (own_named opening s run g n) ∙ home_new s.1 own a k
                ∙ home_given opening s.1.step past own g (checked opening s.1 past r) made n (λ c p q. (there_own opening run g c r.2 p q).home)
                ∙ sym (home_new s.1 past a k),
          )
      | inr k ↦
          let p = ih k in
          let once = begun_once opening s.1 past a r p.0 in
          (begun_more s.1 past a p.0, ap (λ l. home_of a l) (own_named opening s run g n) ∙ home_old s.1 own a once ∙ (earlier p).1)
    ]
    of false n ih =
        let p = ih (ap (λ l. is_begun a l) (sym (own_unnamed opening s run g n)) ∙ b) in
        ((earlier p).0, ap (λ l. home_of a l) (own_unnamed opening s run g n) ∙ (earlier p).1)
