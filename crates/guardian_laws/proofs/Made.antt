-- What the home of an action's maker keeps: the event that began the action.
use Rattle.std.proofs.Common.{Bool, List, None, Option, Some, [], ap, cond, false, inl, inr, refl, sym, true, ℕ, ◌==◌, ◌∙◌, ◌∷◌, ◌≡◌}
use Rattle.std.proofs.lemmas.Bool.{false≢true, or_left, or_right}
use Rattle.action_names.specs.Names.{Name, is_top, parent_of, same_name}
use Rattle.run_model.specs.declared.history.Event.{Event}
use Rattle.run_model.specs.declared.step.Step.{Step}
use Rattle.run_model.specs.declared.step.Step.TheVariants.{Arms, Call, NestedTop}
use Rattle.run_model.specs.Actions.{begins, begun, home_of, is_begun, is_exactly, maker_in, maker_of, names_begun, step_makes}
use Rattle.run_model.specs.LocalHistories.{Stamped, events_of, names_guardian}
use Rattle.run_model.specs.Openings.{Opening}
use Rattle.run_model.specs.Runs.{IsRun}
use Rattle.run_laws.proofs.Accepted.{makes_facts}
use Rattle.run_laws.proofs.Begun.{begun_cases, begun_more, begun_once, new_in_run}
use Rattle.run_laws.proofs.Homes.{home_more}
use Rattle.run_laws.proofs.Names.{clash, eqb_self, has_name_append, same_name_self, same_name_true}
use Rattle.local_laws.specs.Rosters.{own_events}
use Rattle.local_laws.proofs.Roster.{own_named, own_unnamed}

maker_new : (e : Event) (past : List Event) (c : Name) → begins e c ≡ true → maker_of c (e ∷ past) ≡ maker_in e.step
maker_new e past c k = ap (λ t. cond t (maker_in e.step) (maker_of c past)) k

maker_old : (e : Event) (past : List Event) (c : Name) → begins e c ≡ false → maker_of c (e ∷ past) ≡ maker_of c past
maker_old e past c k = ap (λ t. cond t (maker_in e.step) (maker_of c past)) k

exact : (o : Option Name) (a : Name) → is_exactly o a ≡ true → o ≡ Some a
exact None a k = absurd (false≢true k)
exact (Some b) a k = ap (λ c. Some c) (same_name_true b a k)

at_home : (b m : Name) (past : List Event) (g : ℕ) → same_name b m ≡ true → home_of m past ≡ g → (home_of b past == g) ≡ true
at_home b m past g k h = ap (λ x. home_of x past == g) (same_name_true b m k) ∙ ap (λ x. x == g) h ∙ eqb_self g

-- a step that an action makes names its home
make_names : (step : Step) (past : List Event) (g : ℕ) (m : Name) → step_makes step m ≡ true → home_of m past ≡ g → names_guardian step past g ≡ true
make_names (NestedTop b) past g m k h = at_home b m past g k h
make_names (Call b i) past g m k h = or_left (home_of b past == g) (i == g) (at_home b m past g k h)
make_names (Arms b kinds) past g m k h = at_home b m past g k h
make_names _ past g m k h = absurd (false≢true k)

-- the maker of a subaction is its parent
pub made_by_parent : (opening : Opening) (past : List Event) (c : Name) → IsRun opening past → is_begun c past ≡ true → is_top c ≡ false
    → maker_of c past ≡ Some (parent_of c)
made_by_parent opening [] c r b t = absurd (false≢true b)
made_by_parent opening (e ∷ past) c r b t = elim (begun_cases e past c b) [
  | inr k ↦ maker_old e past c (begun_once opening e past c r k) ∙ made_by_parent opening past c r.2 k t
  | inl k ↦ elim (new_in_run opening e past c r k).made [
    | inl m ↦ absurd (clash m t)
    | inr m ↦ maker_new e past c k ∙ exact (maker_in e.step) (parent_of c) m
  ]
]

-- The home of its maker keeps it; a maker that was not begun has no home to ask of.
kept_by_maker : (opening : Opening) (run : List Stamped) (g : ℕ) (c m : Name) → IsRun opening (events_of run) → is_begun c (events_of run) ≡ true
    → maker_of c (events_of run) ≡ Some m → (is_begun m (events_of run) ≡ true → home_of m (events_of run) ≡ g)
    → is_begun c (own_events opening run g) ≡ true
kept_by_maker opening [] g c m r b k h = absurd (false≢true b)
kept_by_maker opening (s ∷ run) g c m r b k h = elim (begun_cases s.1 past c b) [
  | inl n ↦ now n (sym (maker_new s.1 past c n) ∙ k)
  | inr n ↦ old (kept_by_maker opening run g c m r.2 n (sym (maker_old s.1 past c (begun_once opening s.1 past c r n)) ∙ k) before)
      (names_guardian s.1.step past g) refl
]
  where
    past : List Event
    past = events_of run

    own : List Event
    own = own_events opening run g

    before : is_begun m past ≡ true → home_of m past ≡ g
    before q = sym (home_more opening s.1 past m r q) ∙ h (begun_more s.1 past m q)

    now : begins s.1 c ≡ true → maker_in s.1.step ≡ Some m → is_begun c (own_events opening (s ∷ run) g) ≡ true
    now n q =
        let makes : step_makes s.1.step m ≡ true = ap (λ o. is_exactly o m) q ∙ same_name_self m in
        let home = before (makes_facts opening s.1 past m r makes).0 in
        ap (λ l. is_begun c l) (own_named opening s run g (make_names s.1.step past g m makes home))
        ∙ has_name_append (names_begun s.1.answer) (begun own) c ∙ or_left _ _ n

    old : is_begun c own ≡ true → (t : Bool) → names_guardian s.1.step past g ≡ t → is_begun c (own_events opening (s ∷ run) g) ≡ true
    old q true n = ap (λ l. is_begun c l) (own_named opening s run g n) ∙ has_name_append (names_begun s.1.answer) (begun own) c ∙ or_right _ _ q
    old q false n = ap (λ l. is_begun c l) (own_unnamed opening s run g n) ∙ q

pub made_here : (opening : Opening) (run : List Stamped) (g : ℕ) (c m : Name) → IsRun opening (events_of run) → is_begun c (events_of run) ≡ true
    → maker_of c (events_of run) ≡ Some m → home_of m (events_of run) ≡ g → is_begun c (own_events opening run g) ≡ true
made_here opening run g c m r b k h = kept_by_maker opening run g c m r b k (λ q. h)
