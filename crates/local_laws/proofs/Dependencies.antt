-- The dependencies of actions can be read in the histories of their homes.
use Rattle.std.proofs.Common.{Bool, List, None, Option, Some, [], ap, ap₂, cond, eqb-true, false, filter, filter_map, inl, inr, option_map, refl, sym, true, ℕ, ◌&&◌, ◌==◌, ◌∙◌, ◌∷◌, ◌≡◌, ◌||◌}
use Rattle.std.proofs.lemmas.Bool.{false_from_ne_true, false≢true, or_left, or_parts}
use Rattle.std.specs.List.{cons_option, list_any}
use Rattle.action_names.specs.Names.{Name, has_name, parent_of, same_name}
use Rattle.action_names.specs.Deps.{lesser}
use Rattle.run_model.specs.declared.history.Event.{Event}
use Rattle.run_model.specs.declared.step.Step.{Step}
use Rattle.run_model.specs.declared.step.Step.TheVariants.{Arms, Call, Commit, NestedTop, Top}
use Rattle.run_model.specs.Actions.{begins, home_of, is_begun, names_begun, crashes}
use Rattle.run_model.specs.Dependencies.{dependency, dependency_after, merged, own_entry}
use Rattle.run_model.specs.Lists.{guardians_of}
use Rattle.run_model.specs.LocalHistories.{dependencies_carried, dependencies_of, dependencies_sent, events_of, local_history, names_guardian, with_dependencies}
use Rattle.run_model.specs.LocalReadings.{LocalEvent, after_commit, beside, dependency_here, least_of}
use Rattle.run_model.specs.Openings.{Opening}
use Rattle.run_laws.proofs.Begun.{begun_cases, begun_once}
use Rattle.run_laws.proofs.Homes.{home_more}
use Rattle.run_laws.proofs.Names.{clash, eqb_self, same_name_self, same_name_true}
use Rattle.local_laws.specs.Known.{DependenciesSame}
use Rattle.local_laws.proofs.Outcomes.{has_filter, history_named, history_unnamed}
use Rattle.local_laws.proofs.Roster.{IsMaking, home_new, making, new_named}

-- what a list of some guardians' entries says of one of them
pub entries : (deps : ℕ → Option ℕ) (gs : List ℕ) (h : ℕ)
    → beside (filter_map (λ g. option_map (λ n. (g, n)) (deps g)) gs) h ≡ cond (list_any (λ k. k == h) gs) (deps h) None
entries deps [] h = refl
entries deps (g ∷ gs) h = of (deps g) refl (g == h) refl (entries deps gs h)
  where
    rest : List (ℕ × ℕ)
    rest = filter_map (λ g. option_map (λ n. (g, n)) (deps g)) gs

    again : (t : Bool) (d : Option ℕ) → d ≡ None → cond t d None ≡ None
    again true d q = q
    again false d q = refl

    of : (d : Option ℕ) → deps g ≡ d → (t : Bool) → (g == h) ≡ t → beside rest h ≡ cond (list_any (λ k. k == h) gs) (deps h) None
        → beside (cons_option (option_map (λ n. (g, n)) d) rest) h ≡ cond ((g == h) || list_any (λ k. k == h) gs) (deps h) None
    of (Some n) e true q ih =
        ap (λ t. cond t (Some n) (beside rest h)) q ∙ sym e ∙ ap deps (eqb-true g h q)
        ∙ sym (ap (λ t. cond (t || list_any (λ k. k == h) gs) (deps h) None) q)
    of (Some n) e false q ih =
        ap (λ t. cond t (Some n) (beside rest h)) q ∙ ih ∙ sym (ap (λ t. cond (t || list_any (λ k. k == h) gs) (deps h) None) q)
    of None e true q ih =
        let none : deps h ≡ None = ap deps (sym (eqb-true g h q)) ∙ e in
        ih ∙ again (list_any (λ k. k == h) gs) (deps h) none ∙ sym (again ((g == h) || list_any (λ k. k == h) gs) (deps h) none)
    of None e false q ih = ih ∙ sym (ap (λ t. cond (t || list_any (λ k. k == h) gs) (deps h) None) q)

-- what a list of actions with their dependencies says of one of them
of_names : (opening : Opening) (past : List Event) (names : List Name) (a : Name) (h : ℕ)
    → least_of (with_dependencies opening past names) a h ≡ cond (has_name names a) (beside (dependencies_of opening a past) h) None
of_names opening past [] a h = refl
of_names opening past (b ∷ names) a h = of (same_name b a) refl (of_names opening past names a h)
  where
    of : (t : Bool) → same_name b a ≡ t
        → least_of (with_dependencies opening past names) a h ≡ cond (has_name names a) (beside (dependencies_of opening a past) h) None
        → cond (same_name b a) (beside (dependencies_of opening b past) h) (least_of (with_dependencies opening past names) a h)
        ≡ cond (same_name b a || has_name names a) (beside (dependencies_of opening a past) h) None
    of true q ih =
        ap (λ t. cond t (beside (dependencies_of opening b past) h) (least_of (with_dependencies opening past names) a h)) q
        ∙ ap (λ c. beside (dependencies_of opening c past) h) (same_name_true b a q)
        ∙ sym (ap (λ t. cond (t || has_name names a) (beside (dependencies_of opening a past) h) None) q)
    of false q ih =
        ap (λ t. cond t (beside (dependencies_of opening b past) h) (least_of (with_dependencies opening past names) a h)) q ∙ ih
        ∙ sym (ap (λ t. cond (t || has_name names a) (beside (dependencies_of opening a past) h) None) q)

-- what is said of one that is listed, and of a guardian of the opening
pub listed : (opening : Opening) (past : List Event) (names : List Name) (a : Name) (h : ℕ) → has_name names a ≡ true
    → list_any (λ k. k == h) (guardians_of opening) ≡ true → least_of (with_dependencies opening past names) a h ≡ dependency a h past
listed opening past names a h n k =
    of_names opening past names a h ∙ ap (λ t. cond t (beside (dependencies_of opening a past) h) None) n
    ∙ entries (λ g. dependency a g past) (guardians_of opening) h
    ∙ ap (λ t. cond t (dependency a h past) None) k

-- what a home hears of an action that begins there
begun_carried : (opening : Opening) (e : Event) (past : List Event) (g : ℕ) → IsMaking e.step
    → dependencies_carried opening e g past ≡ with_dependencies opening (e ∷ past) (filter (λ b. home_of b (e ∷ past) == g) (names_begun e.answer))
begun_carried opening e past g m = of e.step m
  where
    new : List (Name × List (ℕ × ℕ))
    new = with_dependencies opening (e ∷ past) (filter (λ b. home_of b (e ∷ past) == g) (names_begun e.answer))

    of : (step : Step) → IsMaking step → dependencies_sent (λ a. home_of a past) (λ a. dependencies_of opening a past) step g new ≡ new
    of (Top h) m = refl
    of (NestedTop a) m = refl
    of (Call a h) m = refl
    of (Arms a kinds) m = refl
    of _ m = elim m [ ]

-- the law
pub dependencies_same : DependenciesSame
dependencies_same opening [] g a h r b q k = absurd (false≢true b)
dependencies_same opening (s ∷ run) g a h r b q k = elim (begun_cases s.1 (events_of run) a b) [
  | inl n ↦ new n
  | inr n ↦ old n (dependencies_same opening run g a h r.2 n (sym (home_more opening s.1 (events_of run) a r n) ∙ q) k) (names_guardian s.1.step (events_of run) g) refl
]
  where
    past : List Event
    past = events_of run

    here : List LocalEvent
    here = local_history opening run g

    came : List (Name × List (ℕ × ℕ))
    came = dependencies_carried opening s.1 g past

    new : begins s.1 a ≡ true → dependency_here a h (local_history opening (s ∷ run) g) ≡ dependency a h (s.1 ∷ past)
    new n =
        let made = making opening s.1 past a r n in
        let named = new_named s.1.step past g made (sym (home_new s.1 past a n) ∙ q) in
        ap (λ l. dependency_here a h l) (history_named opening s run g named)
        ∙ ap (λ t. cond t (least_of came a h) (after_commit s.1.step a (dependency_here a h here) (λ d. least_of came d h))) n
        ∙ ap (λ l. least_of l a h) (begun_carried opening s.1 past g made)
        ∙ listed opening (s.1 ∷ past) (filter (λ b. home_of b (s.1 ∷ past) == g) (names_begun s.1.answer)) a h
        (has_filter (λ b. home_of b (s.1 ∷ past) == g) (names_begun s.1.answer) a ∙ ap₂ ◌&&◌ n (ap (λ x. x == g) q ∙ eqb_self g)) k

    -- what a commit brings
    merges : (step : Step) → step ≡ s.1.step → home_of a past ≡ g → (own : Option ℕ) → own ≡ dependency a h past
        → after_commit step a own (λ d. least_of came d h) ≡ dependency_after false step a (λ b. dependency b h past) (own_entry (home_of a (s.1 ∷ past)) h (crashes h past))
    merges (Commit c) e home own o = decide (same_name (parent_of c) a) refl
      where
        decide : (t : Bool) → same_name (parent_of c) a ≡ t
            → cond t (lesser own (least_of came c h)) own ≡ merged t c a (λ b. dependency b h past)
        decide false p = o
        decide true p = ap₂ lesser o (ap (λ l. least_of l c h) sent ∙ listed opening past (c ∷ []) c h (or_left _ _ (same_name_self c)) k)
          where
            sent : came ≡ with_dependencies opening past (c ∷ [])
            sent =
                ap (λ x. dependencies_sent (λ a. home_of a past) (λ a. dependencies_of opening a past) x g (with_dependencies opening (s.1 ∷ past) (filter (λ b. home_of b (s.1 ∷ past) == g) (names_begun s.1.answer)))) (sym e)
                ∙ ap (λ t. cond t (with_dependencies opening past (c ∷ [])) [])
                (ap (λ x. home_of x past == g) (same_name_true (parent_of c) a p) ∙ ap (λ x. x == g) home ∙ eqb_self g)
    merges _ e home own o = o

    -- what does not name its home merges nothing into an action
    apart : (step : Step) → names_guardian step past g ≡ false → home_of a past ≡ g
        → dependency a h past ≡ dependency_after false step a (λ b. dependency b h past) (own_entry (home_of a (s.1 ∷ past)) h (crashes h past))
    apart (Commit c) m home =
        sym (ap (λ t. merged t c a (λ b. dependency b h past)) (false_from_ne_true (same_name (parent_of c) a) (λ p.
        clash (ap (λ x. home_of x past == g) (same_name_true (parent_of c) a p) ∙ ap (λ x. x == g) home ∙ eqb_self g)
        (or_parts (home_of c past == g) (home_of (parent_of c) past == g) m).1)))
    apart _ m home = refl

    old : is_begun a past ≡ true → dependency_here a h here ≡ dependency a h past → (t : Bool) → names_guardian s.1.step past g ≡ t
        → dependency_here a h (local_history opening (s ∷ run) g) ≡ dependency a h (s.1 ∷ past)
    old n ih t m = of t m
      where
        once : begins s.1 a ≡ false
        once = begun_once opening s.1 past a r n

        home : home_of a past ≡ g
        home = sym (home_more opening s.1 past a r n) ∙ q

        flat : dependency_after false s.1.step a (λ b. dependency b h past) (own_entry (home_of a (s.1 ∷ past)) h (crashes h past)) ≡ dependency a h (s.1 ∷ past)
        flat = ap (λ t. dependency_after t s.1.step a (λ b. dependency b h past) (own_entry (home_of a (s.1 ∷ past)) h (crashes h past))) (sym once)

        of : (t : Bool) → names_guardian s.1.step past g ≡ t → dependency_here a h (local_history opening (s ∷ run) g) ≡ dependency a h (s.1 ∷ past)
        of true m =
            ap (λ l. dependency_here a h l) (history_named opening s run g m)
            ∙ ap (λ t. cond t (least_of came a h) (after_commit s.1.step a (dependency_here a h here) (λ d. least_of came d h))) once
            ∙ merges s.1.step refl home (dependency_here a h here) ih ∙ flat
        of false m = ap (λ l. dependency_here a h l) (history_unnamed opening s run g m) ∙ ih ∙ apart s.1.step m home ∙ flat
