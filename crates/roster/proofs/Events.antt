-- What an event that agrees with those before it leaves true of the events that a guardian keeps.
use Rattle.std.proofs.Common.{Bool, List, [], None, Some, ap, arith, cond, count_by, eqb-true, false, filter, inl, inr, length, ne_eqb, not, refl, subst, sym, true, ℕ, ◌++◌, ◌+◌, ◌&&◌, ◌||◌, ◌==◌, ◌∙◌, ◌∷◌, ◌≡◌, ◌≤◌}
use Rattle.std.specs.List.{list_all, list_any}
use Rattle.std.proofs.lemmas.Bool.{and_parts, eqb-false, not-true, or_cases, or_parts}
use Rattle.std.proofs.lemmas.List.Folds.{list_any-append}
use Rattle.std.proofs.lemmas.Option.{same_Some}
use Rattle.action_names.specs.Names.{IsName, Name, has_name, is_ancestor, same_name}
use Rattle.action_names.proofs.Ancestry.{same_is, same_refl}
use Rattle.run_model.specs.declared.history.Event.{Event}
use Rattle.run_model.specs.declared.step.Step.{Step}
use Rattle.run_model.specs.declared.step.Step.TheVariants.{Abort, Arms, Call, Close, Commit, Crash, Decide, NestedTop, Op, Prepare, Recover, Tell, Top}
use Rattle.run_model.specs.Actions.{begun, is_aborted, is_begun, is_committed, is_ended, is_exactly, made_by, maker_in, maker_of, names_begun, step_aborts, step_closes, step_commits, step_crashes, step_makes}
use Rattle.guardian_laws.specs.Actions.{are_new, has_maker, is_child, is_new, is_own, was_begun}
use Rattle.roster.proofs.Counted.{count-append, count_front, none_counted}
use Rattle.roster.proofs.Names.{above_child, any_below, clash, has_name-append, no_own_child}
use Rattle.roster.specs.Rosters.{AreOf}
use Rattle.roster.specs.Steps.{closed_in, ended_in}

-- ---- names that are new

-- no action that was begun is one that is new, or is below it
none_below : (m : Name) (past : List Event) → is_new m past ≡ true → list_any (λ c. is_ancestor m c) (begun past) ≡ false
none_below m past new = not-true _ new

pub new_not_begun : (a : Name) (past : List Event) → is_new a past ≡ true → 1 ≤ length a → is_begun a past ≡ false
new_not_begun a past new named = of (is_begun a past) refl
  where
    of : (b : Bool) → is_begun a past ≡ b → b ≡ false
    of true h = absurd (clash (any_below (begun past) a h named) (none_below a past new))
    of false h = refl

pub one_is_new : (names : List Name) (past : List Event) → are_new names past ≡ true → (a : Name) → has_name names a ≡ true → is_new a past ≡ true
one_is_new [] past new a has = absurd (cc)
one_is_new (b ∷ bs) past new a has = elim (or_cases (same_name b a) (has_name bs a) has) [
  | inl same ↦ subst (λ c. is_new c past ≡ true) (same_is b a same) (and_parts _ _ new).0
  | inr later ↦ one_is_new bs past (and_parts _ _ (and_parts _ _ new).1).1 a later
]

-- of names that are new each stands once
count_new : (names : List Name) (past : List Event) → are_new names past ≡ true → (a : Name)
    → count_by (λ b. same_name b a) names ≡ cond {A = ℕ} (has_name names a) 1 0
count_new [] past new a = refl
count_new (b ∷ bs) past new a = of (same_name b a) refl (count_new bs past (and_parts _ _ (and_parts _ _ new).1).1 a)
  where
    once : has_name bs b ≡ false
    once = not-true (has_name bs b) (and_parts (not (has_name bs b)) (are_new bs past) (and_parts (is_new b past) (not (has_name bs b) && are_new bs past) new).1).0

    of : (s : Bool) → same_name b a ≡ s → count_by (λ c. same_name c a) bs ≡ cond {A = ℕ} (has_name bs a) 1 0
        → count_by (λ c. same_name c a) (b ∷ bs) ≡ cond {A = ℕ} (s || has_name bs a) 1 0
    of true same rest =
        let one : cond {A = ℕ} (same_name b a) 1 0 ≡ 1 = ap (λ v. cond v 1 0) same in
        let none = none_counted a bs (subst (λ c. has_name bs c ≡ false) (same_is b a same) once) in
        omega (arith, count_front (λ c. same_name c a) b bs)
    of false differ rest =
        let none : cond {A = ℕ} (same_name b a) 1 0 ≡ 0 = ap (λ v. cond v 1 0) differ in
        omega (arith, count_front (λ c. same_name c a) b bs)

-- ---- makers

-- who was not begun has no maker
pub maker_unbegun : (a : Name) (past : List Event) → is_begun a past ≡ false → maker_of a past ≡ None
maker_unbegun a [] h = refl
maker_unbegun a (e ∷ past) h =
    let parts = or_parts _ _ (sym (has_name-append (names_begun e.answer) (begun past) a) ∙ h) in
    ap (λ b. cond b (maker_in e.step) (maker_of a past)) parts.0 ∙ maker_unbegun a past parts.1

-- who makes what a step begins is no new action
pub maker_not_new : (s : Step) (names : List Name) (past : List Event) (m : Name) → maker_in s ≡ Some m → has_maker s names past ≡ true
    → are_new names past ≡ true → ((a : Name) → has_name names a ≡ true → IsName a) → has_name names m ≡ false
maker_not_new s names past m makes made new named = of (has_name names m) refl
  where
    old : is_begun m past ≡ true → has_name names m ≡ true → ⊥
    old was has = clash was (new_not_begun m past (one_is_new names past new m has) (named m has).not_empty)

    own : (bs : List Name) → list_all (λ b. is_child m b) bs ≡ true → has_name bs m ≡ true → 1 ≤ length m → ⊥
    own [] all has h = absurd (cc)
    own (b ∷ bs) all has h = elim (or_cases (same_name b m) (has_name bs m) has) [
      | inl same ↦ no_own_child m (subst (λ c. is_child m c ≡ true) (same_is b m same) (and_parts _ _ all).0) h
      | inr later ↦ own bs (and_parts _ _ all).1 later h
    ]

    not_there : (t : Step) → maker_in t ≡ Some m → has_maker t names past ≡ true → has_name names m ≡ true → ⊥
    not_there (NestedTop b) k made has = old (subst (λ c. is_begun c past ≡ true) (same_Some b m k) made) has
    not_there (Arms b kinds) k made has = old (subst (λ c. is_begun c past ≡ true) (same_Some b m k) made) has
    not_there (Call b h) k made has =
        own names (subst (λ c. list_all (λ x. is_child c x) names ≡ true) (same_Some b m k) made) has (named m has).not_empty
    not_there (Top h) k made has = absurd (cc)
    not_there (Op b x wanted) k made has = absurd (cc)
    not_there (Commit b) k made has = absurd (cc)
    not_there (Close b) k made has = absurd (cc)
    not_there (Prepare h b) k made has = absurd (cc)
    not_there (Decide b) k made has = absurd (cc)
    not_there (Abort b) k made has = absurd (cc)
    not_there (Tell h b) k made has = absurd (cc)
    not_there (Crash h) k made has = absurd (cc)
    not_there (Recover h) k made has = absurd (cc)

    of : (b : Bool) → has_name names m ≡ b → b ≡ false
    of true has = absurd (not_there s makes made has)
    of false has = refl

-- the maker of names has them below it, or was begun
makes_nothing : (s : Step) (names : List Name) (past : List Event) (m : Name) → is_exactly (maker_in s) m ≡ true → has_maker s names past ≡ true
    → ((a : Name) → has_name names a ≡ true → IsName a) → (is_begun m past ≡ true → IsName m)
    → list_any (λ c. is_ancestor m c) names ≡ false → list_any (λ c. is_ancestor m c) (begun past) ≡ false → names ≡ []
makes_nothing s names past m makes made named was_named none_new none_old = of s makes made
  where
    old : is_begun m past ≡ true → ⊥
    old was = clash (any_below (begun past) m was (was_named was).not_empty) none_old

    child : (bs : List Name) → ((a : Name) → has_name bs a ≡ true → IsName a) → list_all (λ b. is_child m b) bs ≡ true
        → list_any (λ c. is_ancestor m c) bs ≡ false → bs ≡ []
    child [] are all none = refl
    child (b ∷ bs) are all none =
        let name = are b (ap (λ v. v || has_name bs b) (same_refl b)) in
        absurd (clash (above_child m b (and_parts _ _ all).0 name.not_empty) (or_parts _ _ none).0)

    of : (t : Step) → is_exactly (maker_in t) m ≡ true → has_maker t names past ≡ true → names ≡ []
    of (NestedTop b) k made = absurd (old (subst (λ c. is_begun c past ≡ true) (same_is b m k) made))
    of (Arms b kinds) k made = absurd (old (subst (λ c. is_begun c past ≡ true) (same_is b m k) made))
    of (Call b h) k made = child names named (subst (λ c. list_all (λ x. is_child c x) names ≡ true) (same_is b m k) made) none_new
    of (Top h) k made = absurd (cc)
    of (Op b x wanted) k made = absurd (cc)
    of (Commit b) k made = absurd (cc)
    of (Close b) k made = absurd (cc)
    of (Prepare h b) k made = absurd (cc)
    of (Decide b) k made = absurd (cc)
    of (Abort b) k made = absurd (cc)
    of (Tell h b) k made = absurd (cc)
    of (Crash h) k made = absurd (cc)
    of (Recover h) k made = absurd (cc)

-- ---- crashes

-- a crash is the guardian's own
other_crash : (g h : ℕ) (s : Step) → is_own g s ≡ true → (h == g) ≡ false → step_crashes s h ≡ false
other_crash g h (Crash k) own other = ne_eqb k h (λ e. eqb-false h g other (sym e ∙ eqb-true k g own))
other_crash g h (Top k) own other = refl
other_crash g h (NestedTop b) own other = refl
other_crash g h (Call b k) own other = refl
other_crash g h (Arms b kinds) own other = refl
other_crash g h (Op b x wanted) own other = refl
other_crash g h (Commit b) own other = refl
other_crash g h (Close b) own other = refl
other_crash g h (Prepare k b) own other = refl
other_crash g h (Decide b) own other = refl
other_crash g h (Abort b) own other = refl
other_crash g h (Tell k b) own other = refl
other_crash g h (Recover k) own other = refl

-- ---- ends

-- what a step ends and closes
pub ends_one : (s : Step) (a : Name) → (step_commits s a || step_aborts s a) ≡ is_exactly (ended_in s) a
ends_one (Commit b) a = or_false (same_name b a)
  where
    or_false : (t : Bool) → (t || false) ≡ t
    or_false true = refl
    or_false false = refl
ends_one (Decide b) a = or_false (same_name b a)
  where
    or_false : (t : Bool) → (t || false) ≡ t
    or_false true = refl
    or_false false = refl
ends_one (Abort b) a = refl
ends_one (Crash h) a = refl
ends_one (Top h) a = refl
ends_one (NestedTop b) a = refl
ends_one (Call b h) a = refl
ends_one (Arms b kinds) a = refl
ends_one (Op b x wanted) a = refl
ends_one (Close b) a = refl
ends_one (Prepare h b) a = refl
ends_one (Tell h b) a = refl
ends_one (Recover h) a = refl

pub closes_one : (s : Step) (a : Name) → step_closes s a ≡ is_exactly (closed_in s) a
closes_one (Commit b) a = refl
closes_one (Close b) a = refl
closes_one (Decide b) a = refl
closes_one (Abort b) a = refl
closes_one (Crash h) a = refl
closes_one (Top h) a = refl
closes_one (NestedTop b) a = refl
closes_one (Call b h) a = refl
closes_one (Arms b kinds) a = refl
closes_one (Op b x wanted) a = refl
closes_one (Prepare h b) a = refl
closes_one (Tell h b) a = refl
closes_one (Recover h) a = refl

pub ended_after : (e : Event) (past : List Event) (a : Name) → is_ended a (e ∷ past) ≡ (is_exactly (ended_in e.step) a || is_ended a past)
ended_after e past a =
    paired (step_commits e.step a) (is_committed a past) (step_aborts e.step a) (is_aborted a past) ∙ ap (λ b. b || is_ended a past) (ends_one e.step a)
  where
    paired : (c d x y : Bool) → ((c || d) || (x || y)) ≡ ((c || x) || (d || y))
    paired true d x y = refl
    paired false true true y = refl
    paired false true false y = refl
    paired false false x y = refl

-- who ends or closes was begun
pub ended_was_begun : (s : Step) (past : List Event) (d : Name) → was_begun s past ≡ true → ended_in s ≡ Some d → is_begun d past ≡ true
ended_was_begun (Commit b) past d was k = subst (λ c. is_begun c past ≡ true) (same_Some b d k) was
ended_was_begun (Decide b) past d was k = subst (λ c. is_begun c past ≡ true) (same_Some b d k) was
ended_was_begun (Abort b) past d was k = subst (λ c. is_begun c past ≡ true) (same_Some b d k) was
ended_was_begun (Close b) past d was k = absurd (cc)
ended_was_begun (Crash h) past d was k = absurd (cc)
ended_was_begun (Top h) past d was k = absurd (cc)
ended_was_begun (NestedTop b) past d was k = absurd (cc)
ended_was_begun (Call b h) past d was k = absurd (cc)
ended_was_begun (Arms b kinds) past d was k = absurd (cc)
ended_was_begun (Op b x wanted) past d was k = absurd (cc)
ended_was_begun (Prepare h b) past d was k = absurd (cc)
ended_was_begun (Tell h b) past d was k = absurd (cc)
ended_was_begun (Recover h) past d was k = absurd (cc)

pub closed_was_begun : (s : Step) (past : List Event) (d : Name) → was_begun s past ≡ true → closed_in s ≡ Some d → is_begun d past ≡ true
closed_was_begun (Commit b) past d was k = subst (λ c. is_begun c past ≡ true) (same_Some b d k) was
closed_was_begun (Close b) past d was k = subst (λ c. is_begun c past ≡ true) (same_Some b d k) was
closed_was_begun (Decide b) past d was k = absurd (cc)
closed_was_begun (Abort b) past d was k = absurd (cc)
closed_was_begun (Crash h) past d was k = absurd (cc)
closed_was_begun (Top h) past d was k = absurd (cc)
closed_was_begun (NestedTop b) past d was k = absurd (cc)
closed_was_begun (Call b h) past d was k = absurd (cc)
closed_was_begun (Arms b kinds) past d was k = absurd (cc)
closed_was_begun (Op b x wanted) past d was k = absurd (cc)
closed_was_begun (Prepare h b) past d was k = absurd (cc)
closed_was_begun (Tell h b) past d was k = absurd (cc)
closed_was_begun (Recover h) past d was k = absurd (cc)

-- ---- one event more

-- nothing was begun
pub no_events : (g : ℕ) → AreOf g []
no_events g = record { own = λ h other. refl; named = λ a was. absurd (cc); new = λ m new. refl; made = λ a m. refl }

module _ (g : ℕ) (e : Event) (past : List Event) (are : AreOf g past) (new : are_new (names_begun e.answer) past ≡ true)
    (made : has_maker e.step (names_begun e.answer) past ≡ true) (own : is_own g e.step ≡ true)
    (named : (a : Name) → has_name (names_begun e.answer) a ≡ true → IsName a) where
  abbrev names : List Name
  names = names_begun e.answer

  -- who begins was not begun
  pub absent : (a : Name) → has_name names a ≡ true → is_begun a past ≡ false
  absent a has = new_not_begun a past (one_is_new names past new a has) (named a has).not_empty

  begun_after : (a : Name) → is_begun a (e ∷ past) ≡ (has_name names a || is_begun a past)
  begun_after a = has_name-append names (begun past) a

  made_new : (m : Name) → is_new m (e ∷ past) ≡ true → made_by m (e ∷ past) ≡ []
  made_new m is =
      let parts = or_parts _ _ (sym (list_any-append (λ c. is_ancestor m c) names (begun past)) ∙ not-true _ is) in
      (λ i. none (step_makes e.step m) refl parts.0 parts.1 i ++ are.new m (ap not parts.1) i)
    where
      none : (b : Bool) → step_makes e.step m ≡ b → list_any (λ c. is_ancestor m c) names ≡ false → list_any (λ c. is_ancestor m c) (begun past) ≡ false
          → cond (step_makes e.step m) names [] ≡ []
      none true makes none_new none_old =
          ap (λ b. cond b names []) makes ∙ makes_nothing e.step names past m makes made named (are.named m) none_new none_old
      none false makes none_new none_old = ap (λ b. cond b names []) makes

  made_once : (a m : Name) → count_by (λ b. same_name b a) (made_by m (e ∷ past)) ≡ cond {A = ℕ} (is_exactly (maker_of a (e ∷ past)) m) 1 0
  made_once a m =
      count-append (λ b. same_name b a) (cond (step_makes e.step m) names []) (made_by m past)
      ∙ of (step_makes e.step m) refl (has_name names a) refl
    where
      of : (t : Bool) → step_makes e.step m ≡ t → (s : Bool) → has_name names a ≡ s
          → count_by (λ b. same_name b a) (cond t names []) + count_by (λ b. same_name b a) (made_by m past)
          ≡ cond {A = ℕ} (is_exactly (cond s (maker_in e.step) (maker_of a past)) m) 1 0
      of true makes true has =
          let one : count_by (λ b. same_name b a) names ≡ 1 = count_new names past new a ∙ ap (λ v. cond {A = ℕ} v 1 0) has in
          let before : count_by (λ b. same_name b a) (made_by m past) ≡ 0 =
          are.made a m ∙ ap (λ o. cond {A = ℕ} (is_exactly o m) 1 0) (maker_unbegun a past (absent a has)) in
          let now : cond {A = ℕ} (is_exactly (maker_in e.step) m) 1 0 ≡ 1 = ap (λ v. cond {A = ℕ} v 1 0) makes in
          omega arith
      of true makes false has =
          let none : count_by (λ b. same_name b a) names ≡ 0 = count_new names past new a ∙ ap (λ v. cond {A = ℕ} v 1 0) has in
          let before = are.made a m in
          omega arith
      of false makes true has =
          let before : count_by (λ b. same_name b a) (made_by m past) ≡ 0 =
          are.made a m ∙ ap (λ o. cond {A = ℕ} (is_exactly o m) 1 0) (maker_unbegun a past (absent a has)) in
          let now : cond {A = ℕ} (is_exactly (maker_in e.step) m) 1 0 ≡ 0 = ap (λ v. cond {A = ℕ} v 1 0) makes in
          let none : count_by (λ (b : Name). same_name b a) [] ≡ 0 = refl in
          omega arith
      of false makes false has =
          let none : count_by (λ (b : Name). same_name b a) [] ≡ 0 = refl in
          let before = are.made a m in
          omega arith

  pub more_events : AreOf g (e ∷ past)
  more_events = record {
    own = λ h other.
        ap (λ b. length (cond b (e ∷ filter (λ d. step_crashes d.step h) past) (filter (λ d. step_crashes d.step h) past))) (other_crash g h e.step own other)
        ∙ are.own h other;
    named = λ a was. elim (or_cases (has_name names a) (is_begun a past) (sym (begun_after a) ∙ was)) [ inl has ↦ named a has | inr old ↦ are.named a old ];
    new = made_new;
    made = made_once;
  }
