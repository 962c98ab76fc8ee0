-- Who is known as an orphan is one, so who is refused as an orphan is one.
use Rattle.std.proofs.Common.{Bool, List, None, Option, Some, [], ap, cond, false, inl, inr, lt_irrefl, lt_of_lt_of_le, not, refl, subst, sym, true, ℕ, ◌&&◌, ◌||◌, ◌<◌, ◌==◌, ◌∙◌, ◌∷◌, ◌≡◌}
use Rattle.std.proofs.lemmas.Bool.{and_from, false≢true, ltb-true, not-false, or_cases, or_left, or_parts, or_right}
use Rattle.std.specs.List.{list_any}
use Rattle.action_names.specs.Names.{Name, is_ancestor, same_name, top_of}
use Rattle.run_model.specs.declared.answer.Answer.{Answer}
use Rattle.run_model.specs.declared.answer.Answer.TheVariants.{Refused, VoteNo, VoteYes}
use Rattle.run_model.specs.declared.answer.Refusal.{Refusal}
use Rattle.run_model.specs.declared.answer.Refusal.TheVariants.{Orphan}
use Rattle.run_model.specs.declared.answer.Refusal.TheVariants as why
use Rattle.run_model.specs.declared.history.Event.{Event}
use Rattle.run_model.specs.declared.step.ObjectId.{ObjectId}
use Rattle.run_model.specs.declared.step.Step.{Step}
use Rattle.run_model.specs.declared.step.Step.TheVariants.{Abort, Arms, Call, Close, Commit, Crash, Decide, NestedTop, Op, Prepare, Recover, Tell, Top}
use Rattle.run_model.specs.Actions.{begins, begun, crashes, home_of, incarnation_of, is_aborted, is_begun, is_closed, is_done, step_crashes}
use Rattle.run_model.specs.Answers.{answer_of, granted_or_waits, outcome, refused_or}
use Rattle.run_model.specs.Dependencies.{dependency}
use Rattle.run_model.specs.Keeping.{blockers}
use Rattle.run_model.specs.Lists.{guardians_of, is_below, is_known_orphan, known_crashes, knows_abort}
use Rattle.run_model.specs.Refusals.{Check, checks, first_refusal}
use Rattle.run_model.specs.Openings.{Opening}
use Rattle.run_model.specs.Texts.{refusal_number}
use Rattle.run_model.specs.Runs.{IsRun}
use Rattle.run_model.specs.Visibility.{has_prepared, is_lost, is_orphan, is_visible, votes_yes}
use Rattle.run_model.specs.Votes.{may_prepare}
use Rattle.run_laws.specs.Laws.{RefusedOrphansAreOrphans, actor_of}
use Rattle.run_laws.proofs.Accepted.{asked}
use Rattle.run_laws.proofs.Active.{nothing_active_below_done}
use Rattle.run_laws.proofs.Begun.{begins_no_crash, begun_cases, nameless}
use Rattle.run_laws.proofs.Homes.{as_before, crashes_next, home_more, incarnation_new}
use Rattle.run_laws.proofs.Kept.{prepared_closed}
use Rattle.run_laws.proofs.Known.{known_abort, known_count}
use Rattle.run_laws.proofs.Names.{any_ancestor_from, any_ancestor_use, any_name, clash, same_name_self, top_facts}
use Rattle.run_laws.proofs.Sources.{IsSource, dependency_source}
use Rattle.atomic_types.specs.Operations as op

-- an action whose home crashed since it began is lost, where that home has not prepared its tree
crashed_lost : (opening : Opening) (past : List Event) (b : Name) → IsRun opening past → is_begun b past ≡ true
    → incarnation_of b past < crashes (home_of b past) past
    → has_prepared (home_of b past) (top_of b) past ≡ false → is_lost b past ≡ true
crashed_lost opening [] b r k l p = absurd (false≢true k)
crashed_lost opening (e ∷ past) b r k l p = elim (begun_cases e past b k) [
  | inl x ↦ absurd (new x)
  | inr x ↦ old x (λ m q. crashed_lost opening past b r.2 x m q) (step_crashes e.step (home_of b past)) refl
]
  where
    new : begins e b ≡ true → ⊥
    new x =
        let g = home_of b (e ∷ past) in
        lt_irrefl (crashes g past) (subst (λ m. crashes g past < m) (crashes_next e past g false (begins_no_crash opening e past b g r x))
        (subst (λ m. m < crashes g (e ∷ past)) (incarnation_new e past b x) l))

    old : is_begun b past ≡ true
        → (incarnation_of b past < crashes (home_of b past) past → has_prepared (home_of b past) (top_of b) past ≡ false
        → is_lost b past ≡ true)
        → (t : Bool) → step_crashes e.step (home_of b past) ≡ t → is_lost b (e ∷ past) ≡ true
    old x ih t c = finish t c
      where
        unprepared : has_prepared (home_of b past) (top_of b) past ≡ false
        unprepared =
            let q : has_prepared (home_of b past) (top_of b) (e ∷ past) ≡ false =
            sym (ap (λ h. has_prepared h (top_of b) (e ∷ past)) (home_more opening e past b r x)) ∙ p in
            (or_parts (votes_yes e.step e.answer (home_of b past) (top_of b)) _ q).1

        older : incarnation_of b past < crashes (home_of b past) (e ∷ past)
        older =
            as_before opening e past b r x (λ g i. i < crashes g (e ∷ past) → incarnation_of b past < crashes (home_of b past) (e ∷ past))
            (λ m. m) l

        finish : (t : Bool) → step_crashes e.step (home_of b past) ≡ t → is_lost b (e ∷ past) ≡ true
        finish true c = or_right _ _ (and_from _ _ x (and_from _ _ c (ap not unprepared)))
        finish false c =
            or_left _ _ (ih (subst (λ m. incarnation_of b past < m) (crashes_next e past (home_of b past) false c) older) unprepared)

-- a dependency below a count is there
below_cases : (o : Option ℕ) (m : ℕ) → is_below o m ≡ true → (n : ℕ) × (o ≡ Some n) × (n < m)
below_cases None m h = absurd (false≢true h)
below_cases (Some n) m h = (n, refl, ltb-true n m h)

-- some number of a list passes
any_number : (p : ℕ → Bool) (ns : List ℕ) → list_any p ns ≡ true → (n : ℕ) × (p n ≡ true)
any_number p [] h = absurd (false≢true h)
any_number p (n ∷ ns) h = elim (or_cases _ _ h) [ inl x ↦ (n, x) | inr x ↦ any_number p ns x ]

-- A known orphan that is not done is one: a known abort came, and the source of a dependency below a known count is lost.
known_is_orphan : (opening : Opening) (past : List Event) (g : ℕ) (a : Name) → IsRun opening past → is_begun a past ≡ true
    → is_done a past ≡ false
    → is_known_orphan opening a g past ≡ true → is_orphan a past ≡ true
known_is_orphan opening past g a r k u h = elim (or_cases _ _ h) [
  | inl x ↦ let (c, l, y) = any_ancestor_use (λ c. knows_abort g c past) a x in doomed c l (known_abort g c past y)
  | inr x ↦
      let (y, z) = any_number (λ x. is_below (dependency a x past) (known_crashes g x past)) (guardians_of opening) x in
      let (n, d, l) = below_cases (dependency a y past) (known_crashes g y past) z in
      let (b, s) = dependency_source opening past a y n r k d in
      lost y n b s (lt_of_lt_of_le l (known_count g y past)) (has_prepared (home_of b past) (top_of b) past) refl
]
  where
    doomed : (c : Name) → is_ancestor c a ≡ true → is_aborted c past ≡ true → is_orphan a past ≡ true
    doomed c l x = or_left _ _ (any_ancestor_from (λ d. is_aborted d past) a c l x)

    lost : (y n : ℕ) (b : Name) → IsSource a b y n past → n < crashes y past → (t : Bool)
        → has_prepared (home_of b past) (top_of b) past ≡ t → is_orphan a past ≡ true
    lost y n b s l true p =
        let top = top_facts a (nameless opening past a r k) in
        let closed = prepared_closed opening past (home_of b past) (top_of b) r p in
        let (f, m, x) =
        nothing_active_below_done opening past (top_of a) a r k u top.1
        (or_right _ _ (sym (ap (λ t. is_closed t past) s.tree) ∙ closed)) in
        doomed f m x
    lost y n b s l false p =
        let older = subst (λ m. m < crashes (home_of b past) past) (sym s.place.1) (subst (λ g. n < crashes g past) (sym s.place.0) l) in
        let is_lost_here = crashed_lost opening past b r s.was_begun older p in
        or_right _ _ (any_name (λ d. same_name (top_of d) (top_of a) && (is_lost d past && is_visible d a past)) (begun past) b s.was_begun
        (and_from _ _ (ap (λ t. same_name t (top_of a)) s.tree ∙ same_name_self (top_of a)) (and_from _ _ is_lost_here s.visible)))

-- some refusal of this name applies
abbrev applies_among : Refusal → List Check → Bool
applies_among why [] = false
applies_among why (c ∷ cs) = ((refusal_number c.0 == refusal_number why) && c.1) || applies_among why cs

-- in the list, the refusal of this name stands before that of an orphan
abbrev is_before_orphan : Refusal → List Check → Bool
is_before_orphan why [] = false
is_before_orphan why (c ∷ cs) =
    cond (refusal_number c.0 == refusal_number Orphan) false ((refusal_number c.0 == refusal_number why) || is_before_orphan why cs)

-- where the first refusal is that of an orphan, that one applies
orphan_applies : (cs : List Check) → first_refusal cs ≡ Some Orphan → applies_among Orphan cs ≡ true
orphan_applies [] h = cc
orphan_applies (c ∷ cs) h = of c.1 h (orphan_applies cs)
  where
    of : (t : Bool) → cond t (Some c.0) (first_refusal cs) ≡ Some Orphan
        → (first_refusal cs ≡ Some Orphan → applies_among Orphan cs ≡ true)
        → (((refusal_number c.0 == refusal_number Orphan) && t) || applies_among Orphan cs) ≡ true
    of true h later =
        let named : c.0 ≡ Orphan = cc in
        ap (λ n. ((refusal_number n == refusal_number Orphan) && true) || applies_among Orphan cs) named
    of false h later = or_right _ _ (later h)

-- and what stands before it does not
before_orphan : (why : Refusal) (cs : List Check) → first_refusal cs ≡ Some Orphan → is_before_orphan why cs ≡ true → asked why cs ≡ false
before_orphan why [] h k = absurd (false≢true k)
before_orphan why (c ∷ cs) h k = of c.1 h (refusal_number c.0 == refusal_number Orphan) refl k (before_orphan why cs)
  where
    Later : Type 0
    Later = first_refusal cs ≡ Some Orphan → is_before_orphan why cs ≡ true → asked why cs ≡ false

    later : (t : Bool) → (t || is_before_orphan why cs) ≡ true → first_refusal cs ≡ Some Orphan → Later → cond t false (asked why cs) ≡ false
    later true k h others = refl
    later false k h others = others h k

    of : (t : Bool) → cond t (Some c.0) (first_refusal cs) ≡ Some Orphan → (orphan : Bool) → (refusal_number c.0 == refusal_number Orphan) ≡ orphan
        → cond orphan false ((refusal_number c.0 == refusal_number why) || is_before_orphan why cs) ≡ true → Later
        → cond (refusal_number c.0 == refusal_number why) t (asked why cs) ≡ false
    of t h true q k others = absurd (false≢true k)
    of true h false q k others =
        let named : c.0 ≡ Orphan = cc in
        absurd (false≢true (sym q ∙ ap (λ n. refusal_number n == refusal_number Orphan) named))
    of false h false q k others = later (refusal_number c.0 == refusal_number why) k h others

-- no outcome is a refusal
refused_first : (opening : Opening) (step : Step) (past : List Event)
    → refused_or (first_refusal (checks opening step past)) (outcome opening step past) ≡ Refused Orphan
    → first_refusal (checks opening step past) ≡ Some Orphan
refused_first opening step past h = of (first_refusal (checks opening step past)) (outcome opening step past) h (none step)
  where
    refuses : Answer → Bool
    refuses (Refused why) = true
    refuses _ = false

    granted : (x : ObjectId) (wanted : op.Op) (bs : List Name) → refuses (granted_or_waits opening x wanted past bs) ≡ false
    granted x wanted [] = refl
    granted x wanted (b ∷ bs) = refl

    vote : (t : Bool) → refuses (cond t VoteYes VoteNo) ≡ false
    vote true = refl
    vote false = refl

    none : (step : Step) → refuses (outcome opening step past) ≡ false
    none (Op a x wanted) = granted x wanted (blockers a x wanted past)
    none (Prepare g t) = vote (may_prepare g t past)
    none _ = refl

    of : (o : Option Refusal) (answer : Answer) → refused_or o answer ≡ Refused Orphan → refuses answer ≡ false → o ≡ Some Orphan
    of None answer h n = absurd (clash (ap refuses h) n)
    of (Some why) answer h n = let e : Refused why ≡ Refused Orphan = h in cc

-- The law: the refusals in front say that the action was begun and is not done.
pub refused_orphans_are_orphans : RefusedOrphansAreOrphans
unfolding answer_of
refused_orphans_are_orphans opening past step r h = of step (refused_first opening step past h)
  where
    IsActor : Step → Type 0
    IsActor step = (a : Name) × (actor_of step ≡ Some a) × (is_orphan a past ≡ true)

    known : (a : Name) → is_begun a past ≡ true → is_done a past ≡ false → is_known_orphan opening a (home_of a past) past ≡ true
        → is_orphan a past ≡ true
    known a b u k = known_is_orphan opening past (home_of a past) a r b u k

    only : (x : Bool) → (x || false) ≡ true → x ≡ true
    only true h = refl
    only false h = h

    of : (step : Step) → first_refusal (checks opening step past) ≡ Some Orphan → IsActor step
    of (NestedTop a) f =
        let cs = checks opening (NestedTop a) past in
        (a, refl, known a (not-false _ (before_orphan why.NoAction cs f refl)) (before_orphan why.Ended cs f refl) (only _ (orphan_applies cs f)))
    of (Call a g) f =
        let cs = checks opening (Call a g) past in
        (a, refl, known a (not-false _ (before_orphan why.NoAction cs f refl)) (before_orphan why.Ended cs f refl) (only _ (orphan_applies cs f)))
    of (Arms a kinds) f =
        let cs = checks opening (Arms a kinds) past in
        (a, refl, known a (not-false _ (before_orphan why.NoAction cs f refl)) (before_orphan why.Ended cs f refl) (only _ (orphan_applies cs f)))
    of (Op a x wanted) f =
        let cs = checks opening (Op a x wanted) past in
        (a, refl, known a (not-false _ (before_orphan why.NoAction cs f refl)) (before_orphan why.Ended cs f refl) (only _ (orphan_applies cs f)))
    of (Commit a) f =
        let cs = checks opening (Commit a) past in
        (a, refl, known a (not-false _ (before_orphan why.NoAction cs f refl)) (before_orphan why.Ended cs f refl) (only _ (orphan_applies cs f)))
    of (Close a) f =
        let cs = checks opening (Close a) past in
        (a, refl, known a (not-false _ (before_orphan why.NoAction cs f refl)) (before_orphan why.Ended cs f refl) (only _ (orphan_applies cs f)))
    of (Top g) f = absurd (false≢true (orphan_applies (checks opening (Top g) past) f))
    of (Prepare g t) f = absurd (false≢true (orphan_applies (checks opening (Prepare g t) past) f))
    of (Decide t) f = absurd (false≢true (orphan_applies (checks opening (Decide t) past) f))
    of (Abort a) f = absurd (false≢true (orphan_applies (checks opening (Abort a) past) f))
    of (Tell g a) f = absurd (false≢true (orphan_applies (checks opening (Tell g a) past) f))
    of (Crash g) f = absurd (false≢true (orphan_applies (checks opening (Crash g) past) f))
    of (Recover g) f = absurd (false≢true (orphan_applies (checks opening (Recover g) past) f))
