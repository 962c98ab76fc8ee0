-- What one event more makes of the actions that crashes have lost or would lose.
use Rattle.std.proofs.Common.{◌≡◌, ℕ, ◌+◌, ◌<◌, ◌≤◌, Bool, true, false, cond, not, ◌&&◌, ◌||◌, ◌==◌, List, [], ◌∷◌, ◌++◌, length, get_or, take, None, refl, sym, ap, subst, ◌∙◌, arith, inl, inr}
use Rattle.std.specs.BTreeMap.{get}
use Rattle.std.specs.BTreeSet.{BTreeSet, contains}
use Rattle.std.specs.Ordering.{eq_by_cmp, is_eq, nat_cmp, ordering_then}
use Rattle.std.specs.declared.cmp.Ordering.{Ordering}
use Rattle.std.specs.declared.cmp.Ordering.TheVariants.{Less, Equal, Greater}
use Rattle.std.proofs.lemmas.Bool.{and_from, and_parts, eq-eqb, eqb-true, false≢true, or_cases, or_left, or_parts, or_right, true≢false}
use Rattle.std.proofs.lemmas.Bool.Decides.{nat_tests}
use Rattle.std.proofs.lemmas.List.{take_more}
use Rattle.action_names.specs.Comparison.{same_name-ties}
use Rattle.action_names.specs.Names.{Name, has_name, is_top, last_of, name_cmp, same_name, top_of}
use Rattle.run_model.specs.declared.history.Event.{Event}
use Rattle.run_model.specs.declared.step.Step.{Step}
use Rattle.run_model.specs.declared.step.Step.TheVariants.{Top, NestedTop, Call, Arms, Op, Commit, Close, Prepare, Decide, Abort, Tell, Crash, Recover}
use Rattle.run_model.specs.Actions.{begins, begun, home_in, home_of, is_begun, names_begun, step_crashes}
use Rattle.run_model.specs.Visibility.{has_prepared, is_lost, votes_yes}
use Rattle.run_laws.proofs.Names.{has_name_append, same_name_true}
use Rattle.picture.specs.declared.bars.Bars.{Bars}
use Rattle.picture.specs.declared.losses.Losses.{Losses}
use Rattle.picture.specs.Layouts.{AreBars}
use Rattle.picture.specs.Losses.{AreLosses, exposed_in, falls, is_taken, pair_cmp}
use Rattle.picture.proofs.Beginnings.{home_kept}

same : (s t : Bool) → (s ≡ true → t ≡ true) → (t ≡ true → s ≡ true) → s ≡ t
same true t there back = sym (there refl)
same false true there back = back refl
same false false there back = refl

eqb_swap : (m n : ℕ) → (m == n) ≡ (n == m)
eqb_swap m n = same _ _ (λ h. eq-eqb n m (sym (eqb-true m n h))) (λ h. eq-eqb m n (sym (eqb-true n m h)))

-- ---- one name more that a crash loses

-- a name that falls was put into a set
pub lost_more : (s n : BTreeSet Name) (k b q : Name) (f : Name → Bool) → k ≡ b → f b ≡ true
    → contains name_cmp n q ≡ cond (eq_by_cmp name_cmp k q) true (contains name_cmp s q)
    → contains name_cmp n q ≡ (contains name_cmp s q || (same_name b q && f q))
lost_more s n k b q f is falls_here put =
    put ∙ ap (λ t. cond t true (contains name_cmp s q)) (sym (same_name-ties k q) ∙ ap (λ a. same_name a q) is)
    ∙ step (same_name b q) (contains name_cmp s q) (λ e. sym (ap f (same_name_true b q e)) ∙ falls_here)
  where
    step : (t u : Bool) → (t ≡ true → f q ≡ true) → cond t true u ≡ (u || (t && f q))
    step true true h = refl
    step true false h = sym (h refl)
    step false true h = refl
    step false false h = refl

-- a name that does not fall was left out
pub lost_same : (s : BTreeSet Name) (b q : Name) (f : Name → Bool) → f b ≡ false → contains name_cmp s q ≡ (contains name_cmp s q || (same_name b q && f q))
lost_same s b q f stays = step (same_name b q) (contains name_cmp s q) (λ e. sym (ap f (same_name_true b q e)) ∙ stays)
  where
    step : (t u : Bool) → (t ≡ true → f q ≡ false) → u ≡ (u || (t && f q))
    step true true h = refl
    step true false h = sym (h refl)
    step false true h = refl
    step false false h = refl

-- so many of the names were looked at
abbrev pub AreLooked : BTreeSet Name → BTreeSet Name → (Name → Bool) → List Name → Type 0
AreLooked old now f names = (q : Name) → contains name_cmp now q ≡ (contains name_cmp old q || (has_name names q && f q))

pub none_looked : (old : BTreeSet Name) (f : Name → Bool) → AreLooked old old f []
none_looked old f q = step (contains name_cmp old q)
  where
    step : (u : Bool) → u ≡ (u || false)
    step true = refl
    step false = refl

has_name-push : (names : List Name) (a q : Name) → has_name (names ++ a ∷ []) q ≡ (has_name names q || same_name a q)
has_name-push names a q = has_name_append names (a ∷ []) q ∙ ap (λ t. has_name names q || t) (or_false (same_name a q))
  where
    or_false : (t : Bool) → (t || false) ≡ t
    or_false true = refl
    or_false false = refl

pub one_looked : (old now new : BTreeSet Name) (f : Name → Bool) (names : List Name) (i : ℕ) (a : Name) → i < length names → a ≡ get_or names i a
    → AreLooked old now f (take i names) → ((q : Name) → contains name_cmp new q ≡ (contains name_cmp now q || (same_name a q && f q)))
    → AreLooked old new f (take (i + 1) names)
one_looked old now new f names i a lt item so_far put =
    let more : take (i + 1) names ≡ take i names ++ a ∷ [] = take_more names i a lt ∙ ap (λ (x : Name). take i names ++ x ∷ []) (sym item) in
    λ q.
    put q ∙ ap (λ t. t || (same_name a q && f q)) (so_far q)
    ∙ both (contains name_cmp old q) (has_name (take i names) q) (same_name a q) (f q)
    ∙ ap (λ t. contains name_cmp old q || (t && f q)) (sym (has_name-push (take i names) a q))
    ∙ ap (λ (ns : List Name). contains name_cmp old q || (has_name ns q && f q)) (sym more)
  where
    both : (s t u v : Bool) → ((s || (t && v)) || (u && v)) ≡ (s || ((t || u) && v))
    both true t u v = refl
    both false true u true = refl
    both false true true false = refl
    both false true false false = refl
    both false false u v = refl

-- ---- votes

pair_ties : (h m g n : ℕ) → eq_by_cmp pair_cmp (h, m) (g, n) ≡ ((h == g) && (m == n))
pair_ties h m g n = step (nat_cmp h g) (nat_cmp m n) (h == g) (m == n) (ties h g) (ties m n)
  where
    ties : (x y : ℕ) → is_eq (nat_cmp x y) ≡ (x == y)
    ties x y = grind (arith, nat_tests)

    step : (o p : Ordering) (s t : Bool) → is_eq o ≡ s → is_eq p ≡ t → is_eq (ordering_then o p) ≡ (s && t)
    step Less p s t d e = ap (λ x. x && t) d
    step Equal p s t d e = e ∙ ap (λ x. x && t) d
    step Greater p s t d e = ap (λ x. x && t) d

-- a vote on a top action was put into a set
pub prepared_more : (s t : BTreeSet (ℕ × ℕ)) (h : ℕ) (top : Name) (g n : ℕ) → is_top top ≡ true
    → contains pair_cmp t (g, n) ≡ cond (eq_by_cmp pair_cmp (h, last_of top) (g, n)) true (contains pair_cmp s (g, n))
    → contains pair_cmp t (g, n) ≡ (((h == g) && same_name top (n ∷ [])) || contains pair_cmp s (g, n))
prepared_more s t h [] g n is put = absurd (false≢true is)
prepared_more s t h (m ∷ []) g n is put =
    put ∙ ap (λ b. cond b true (contains pair_cmp s (g, n))) (pair_ties h m g n) ∙ step (h == g) (m == n) (contains pair_cmp s (g, n))
  where
    step : (a b c : Bool) → cond (a && b) true c ≡ ((a && (b && true)) || c)
    step true true c = refl
    step true false c = refl
    step false b c = refl
prepared_more s t h (m ∷ k ∷ top) g n is put = absurd (false≢true is)

-- a vote on another action is none on a top action
pub prepared_same : (h : ℕ) (top : Name) (g n : ℕ) (c : Bool) → is_top top ≡ false → c ≡ (((h == g) && same_name top (n ∷ [])) || c)
prepared_same h [] g n c is = step (h == g) c
  where
    step : (a c : Bool) → c ≡ ((a && false) || c)
    step true c = refl
    step false c = refl
prepared_same h (m ∷ []) g n c is = absurd (true≢false is)
prepared_same h (m ∷ k ∷ top) g n c is = step (h == g) (m == n) c
  where
    step : (a b c : Bool) → c ≡ ((a && (b && false)) || c)
    step true true c = refl
    step true false c = refl
    step false b c = refl

-- ---- one event more

-- a step that is no crash loses nothing
quiet : (losses : Losses) (past : List Event) (m : ℕ) (d : Name) → AreLosses losses past
    → (contains name_cmp losses.lost (m ∷ d) || false)
    ≡ (is_lost (m ∷ d) past || (is_begun (m ∷ d) past && (false && not (has_prepared (home_of (m ∷ d) past) (m ∷ []) past))))
quiet losses past m d are = ap (λ t. t || false) (are.lost (m ∷ d) (omega arith)) ∙ step (is_lost (m ∷ d) past) (is_begun (m ∷ d) past)
  where
    step : (t b : Bool) → (t || false) ≡ (t || (b && false))
    step true b = refl
    step false true = refl
    step false false = refl

-- the actions that are lost then
lost_after : (losses new : Losses) (bars : Bars) (step : Step) (past : List Event) → AreBars bars past → AreLosses losses past
    → ((q : Name) → contains name_cmp new.lost q ≡ (contains name_cmp losses.lost q || is_taken losses bars step q))
    → (m : ℕ) (d : Name)
    → contains name_cmp new.lost (m ∷ d)
    ≡ (is_lost (m ∷ d) past || (is_begun (m ∷ d) past && (step_crashes step (home_of (m ∷ d) past) && not (has_prepared (home_of (m ∷ d) past) (m ∷ []) past))))
lost_after losses new bars (Crash g) past bars_are are lost m d =
    lost (m ∷ d) ∙ ap (λ t. t || is_taken losses bars (Crash g) (m ∷ d)) (are.lost (m ∷ d) (omega arith))
    ∙ go (is_lost (m ∷ d) past) refl
  where
    kept : falls losses.prepared bars g (m ∷ d) ≡ ((home_of (m ∷ d) past == g) && not (has_prepared g (m ∷ []) past))
    kept =
        ap (λ x. (x == g) && not (contains pair_cmp losses.prepared (g, m))) (home_kept bars past (m ∷ d) bars_are)
        ∙ ap (λ t. (home_of (m ∷ d) past == g) && not t) (are.prepared g m)

    here : is_lost (m ∷ d) past ≡ false
        → (has_name (exposed_in (get nat_cmp losses.exposed g)) (m ∷ d) && ((home_of (m ∷ d) past == g) && not (has_prepared g (m ∷ []) past)))
        ≡ (is_begun (m ∷ d) past && ((g == home_of (m ∷ d) past) && not (has_prepared (home_of (m ∷ d) past) (m ∷ []) past)))
    here not_lost = same _ _
        (λ k.
        let p = and_parts _ _ k in
        let q = and_parts _ _ p.1 in
        let e = eqb-true (home_of (m ∷ d) past) g q.0 in
        and_from _ _ (are.was_begun g (m ∷ d) p.0)
        (and_from _ _ (eq-eqb g (home_of (m ∷ d) past) (sym e)) (subst (λ x. not (has_prepared x (m ∷ []) past) ≡ true) (sym e) q.1)))
        (λ k.
        let p = and_parts _ _ k in
        let q = and_parts _ _ p.1 in
        let e = eqb-true g (home_of (m ∷ d) past) q.0 in
        and_from _ _
        (subst (λ x. has_name (exposed_in (get nat_cmp losses.exposed x)) (m ∷ d) ≡ true) (sym e)
        (are.exposed (m ∷ d) (omega arith) p.0 not_lost (untrue _ q.1)))
        (and_from _ _ (eq-eqb (home_of (m ∷ d) past) g (sym e)) (subst (λ x. not (has_prepared x (m ∷ []) past) ≡ true) (sym e) q.1)))
      where
        untrue : (t : Bool) → not t ≡ true → t ≡ false
        untrue true k = absurd (false≢true k)
        untrue false k = refl

    go : (t : Bool) → is_lost (m ∷ d) past ≡ t
        → (is_lost (m ∷ d) past || is_taken losses bars (Crash g) (m ∷ d))
        ≡ (is_lost (m ∷ d) past || (is_begun (m ∷ d) past && ((g == home_of (m ∷ d) past) && not (has_prepared (home_of (m ∷ d) past) (m ∷ []) past))))
    go true e = or_left _ _ e ∙ sym (or_left _ _ e)
    go false e =
        ap (λ t. is_lost (m ∷ d) past || t)
        (ap (λ t. has_name (exposed_in (get nat_cmp losses.exposed g)) (m ∷ d) && t) kept ∙ here e)
lost_after losses new bars (Top g) past bars_are are lost m d = lost (m ∷ d) ∙ quiet losses past m d are
lost_after losses new bars (NestedTop a) past bars_are are lost m d = lost (m ∷ d) ∙ quiet losses past m d are
lost_after losses new bars (Call a g) past bars_are are lost m d = lost (m ∷ d) ∙ quiet losses past m d are
lost_after losses new bars (Arms a kinds) past bars_are are lost m d = lost (m ∷ d) ∙ quiet losses past m d are
lost_after losses new bars (Op a x o) past bars_are are lost m d = lost (m ∷ d) ∙ quiet losses past m d are
lost_after losses new bars (Commit a) past bars_are are lost m d = lost (m ∷ d) ∙ quiet losses past m d are
lost_after losses new bars (Close a) past bars_are are lost m d = lost (m ∷ d) ∙ quiet losses past m d are
lost_after losses new bars (Prepare g a) past bars_are are lost m d = lost (m ∷ d) ∙ quiet losses past m d are
lost_after losses new bars (Decide a) past bars_are are lost m d = lost (m ∷ d) ∙ quiet losses past m d are
lost_after losses new bars (Abort a) past bars_are are lost m d = lost (m ∷ d) ∙ quiet losses past m d are
lost_after losses new bars (Tell g a) past bars_are are lost m d = lost (m ∷ d) ∙ quiet losses past m d are
lost_after losses new bars (Recover g) past bars_are are lost m d = lost (m ∷ d) ∙ quiet losses past m d are

-- two lists of names, one behind the other
in_both : (xs ys : List Name) (q : Name) → has_name (xs ++ ys) q ≡ (has_name xs q || has_name ys q)
in_both xs ys q = has_name_append xs ys q

-- What is kept after one event more: with the actions that the event began, and the vote that it is.
pub one_event : (old mid new : Losses) (bars : Bars) (e : Event) (home : ℕ) (past : List Event) → AreBars bars past → AreLosses old past
    → ((g : ℕ) → get nat_cmp mid.exposed g ≡ cond (step_crashes e.step g) None (get nat_cmp old.exposed g))
    → ((q : Name) → contains name_cmp new.lost q ≡ (contains name_cmp old.lost q || is_taken old bars e.step q))
    → home ≡ home_in e.step (λ b. home_of b past)
    → ((g : ℕ) → exposed_in (get nat_cmp new.exposed g)
    ≡ cond (home == g) (exposed_in (get nat_cmp mid.exposed g) ++ names_begun e.answer) (exposed_in (get nat_cmp mid.exposed g)))
    → ((g n : ℕ) → contains pair_cmp new.prepared (g, n) ≡ (votes_yes e.step e.answer g (n ∷ []) || contains pair_cmp old.prepared (g, n)))
    → AreLosses new (e ∷ past)
one_event old mid new bars e home past bars_are are crashed lost is grown voted = record {
  lost = named_lost;
  prepared = λ g n. voted g n ∙ ap (λ t. votes_yes e.step e.answer g (n ∷ []) || t) (are.prepared g n);
  was_begun = was_begun_then;
  exposed = named_exposed;
}
  where
    named_lost : (b : Name) → 1 ≤ length b → contains name_cmp new.lost b ≡ is_lost b (e ∷ past)
    named_lost [] named = absurd (omega arith)
    named_lost (m ∷ d) named = lost_after old new bars e.step past bars_are are lost m d

    -- after a crash less is exposed
    less : (t : Bool) (g : ℕ) (b : Name) → has_name (exposed_in (cond t None (get nat_cmp old.exposed g))) b ≡ true
        → has_name (exposed_in (get nat_cmp old.exposed g)) b ≡ true
    less true g b h = absurd (false≢true h)
    less false g b h = h

    was_begun_then : (g : ℕ) (b : Name) → has_name (exposed_in (get nat_cmp new.exposed g)) b ≡ true → is_begun b (e ∷ past) ≡ true
    was_begun_then g b h =
        has_name_append (names_begun e.answer) (begun past) b
        ∙ go (home == g) (sym (ap (λ names. has_name names b) (grown g)) ∙ h)
      where
        old_one : has_name (exposed_in (get nat_cmp mid.exposed g)) b ≡ true → is_begun b past ≡ true
        old_one k = are.was_begun g b (less (step_crashes e.step g) g b (sym (ap (λ o. has_name (exposed_in o) b) (crashed g)) ∙ k))

        go : (t : Bool) → has_name (cond t (exposed_in (get nat_cmp mid.exposed g) ++ names_begun e.answer) (exposed_in (get nat_cmp mid.exposed g))) b ≡ true
            → (has_name (names_begun e.answer) b || is_begun b past) ≡ true
        go true k = elim (or_cases _ _ (sym (in_both (exposed_in (get nat_cmp mid.exposed g)) (names_begun e.answer) b) ∙ k)) [
          | inl l ↦ or_right _ _ (old_one l)
          | inr l ↦ or_left _ _ l
        ]
        go false k = or_right _ _ (old_one k)

    -- what was exposed, or has just begun at this home, is exposed
    grows : (g : ℕ) (b : Name) → has_name (exposed_in (get nat_cmp mid.exposed g)) b ≡ true → has_name (exposed_in (get nat_cmp new.exposed g)) b ≡ true
    grows g b k = ap (λ names. has_name names b) (grown g) ∙ go (home == g)
      where
        go : (t : Bool) → has_name (cond t (exposed_in (get nat_cmp mid.exposed g) ++ names_begun e.answer) (exposed_in (get nat_cmp mid.exposed g))) b ≡ true
        go true = in_both (exposed_in (get nat_cmp mid.exposed g)) (names_begun e.answer) b ∙ or_left _ _ k
        go false = k

    begins_here : (g : ℕ) (b : Name) → home ≡ g → begins e b ≡ true → has_name (exposed_in (get nat_cmp new.exposed g)) b ≡ true
    begins_here g b at k =
        ap (λ names. has_name names b) (grown g)
        ∙ ap (λ t. has_name (cond t (exposed_in (get nat_cmp mid.exposed g) ++ names_begun e.answer) (exposed_in (get nat_cmp mid.exposed g))) b) (eq-eqb home g at)
        ∙ in_both (exposed_in (get nat_cmp mid.exposed g)) (names_begun e.answer) b ∙ or_right _ _ k

    named_exposed : (b : Name) → 1 ≤ length b → is_begun b (e ∷ past) ≡ true → is_lost b (e ∷ past) ≡ false
        → has_prepared (home_of b (e ∷ past)) (top_of b) (e ∷ past) ≡ false
        → has_name (exposed_in (get nat_cmp new.exposed (home_of b (e ∷ past)))) b ≡ true
    named_exposed b named now not_lost not_prepared = go (begins e b) refl
      where
        only : (s t : Bool) → s ≡ false → (s || t) ≡ true → t ≡ true
        only true t h k = absurd (true≢false h)
        only false t h k = k

        standing : (s t u : Bool) → s ≡ true → u ≡ false → (s && (t && not u)) ≡ false → t ≡ false
        standing true true true h k l = absurd (true≢false k)
        standing true true false h k l = absurd (true≢false l)
        standing true false u h k l = refl
        standing false t u h k l = absurd (false≢true h)

        go : (t : Bool) → begins e b ≡ t → has_name (exposed_in (get nat_cmp new.exposed (home_of b (e ∷ past)))) b ≡ true
        go true k =
            ap (λ t. has_name (exposed_in (get nat_cmp new.exposed (cond t (home_in e.step (λ c. home_of c past)) (home_of b past)))) b) k
            ∙ begins_here (home_in e.step (λ c. home_of c past)) b is k
        go false k =
            let home_is : home_of b (e ∷ past) ≡ home_of b past = ap (λ t. cond t (home_in e.step (λ c. home_of c past)) (home_of b past)) k in
            let older : is_begun b past ≡ true = only (has_name (names_begun e.answer) b) (is_begun b past) k
            (sym (has_name_append (names_begun e.answer) (begun past) b) ∙ now) in
            let l = or_parts _ _ not_lost in
            let p = or_parts _ _ (subst (λ h. has_prepared h (top_of b) (e ∷ past) ≡ false) home_is not_prepared) in
            let was = are.exposed b named older l.0 p.1 in
            let up : step_crashes e.step (home_of b past) ≡ false = standing (is_begun b past) (step_crashes e.step (home_of b past))
            (has_prepared (home_of b past) (top_of b) past) older p.1 l.1 in
            ap (λ h. has_name (exposed_in (get nat_cmp new.exposed h)) b) home_is
            ∙ grows (home_of b past) b
            (ap (λ o. has_name (exposed_in o) b) (crashed (home_of b past))
            ∙ ap (λ t. has_name (exposed_in (cond t None (get nat_cmp old.exposed (home_of b past)))) b) up ∙ was)
