-- What a store knows of top actions has smaller numbers than what begins in the next run.
use Rattle.std.proofs.Common.{Bool, List, [], ap, arith, cond, false, fold, inl, inr, is_none, le_refl, le_trans, length, max, refl, subst, suc, sym, true, zero, ℕ, ◌<◌, ◌==◌, ◌∙◌, ◌∷◌, ◌≡◌, ◌≤◌, ◌||◌}
use Rattle.std.proofs.lemmas.Bool.{and_from, and_parts, false≢true, or_cases}
use Rattle.std.proofs.lemmas.Bool.Decides.{nat_tests}
use Rattle.std.specs.List.{list_all}
use Rattle.std.specs.Prelude.{nat_le}
use Rattle.action_names.specs.Names.{Name, is_ancestor, is_top, last_of}
use Rattle.run_model.specs.declared.answer.Answer.{Answer}
use Rattle.run_model.specs.declared.answer.Answer.TheVariants.{VoteYes}
use Rattle.run_model.specs.declared.history.Event.{Event}
use Rattle.run_model.specs.declared.step.Step.{Step}
use Rattle.run_model.specs.declared.step.Step.TheVariants.{Prepare}
use Rattle.run_model.specs.Actions.{home_of, is_committed}
use Rattle.run_model.specs.Dependencies.{dependency}
use Rattle.run_model.specs.Lists.{down_from, guardians_of, up_to}
use Rattle.run_model.specs.Openings.{Opening}
use Rattle.run_model.specs.Runs.{IsRun}
use Rattle.run_model.specs.StableContent.{raised_by, stable_next_top}
use Rattle.run_model.specs.Visibility.{has_prepared, votes_yes}
use Rattle.run_laws.proofs.Depends.{depends_on_visible}
use Rattle.run_laws.proofs.Each.{Each, each_reverse}
use Rattle.run_laws.proofs.Ended.{decided_at}
use Rattle.run_laws.proofs.Growth.{any_stays, run_before}
use Rattle.run_laws.proofs.Homes.{home_stays}
use Rattle.run_laws.proofs.Names.{front_alone, same_name_true}
use Rattle.run_laws.proofs.NothingLost.{each_guardian}
use Rattle.run_laws.proofs.Visible.{visible_self}
use Rattle.recovery_laws.specs.Numbers.{DecidedStayOlder, FreshAreNumbered, PreparedAreOlder, next_top_of_all}
use Rattle.recovery_laws.proofs.Guardians.{home_there, prepared_there}
use Rattle.recovery_laws.proofs.Records.{decided_committed}

-- ---- the greatest of a list

abbrev greatest : (ℕ → ℕ) → ℕ → List ℕ → ℕ
greatest f n ns = fold (λ m g. max m (f g)) n ns

max_left : (m n : ℕ) → m ≤ max m n
max_left m n = omega arith

max_right : (m n : ℕ) → n ≤ max m n
max_right m n = omega arith

max_both : (k l m n : ℕ) → k ≤ m → l ≤ n → max k l ≤ max m n
max_both k l m n h j = omega arith

is_le : {m n : ℕ} → m ≤ n → nat_le m n ≡ true
is_le h = grind (arith, nat_tests)

from_le : {m n : ℕ} → nat_le m n ≡ true → m ≤ n
from_le h = grind (arith, nat_tests)

starts_below : (f : ℕ → ℕ) (n : ℕ) (ns : List ℕ) → n ≤ greatest f n ns
starts_below f n [] = le_refl n
starts_below f n (g ∷ ns) = le_trans (max_left n (f g)) (starts_below f (max n (f g)) ns)

all_below : (f : ℕ → ℕ) (n : ℕ) (ns : List ℕ) → list_all (λ g. nat_le (f g) (greatest f n ns)) ns ≡ true
all_below f n [] = refl
all_below f n (g ∷ ns) =
    and_from (nat_le (f g) (greatest f (max n (f g)) ns)) _
    (is_le (le_trans (max_right n (f g)) (starts_below f (max n (f g)) ns)))
    (all_below f (max n (f g)) ns)

grows : (f h : ℕ → ℕ) → ((g : ℕ) → f g ≤ h g) → (m n : ℕ) → m ≤ n → (ns : List ℕ) → greatest f m ns ≤ greatest h n ns
grows f h less m n l [] = l
grows f h less m n l (g ∷ ns) = grows f h less (max m (f g)) (max n (h g)) (max_both m (f g) n (h g) l (less g)) ns

-- those of a list that are alike have the same
pub alike : (f h : ℕ → ℕ) (n : ℕ) (ns : List ℕ) → Each (λ g. f g ≡ h g) ns → greatest f n ns ≡ greatest h n ns
alike f h n [] same = refl
alike f h n (g ∷ ns) same = ap (λ m. greatest f (max n m) ns) same.0 ∙ alike f h (max n (h g)) ns same.1

-- all guardians, one by one
pub each_there : (P : ℕ → Type 0) (n : ℕ) → ((g : ℕ) → 0 < g → g ≤ n → P g) → Each P (up_to n)
each_there P n f = each_reverse P (down_from n) (down n (λ g a b. f g a b))
  where
    down : (m : ℕ) → ((g : ℕ) → 0 < g → g ≤ m → P g) → Each P (down_from m)
    down zero f = tt
    down (suc m) f = (f (suc m) (omega arith) (omega arith), down m (λ g a b. f g a (omega arith)))

-- that of a guardian is not above the greatest
below_all : (opening : Opening) (past : List Event) (g : ℕ) → 0 < g → g ≤ length opening.setup
    → stable_next_top opening g past ≤ next_top_of_all opening past
below_all opening past g a b =
    let f : ℕ → ℕ = λ h. stable_next_top opening h past in
    let h = each_guardian (λ h. nat_le (f h) (next_top_of_all opening past)) (length opening.setup) g (all_below f 1 (guardians_of opening)) a b in
    from_le h

-- ---- one guardian

raised_more : (step : Step) (answer : Answer) (g n : ℕ) → n ≤ raised_by step answer g n
raised_more (Prepare h t) VoteYes g n = of (h == g)
  where
    of : (b : Bool) → n ≤ cond b (max n (suc (last_of t))) n
    of true = max_left n (suc (last_of t))
    of false = le_refl n
raised_more _ _ g n = le_refl n

raised_above : (step : Step) (answer : Answer) (g : ℕ) (t : Name) (n : ℕ) → votes_yes step answer g t ≡ true → last_of t < raised_by step answer g n
raised_above (Prepare h b) VoteYes g t n v =
    let p = and_parts _ _ v in
    subst (λ u. last_of t < cond u (max n (suc (last_of b))) n) (sym p.0)
    (subst (λ c. last_of c < max n (suc (last_of b))) (same_name_true b t p.1) (above (last_of b) n))
  where
    above : (m n : ℕ) → m < max n (suc m)
    above m n = omega arith
raised_above _ _ g t n v = absurd (false≢true v)

starts_at : (opening : Opening) (past : List Event) (g : ℕ) → (opening.stores g).next_top ≤ stable_next_top opening g past
starts_at opening [] g = le_refl _
starts_at opening (e ∷ past) g = le_trans (starts_at opening past g) (raised_more e.step e.answer g (stable_next_top opening g past))

prepared_below : (opening : Opening) (past : List Event) (g : ℕ) (t : Name) → has_prepared g t past ≡ true → last_of t < stable_next_top opening g past
prepared_below opening [] g t h = absurd (false≢true h)
prepared_below opening (e ∷ past) g t h = elim (or_cases _ _ h) [
  | inl k ↦ raised_above e.step e.answer g t (stable_next_top opening g past) k
  | inr k ↦ more (prepared_below opening past g t k) (raised_more e.step e.answer g (stable_next_top opening g past))
]
  where
    more : {l m n : ℕ} → l < m → m ≤ n → l < n
    more a b = omega arith

-- ---- the laws

pub fresh_are_numbered : FreshAreNumbered
fresh_are_numbered setup = record {
  decided = λ g n there h. absurd (false≢true h);
  first = starts_below (λ g. 1) 1 (up_to (length setup));
}

pub prepared_are_older : PreparedAreOlder
prepared_are_older opening past g t r h =
    let there = prepared_there opening past g t r h in
    less (prepared_below opening past g t h) (below_all opening past g there.0 there.1)
  where
    less : {l m n : ℕ} → l < m → m ≤ n → l < n
    less a b = omega arith

-- what was decided, its home had prepared
home_prepared : (opening : Opening) (past : List Event) (t : Name) → IsRun opening past → is_top t ≡ true → is_committed t past ≡ true
    → has_prepared (home_of t past) t past ≡ true
home_prepared opening past t r top h =
    let (mid, w, d) = decided_at opening t past r top h in
    let run = run_before opening w r in
    let there = home_there opening mid t run d.was_begun in
    let depends = depends_on_visible opening mid t t run d.was_begun (own t top) (visible_self t mid) in
    let ready = each_guardian (λ g. is_none (dependency t g mid) || has_prepared g t mid) (length opening.setup) (home_of t mid) d.ready there.0 there.1 in
    let prepared : has_prepared (home_of t mid) t mid ≡ true =
    ap (λ o. is_none o || has_prepared (home_of t mid) t mid) (sym depends.is_least) ∙ ready in
    ap (λ g. has_prepared g t past) (home_stays opening t w r d.was_begun)
    ∙ any_stays (λ e. votes_yes e.step e.answer (home_of t mid) t) w prepared
  where
    own : (t : Name) → is_top t ≡ true → is_ancestor t t ≡ true
    own [] k = absurd (false≢true k)
    own (n ∷ []) k = front_alone n []
    own (m ∷ n ∷ a) k = absurd (false≢true k)

pub decided_stay_older : DecidedStayOlder
decided_stay_older opening past g n numbered r there h = elim (or_cases _ _ h) [
  | inl k ↦
      less (numbered.decided g n there k)
      (le_trans numbered.first (grows (λ k. (opening.stores k).next_top) (λ k. stable_next_top opening k past) (starts_at opening past) 1 1 (le_refl 1) (guardians_of opening)))
  | inr k ↦
      let committed = decided_committed (n ∷ []) past (and_parts _ _ k).0 in
      prepared_are_older opening past (home_of (n ∷ []) past) (n ∷ []) r (home_prepared opening past (n ∷ []) r refl committed)
]
  where
    less : {l m n : ℕ} → l < m → m ≤ n → l < n
    less a b = omega arith
