-- What an event brings of dependencies rises by guardian.
use Rattle.std.proofs.Common.{Bool, List, None, Option, Some, [], ap, arith, cond, false, filter, filter_map, length, option_map, refl, reverse, subst, suc, sym, true, zero, ℕ, ◌++◌, ◌<◌, ◌==◌, ◌∙◌, ◌∷◌, ◌≡◌}
use Rattle.std.proofs.lemmas.Bool.{and_from, lt-ltb}
use Rattle.std.proofs.lemmas.List.{append-nil, append_assoc, reverse-append}
use Rattle.std.specs.FinMap.{is_sorted}
use Rattle.std.specs.FinMap.Entries.{below_all}
use Rattle.std.specs.List.{cons_option}
use Rattle.std.specs.Ordering.{is_lt, nat_cmp}
use Rattle.std.specs.declared.cmp.Ordering.TheVariants.{Equal, Greater, Less}
use Rattle.action_names.specs.Names.{Name, parent_of}
use Rattle.run_model.specs.declared.history.Event.{Event}
use Rattle.run_model.specs.declared.step.Step.{Step}
use Rattle.run_model.specs.declared.step.Step.TheVariants.{Commit, Prepare}
use Rattle.run_model.specs.Actions.{home_of, names_begun}
use Rattle.run_model.specs.Dependencies.{dependency}
use Rattle.run_model.specs.Lists.{down_from, guardians_of}
use Rattle.run_model.specs.LocalHistories.{dependencies_carried, dependencies_of, dependencies_sent, with_dependencies}
use Rattle.run_model.specs.Openings.{Opening}
use Rattle.guardian_laws.specs.Actions.{are_rising}

-- numbers that rise from above m on
abbrev Up : ℕ → List ℕ → Type 0
Up m [] = Unit {0}
Up m (n ∷ ns) = (m < n) × Up n ns

up_lower : (m k : ℕ) (ns : List ℕ) → m < k → Up k ns → Up m ns
up_lower m k [] l h = tt
up_lower m k (n ∷ ns) l h = let q = h.0 in (omega arith, h.1)

counted_up : (n : ℕ) (ns : List ℕ) → Up n ns → Up 0 (reverse (down_from n) ++ ns)
counted_up zero ns h = h
counted_up (suc n) ns h =
    subst (λ l. Up 0 l)
    (sym (ap (λ l. l ++ ns) (reverse-append (suc n ∷ []) (down_from n)) ∙ append_assoc (reverse (down_from n)) (suc n ∷ []) ns))
    (counted_up n (suc n ∷ ns) (omega arith, h))

-- of each number what f gives there
abbrev collected : (ℕ → Option ℕ) → List ℕ → List (ℕ × ℕ)
collected f ns = filter_map (λ n. option_map (λ v. (n, v)) (f n)) ns

collected_above : (f : ℕ → Option ℕ) (m : ℕ) (ns : List ℕ) → Up m ns → below_all nat_cmp m (collected f ns) ≡ true
collected_above f m [] h = refl
collected_above f m (n ∷ ns) h = of (f n) (collected_above f m ns (up_lower m n ns h.0 h.1))
  where
    less : is_lt (nat_cmp m n) ≡ true
    less = ap (λ t. is_lt (cond t Less (cond (m == n) Equal Greater))) (lt-ltb m n h.0)

    of : (o : Option ℕ) → below_all nat_cmp m (collected f ns) ≡ true
        → below_all nat_cmp m (cons_option (option_map (λ v. (n, v)) o) (collected f ns)) ≡ true
    of None ih = ih
    of (Some v) ih = and_from _ _ less ih

collected_rises : (f : ℕ → Option ℕ) (m : ℕ) (ns : List ℕ) → Up m ns → is_sorted nat_cmp (collected f ns) ≡ true
collected_rises f m [] h = refl
collected_rises f m (n ∷ ns) h = of (f n) (collected_rises f n ns h.1)
  where
    of : (o : Option ℕ) → is_sorted nat_cmp (collected f ns) ≡ true
        → is_sorted nat_cmp (cons_option (option_map (λ v. (n, v)) o) (collected f ns)) ≡ true
    of None ih = ih
    of (Some v) ih = and_from _ _ (collected_above f n ns h.1) ih

dependencies_rise : (opening : Opening) (a : Name) (past : List Event) → is_sorted nat_cmp (dependencies_of opening a past) ≡ true
dependencies_rise opening a past =
    collected_rises (λ g. dependency a g past) 0 (guardians_of opening)
    (subst (λ l. Up 0 l) (append-nil (guardians_of opening)) (counted_up (length opening.setup) [] tt))

all_rise : (opening : Opening) (past : List Event) (names : List Name) → are_rising (with_dependencies opening past names) ≡ true
all_rise opening past [] = refl
all_rise opening past (b ∷ names) = and_from _ _ (dependencies_rise opening b past) (all_rise opening past names)

pub carried_rise : (opening : Opening) (e : Event) (g : ℕ) (past : List Event) → are_rising (dependencies_carried opening e g past) ≡ true
carried_rise opening e g past = of e.step (with_dependencies opening (e ∷ past) new) (all_rise opening (e ∷ past) new)
  where
    new : List Name
    new = filter (λ b. home_of b (e ∷ past) == g) (names_begun e.answer)

    one : (a : Name) (t : Bool) → are_rising (cond t ((a, dependencies_of opening a past) ∷ []) []) ≡ true
    one a true = and_from _ _ (dependencies_rise opening a past) refl
    one a false = refl

    of : (step : Step) (given : List (Name × List (ℕ × ℕ))) → are_rising given ≡ true
        → are_rising (dependencies_sent (λ a. home_of a past) (λ a. dependencies_of opening a past) step g given) ≡ true
    of (Commit a) given h = one a (home_of (parent_of a) past == g)
    of (Prepare h t) given k = one t (h == g)
    of _ given h = h
