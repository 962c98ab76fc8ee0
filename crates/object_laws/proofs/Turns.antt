-- Outcomes heard at once, and one after another.
use Rattle.std.proofs.lemmas.Bool.{false≢true}
use Rattle.std.proofs.Common.{Bool, List, None, Option, Some, [], ap, cond, false, filter, not, refl, sym, true, ◌&&◌, ◌∙◌, ◌∷◌, ◌≡◌, ◌||◌}
use Rattle.std.specs.List.{list_any}
use Rattle.action_names.specs.Names.{Name, ancestors, same_name}
use Rattle.run_model.specs.Keeping.{Standing}
use Rattle.run_model.specs.LocalReadings.{outcome_in, says_aborted, says_committed}
use Rattle.run_laws.proofs.Names.{same_name_self, same_name_true}
use Rattle.object_laws.specs.Heard.{heard, heard_one}
use Rattle.object_laws.specs.EventLaws.{HeardInTurn}
use Rattle.object_laws.proofs.Filters.{all_pass, any_of_two, none_any, one_after_another, same_any, same_test}

abbrev committed_in : List (Name × Bool) → Name → Bool
committed_in outcomes b = says_committed (outcome_in outcomes b)

abbrev aborted_in : List (Name × Bool) → Name → Bool
aborted_in outcomes b = says_aborted (outcome_in outcomes b)

same_name_sym : (a b : Name) → same_name a b ≡ same_name b a
same_name_sym a b = of (same_name a b) refl (same_name b a) refl
  where
    of : (t : Bool) → same_name a b ≡ t → (u : Bool) → same_name b a ≡ u → same_name a b ≡ same_name b a
    of true h u k = h ∙ sym (ap (λ c. same_name b c) (same_name_true a b h) ∙ same_name_self b)
    of false h false k = h ∙ sym k
    of false h true k = absurd (false≢true (sym h ∙ ap (λ c. same_name a c) (same_name_true b a k) ∙ same_name_self a))

-- an outcome in front of others, of which none is of its action
front_committed : (a b : Name) (outcomes : List (Name × Bool)) → outcome_in outcomes a ≡ None
    → committed_in ((a, true) ∷ outcomes) b ≡ (same_name b a || committed_in outcomes b)
front_committed a b outcomes h = ap (λ t. says_committed (cond t (Some true) (outcome_in outcomes b))) (same_name_sym a b) ∙ of (same_name b a)
  where
    of : (t : Bool) → says_committed (cond t (Some true) (outcome_in outcomes b)) ≡ (t || committed_in outcomes b)
    of true = refl
    of false = refl

unsaid : (says : Option Bool → Bool) (a b : Name) (u : Bool) (outcomes : List (Name × Bool)) → outcome_in outcomes a ≡ None → says None ≡ false → says (Some u) ≡ false
    → says (outcome_in ((a, u) ∷ outcomes) b) ≡ says (outcome_in outcomes b)
unsaid says a b u outcomes h n s = of (same_name a b) refl
  where
    of : (t : Bool) → same_name a b ≡ t → says (outcome_in ((a, u) ∷ outcomes) b) ≡ says (outcome_in outcomes b)
    of false e = ap (λ t. says (cond t (Some u) (outcome_in outcomes b))) e
    of true e =
        ap (λ t. says (cond t (Some u) (outcome_in outcomes b))) e ∙ s ∙ sym n
        ∙ sym (ap says (sym (ap (λ k. outcome_in outcomes k) (same_name_true a b e)) ∙ h))

front_aborted : (a b : Name) (outcomes : List (Name × Bool)) → aborted_in ((a, false) ∷ outcomes) b ≡ (same_name b a || aborted_in outcomes b)
front_aborted a b outcomes = ap (λ t. says_aborted (cond t (Some false) (outcome_in outcomes b))) (same_name_sym a b) ∙ of (same_name b a)
  where
    of : (t : Bool) → says_aborted (cond t (Some false) (outcome_in outcomes b)) ≡ (t || aborted_in outcomes b)
    of true = refl
    of false = refl

-- what is not undone by one more abort
not_either : (a b : Bool) → not (a || b) ≡ (not b && not a)
not_either true true = refl
not_either true false = refl
not_either false true = refl
not_either false false = refl

more_undone : {X : Type 0} (of : X → Name) (a : Name) (outcomes : List (Name × Bool)) (xs : List X)
    → filter (λ x. not (list_any (aborted_in ((a, false) ∷ outcomes)) (ancestors (of x)))) xs
    ≡ filter (λ x. not (list_any (λ b. same_name b a) (ancestors (of x)))) (filter (λ x. not (list_any (aborted_in outcomes) (ancestors (of x)))) xs)
more_undone of a outcomes xs =
    same_test _ _ xs (λ x.
    ap not (same_any _ _ (ancestors (of x)) (λ b. front_aborted a b outcomes) ∙ any_of_two (λ b. same_name b a) (aborted_in outcomes) (ancestors (of x)))
    ∙ not_either (list_any (λ b. same_name b a) (ancestors (of x))) (list_any (aborted_in outcomes) (ancestors (of x))))
    ∙ sym (one_after_another (λ x. not (list_any (λ b. same_name b a) (ancestors (of x)))) (λ x. not (list_any (aborted_in outcomes) (ancestors (of x)))) xs)

as_undone : {X : Type 0} (of : X → Name) (a : Name) (outcomes : List (Name × Bool)) (xs : List X) → outcome_in outcomes a ≡ None
    → filter (λ x. not (list_any (aborted_in ((a, true) ∷ outcomes)) (ancestors (of x)))) xs ≡ filter (λ x. not (list_any (aborted_in outcomes) (ancestors (of x)))) xs
as_undone of a outcomes xs h =
    same_test _ _ xs (λ x. ap not (same_any _ _ (ancestors (of x)) (λ b. unsaid says_aborted a b true outcomes h refl refl)))

or_turned : (a b c : Bool) → ((a || b) || c) ≡ (a || (b || c))
or_turned true b c = refl
or_turned false b c = refl

-- one outcome more, heard after the others
one_more : (a : Name) (u : Bool) (outcomes : List (Name × Bool)) (s : Standing) → outcome_in outcomes a ≡ None
    → heard ((a, u) ∷ outcomes) s ≡ heard_one a u (heard outcomes s)
one_more a true outcomes s h = λ i. record {
  told = λ b. (ap (λ t. t || s.told b) (front_committed a b outcomes h) ∙ or_turned (same_name b a) (committed_in outcomes b) (s.told b)) i;
  kept = as_undone (λ o. o.action) a outcomes s.kept h i;
  restored = as_undone (λ r. r.0) a outcomes s.restored h i;
}
one_more a false outcomes s h = λ i. record {
  told = λ b. ap (λ t. t || s.told b) (unsaid says_committed a b false outcomes h refl refl) i;
  kept = more_undone (λ o. o.action) a outcomes s.kept i;
  restored = more_undone (λ r. r.0) a outcomes s.restored i;
}

-- nothing is heard
nothing_heard : (s : Standing) → heard [] s ≡ s
nothing_heard s = λ i. record {
  told = s.told;
  kept = all_pass (λ o. not (list_any (aborted_in []) (ancestors o.action))) s.kept (λ o. ap not (none_any (aborted_in []) (ancestors o.action) (λ b. refl))) i;
  restored = all_pass (λ r. not (list_any (aborted_in []) (ancestors r.0))) s.restored (λ r. ap not (none_any (aborted_in []) (ancestors r.0) (λ b. refl))) i;
}

pub heard_in_turn_is : HeardInTurn
heard_in_turn_is [] s h = nothing_heard s
heard_in_turn_is (x ∷ outcomes) s h = one_more x.0 x.1 outcomes s h.0 ∙ ap (λ t. heard_one x.0 x.1 t) (heard_in_turn_is outcomes s h.1)
