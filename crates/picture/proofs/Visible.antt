-- To whom an action is visible: in its own tree, to all below the nearest ancestor that has not committed.
use Rattle.std.proofs.Common.{◌≡◌, ℕ, Bool, true, false, cond, not, ◌&&◌, ◌||◌, ◌==◌, List, [], ◌∷◌, map, Option, Some, None, option_map, is_none, unwrap_or, refl, sym, ap, ◌∙◌}
use Rattle.std.specs.List.{list_all}
use Rattle.std.proofs.lemmas.List.Folds.{list_all-map}
use Rattle.action_names.specs.Names.{Name, ancestors, is_ancestor, is_prefix, same_name, top_of}
use Rattle.run_model.specs.declared.history.Event.{Event}
use Rattle.run_model.specs.Actions.{is_committed}
use Rattle.run_model.specs.Telling.{last_passing, or_else}
use Rattle.run_model.specs.Visibility.{is_visible}
use Rattle.picture.specs.Losses.{settled}

-- the last that passes, of a list with a number in front of each name
last_map : (p : Name → Bool) (m : ℕ) (names : List Name)
    → last_passing p (map (λ c. m ∷ c) names) ≡ option_map (λ c. m ∷ c) (last_passing (λ c. p (m ∷ c)) names)
last_map p m [] = refl
last_map p m (b ∷ names) =
    ap (λ o. or_else o (cond (p (m ∷ b)) (Some (m ∷ b)) None)) (last_map p m names) ∙ step (p (m ∷ b)) (last_passing (λ c. p (m ∷ c)) names)
  where
    step : (t : Bool) (o : Option Name)
        → or_else (option_map (λ c. m ∷ c) o) (cond t (Some (m ∷ b)) None) ≡ option_map (λ c. m ∷ c) (or_else o (cond t (Some b) None))
    step true None = refl
    step false None = refl
    step true (Some c) = refl
    step false (Some c) = refl

-- all pass, or some fails last
none_fails : (p : Name → Bool) (names : List Name) → list_all p names ≡ is_none (last_passing (λ c. not (p c)) names)
none_fails p [] = refl
none_fails p (b ∷ names) = ap (λ t. p b && t) (none_fails p names) ∙ step (p b) (last_passing (λ c. not (p c)) names)
  where
    step : (t : Bool) (o : Option Name) → (t && is_none o) ≡ is_none (or_else o (cond (not t) (Some b) None))
    step true None = refl
    step false None = refl
    step true (Some c) = refl
    step false (Some c) = refl

-- the name that was found passes, or none was found
abbrev passes : (Name → Bool) → Option Name → Bool
passes f None = true
passes f (Some c) = f c

-- what is found of an action: itself, or what is found below it
abbrev found : (Name → Bool) → ℕ → Option Name → Option Name
found committed m o = or_else (option_map (λ c. m ∷ c) o) (cond (not (committed (m ∷ []))) (Some (m ∷ [])) None)

last_found : (committed : Name → Bool) (m : ℕ) (b : Name)
    → last_passing (λ c. not (committed c)) (ancestors (m ∷ b)) ≡ found committed m (last_passing (λ c. not (committed (m ∷ c))) (ancestors b))
last_found committed m b =
    ap (λ o. or_else o (cond (not (committed (m ∷ []))) (Some (m ∷ [])) None)) (last_map (λ c. not (committed c)) m (ancestors b))

-- with one number more in front: t says whether it is the other's too, h whether the action of that number alone has committed
abbrev after : Bool → (Name → Bool) → Bool → Option Name → Bool
after t f h None = (t && true) || h
after t f h (Some c) = t && f c

one_more : (t h : Bool) (f p : Name → Bool) (names : List Name) → list_all (λ c. f c || p c) names ≡ passes f (last_passing (λ c. not (p c)) names)
    → (((t && true) || h) && list_all (λ c. (t && f c) || p c) names) ≡ after t f h (last_passing (λ c. not (p c)) names)
one_more true h f p names ih = ih ∙ step (last_passing (λ c. not (p c)) names)
  where
    step : (o : Option Name) → passes f o ≡ after true f h o
    step None = refl
    step (Some c) = refl
one_more false h f p names ih = ap (λ t. h && t) (none_fails p names) ∙ step h (last_passing (λ c. not (p c)) names)
  where
    step : (t : Bool) (o : Option Name) → (t && is_none o) ≡ after false f t o
    step true None = refl
    step false None = refl
    step true (Some c) = refl
    step false (Some c) = refl

and_true : (t : Bool) → (t && true) ≡ t
and_true true = refl
and_true false = refl

or_true : (t : Bool) → (t || true) ≡ true
or_true true = refl
or_true false = refl

or_false : (t : Bool) → (t || false) ≡ t
or_false true = refl
or_false false = refl

-- the test of who is found, with and without the number
found_passes : (committed : Name → Bool) (m n : ℕ) (a : Name) (o : Option Name)
    → passes (λ c. is_prefix c (n ∷ a)) (found committed m o) ≡ after (m == n) (λ c. is_prefix c a) (committed (m ∷ [])) o
found_passes committed m n a (Some c) = refl
found_passes committed m n a None = step (committed (m ∷ []))
  where
    step : (h : Bool) → passes (λ c. is_prefix c (n ∷ a)) (or_else None (cond (not h) (Some (m ∷ [])) None)) ≡ (((m == n) && true) || h)
    step true = sym (or_true ((m == n) && true))
    step false = sym (or_false ((m == n) && true))

found_nowhere : (committed : Name → Bool) (m : ℕ) (o : Option Name)
    → passes (λ c. is_prefix c []) (found committed m o) ≡ after false (λ c. false) (committed (m ∷ [])) o
found_nowhere committed m (Some c) = refl
found_nowhere committed m None = step (committed (m ∷ []))
  where
    step : (h : Bool) → passes (λ c. is_prefix c []) (or_else None (cond (not h) (Some (m ∷ [])) None)) ≡ h
    step true = refl
    step false = refl

-- each ancestor of b begins a or has committed, just if the last one that has not committed begins a
pub reach : (committed : Name → Bool) (b a : Name)
    → list_all (λ c. is_prefix c a || committed c) (ancestors b) ≡ passes (λ c. is_prefix c a) (last_passing (λ c. not (committed c)) (ancestors b))
reach committed [] a = refl
reach committed (m ∷ b) [] =
    ap (λ t. committed (m ∷ []) && t) (list_all-map (λ c. is_prefix c [] || committed c) (λ c. m ∷ c) (ancestors b))
    ∙ one_more false (committed (m ∷ [])) (λ c. is_prefix c []) (λ c. committed (m ∷ c)) (ancestors b) (reach (λ c. committed (m ∷ c)) b [])
    ∙ same (last_passing (λ c. not (committed (m ∷ c))) (ancestors b))
    ∙ sym (found_nowhere committed m (last_passing (λ c. not (committed (m ∷ c))) (ancestors b)))
    ∙ sym (ap (passes (λ c. is_prefix c [])) (last_found committed m b))
  where
    same : (o : Option Name) → after false (λ c. is_prefix c []) (committed (m ∷ [])) o ≡ after false (λ c. false) (committed (m ∷ [])) o
    same None = refl
    same (Some c) = refl
reach committed (m ∷ b) (n ∷ a) =
    ap (λ t. (((m == n) && true) || committed (m ∷ [])) && t) (list_all-map (λ c. is_prefix c (n ∷ a) || committed c) (λ c. m ∷ c) (ancestors b))
    ∙ one_more (m == n) (committed (m ∷ [])) (λ c. is_prefix c a) (λ c. committed (m ∷ c)) (ancestors b) (reach (λ c. committed (m ∷ c)) b a)
    ∙ sym (found_passes committed m n a (last_passing (λ c. not (committed (m ∷ c))) (ancestors b)))
    ∙ sym (ap (passes (λ c. is_prefix c (n ∷ a))) (last_found committed m b))

-- an ancestor of an action is a beginning of its name
visible_begins : (m : ℕ) (b a : Name) (past : List Event)
    → is_visible (m ∷ b) a past ≡ list_all (λ c. is_prefix c a || is_committed c past) (ancestors (m ∷ b))
visible_begins m b a past =
    ap (λ t. (is_prefix (m ∷ []) a || is_committed (m ∷ []) past) && t)
    (list_all-map (λ c. is_ancestor c a || is_committed c past) (λ c. m ∷ c) (ancestors b)
    ∙ sym (list_all-map (λ c. is_prefix c a || is_committed c past) (λ c. m ∷ c) (ancestors b)))

-- a lost action of a's own tree is visible to a just if the action where it has settled is an ancestor of a
pub seen : (m n : ℕ) (b a : Name) (past : List Event)
    → (same_name (top_of (m ∷ b)) (top_of (n ∷ a)) && is_visible (m ∷ b) (n ∷ a) past)
    ≡ is_ancestor (settled (λ c. is_committed c past) (m ∷ b)) (n ∷ a)
seen m n b a past =
    ap (λ t. ((m == n) && true) && t)
    (visible_begins m b (n ∷ a) past ∙ reach (λ c. is_committed c past) (m ∷ b) (n ∷ a)
    ∙ ap (passes (λ c. is_prefix c (n ∷ a))) (last_found (λ c. is_committed c past) m b))
    ∙ step (last_passing (λ c. not (is_committed (m ∷ c) past)) (ancestors b)) (is_committed (m ∷ []) past)
    ∙ sym (ap (λ o. is_ancestor (unwrap_or o (m ∷ [])) (n ∷ a)) (last_found (λ c. is_committed c past) m b))
  where
    once : (t s : Bool) → ((t && true) && (t && s)) ≡ (t && s)
    once true s = refl
    once false s = refl

    step : (o : Option Name) (h : Bool)
        → (((m == n) && true) && passes (λ c. is_prefix c (n ∷ a)) (or_else (option_map (λ c. m ∷ c) o) (cond (not h) (Some (m ∷ [])) None)))
        ≡ is_ancestor (unwrap_or (or_else (option_map (λ c. m ∷ c) o) (cond (not h) (Some (m ∷ [])) None)) (m ∷ [])) (n ∷ a)
    step (Some c) h = once (m == n) (is_prefix c a)
    step None true = and_true ((m == n) && true)
    step None false = once (m == n) true
