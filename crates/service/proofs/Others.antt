-- What steps of transactions leave alone.
use Rattle.std.proofs.Common.{Bool, List, [], ap, eqb-true, false, inl, inr, refl, subst, sym, true, ℕ, ◌||◌, ◌∙◌, ◌∷◌, ◌≡◌, ◌⊎◌}
use Rattle.std.proofs.lemmas.Bool.{and_parts, false_from_ne_true, false≢true, or_cases}
use Rattle.std.specs.List.{list_any}
use Rattle.action_names.specs.Names.{Name, has_name, is_prefix, same_name}
use Rattle.run_model.specs.declared.step.Step.{Step}
use Rattle.run_model.specs.declared.step.Step.TheVariants as steps
use Rattle.run_model.specs.Actions.{is_aborted, is_committed, is_ended, step_aborts, step_commits}
use Rattle.run_model.specs.Votes.{step_votes}
use Rattle.run_laws.proofs.Names.{any_name, clash, same_name_true}
use Rattle.stepping.specs.Beside.{OwnRun, Sees}
use Rattle.service.specs.Transacting.{Goes, belongs, belongs_to, ends_top, is_below}
use Rattle.service.proofs.Going.{belongs_each, kept, prefix_self}

-- an action that is not below t differs from what is
other : (t b c : Name) → is_prefix t b ≡ false → is_prefix t c ≡ true → same_name c b ≡ false
other t b c out h =
    false_from_ne_true _ (λ p. clash (subst (λ d. is_prefix t d ≡ true) (same_name_true c b p) h) out)

at_or_below : (t c : Name) → is_below t c || same_name t c ≡ true → is_prefix t c ≡ true
at_or_below t c h = by (or_cases _ _ h)
  where
    by : (is_below t c ≡ true) ⊎ (same_name t c ≡ true) → is_prefix t c ≡ true
    by (inl p) = (and_parts _ _ p).0
    by (inr p) = subst (λ d. is_prefix t d ≡ true) (same_name_true t c p) (prefix_self t)

below_only : (t c : Name) → is_below t c || false ≡ true → is_prefix t c ≡ true
below_only t c h = by (or_cases _ _ h)
  where
    by : (is_below t c ≡ true) ⊎ (false ≡ true) → is_prefix t c ≡ true
    by (inl p) = (and_parts _ _ p).0
    by (inr p) = absurd (false≢true p)

pub commits_no_other : (t b : Name) → is_prefix t b ≡ false → (step : Step) → belongs t step ≡ true → step_commits step b ≡ false
commits_no_other t b out (steps.Commit c) h = other t b c out (below_only t c h)
commits_no_other t b out (steps.Decide c) h = other t b c out (subst (λ d. is_prefix t d ≡ true) (same_name_true t c h) (prefix_self t))
commits_no_other t b out _ h = refl

pub aborts_no_other : (t b : Name) → is_prefix t b ≡ false → (step : Step) → belongs t step ≡ true → step_aborts step b ≡ false
aborts_no_other t b out (steps.Abort c) h = other t b c out (at_or_below t c h)
aborts_no_other t b out _ h = refl

-- ---- several top actions

none_at : (p : Name → Bool) (ts : List Name) (t : Name) → list_any p ts ≡ false → has_name ts t ≡ true → p t ≡ false
none_at p ts t none i = false_from_ne_true _ (λ k. clash (any_name p ts t i k) none)

pub ends_no_other : {sees : Sees} (ts : List Name) (b : Name) (x y : OwnRun) → list_any (λ t. is_prefix t b) ts ≡ false → Goes sees (belongs_to ts) x y
    → is_ended b y.past ≡ is_ended b x.past
ends_no_other ts b x y out a =
    ap (λ c. c || is_aborted b y.past) (kept (λ step. step_commits step b) (belongs_to ts) x y commits_not a)
    ∙ ap (λ c. is_committed b x.past || c) (kept (λ step. step_aborts step b) (belongs_to ts) x y aborts_not a)
  where
    commits_not : (step : Step) → belongs_to ts step ≡ true → step_commits step b ≡ false
    commits_not step own =
        belongs_each (λ s. step_commits s b ≡ false) ts step
        (λ t i k. commits_no_other t b (none_at (λ u. is_prefix u b) ts t out i) step k) own

    aborts_not : (step : Step) → belongs_to ts step ≡ true → step_aborts step b ≡ false
    aborts_not step own =
        belongs_each (λ s. step_aborts s b ≡ false) ts step
        (λ t i k. aborts_no_other t b (none_at (λ u. is_prefix u b) ts t out i) step k) own

-- the end of a top action votes on no other
pub end_votes_other : (top t : Name) (g : ℕ) → same_name top t ≡ false → (step : Step) → ends_top top step ≡ true → step_votes step g t ≡ false
end_votes_other top t g out (steps.Prepare h b) own =
    false_from_ne_true _ (λ p. clash (subst (λ c. same_name c t ≡ true) (sym (same_name_true top b own)) (and_parts _ _ p).1) out)
end_votes_other top t g out _ own = refl

-- a top action above another is that one
pub single_prefix : (t u : Name) (m n : ℕ) → t ≡ m ∷ [] → u ≡ n ∷ [] → is_prefix t u ≡ true → t ≡ u
single_prefix t u m n p q h =
    let k : is_prefix (m ∷ []) (n ∷ []) ≡ true =
    subst (λ a. is_prefix a (n ∷ []) ≡ true) p (subst (λ b. is_prefix t b ≡ true) q h) in
    p ∙ ap (λ x. x ∷ []) (eqb-true m n (and_parts _ _ k).0) ∙ sym q
