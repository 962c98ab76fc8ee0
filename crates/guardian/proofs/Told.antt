-- What outcomes say of an action, read from a place on.
use Rattle.std.proofs.Common.{Bool, List, Some, ap, cond, drop, get_or, length, sym, true, false, ℕ, ◌+◌, ◌<◌, ◌∙◌, ◌∷◌, ◌≡◌}
use Rattle.std.proofs.lemmas.List.{at_drop_more}
use Rattle.action_names.specs.Names.{Name, same_name}
use Rattle.run_model.specs.LocalReadings.{outcome_in, says_committed}

pub this_says : (a : Name) (xs : List (Name × Bool)) (i : ℕ) (x : Name × Bool) → i < length xs → x ≡ get_or xs i x → same_name x.0 a ≡ true
    → says_committed (outcome_in (drop i xs) a) ≡ x.1
this_says a xs i x lt is same =
    at_drop_more (λ ys. says_committed (outcome_in ys a)) xs i x lt ∙ ap (λ y. says_committed (outcome_in (y ∷ drop (i + 1) xs) a)) (sym is)
    ∙ ap (λ t. says_committed (cond t (Some x.1) (outcome_in (drop (i + 1) xs) a))) same

pub next_says : (a : Name) (xs : List (Name × Bool)) (i : ℕ) (x : Name × Bool) → i < length xs → x ≡ get_or xs i x → same_name x.0 a ≡ false
    → says_committed (outcome_in (drop i xs) a) ≡ says_committed (outcome_in (drop (i + 1) xs) a)
next_says a xs i x lt is other =
    at_drop_more (λ ys. says_committed (outcome_in ys a)) xs i x lt ∙ ap (λ y. says_committed (outcome_in (y ∷ drop (i + 1) xs) a)) (sym is)
    ∙ ap (λ t. says_committed (cond t (Some x.1) (outcome_in (drop (i + 1) xs) a))) other
