-- Marks of the handlers that statements call, one statement after another.
use Rattle.std.proofs.Common.{◌≡◌, ◌<◌, ◌≤◌, ℕ, ◌+◌, List, [], ◌∷◌, ◌++◌, length, get_or, drop, Bool, refl, sym, ap, ◌∙◌}
use Rattle.std.proofs.lemmas.List.{drop_more, drop_all}
use Rattle.std.specs.Prelude.{slice_set, true}
use Rattle.script_model.specs.declared.statement.Statement.{Statement}
use Rattle.script_model.specs.declared.statement.Arm.{Arm}
use Rattle.script_model.specs.Reaching.{called, called_by}
use Rattle.script.specs.Marks.{marked_all, called_in_arm, called_in_arms}

pub marked_all-append : (a b : List ℕ) (marks : List Bool) → marked_all (a ++ b) marks ≡ marked_all b (marked_all a marks)
marked_all-append [] b marks = refl
marked_all-append (n ∷ a) b marks = marked_all-append a b (slice_set marks n true)

pub called-at : (xs : List Statement) (i : ℕ) (x : Statement) (marks new : List Bool) → i < length xs → x ≡ get_or xs i x → new ≡ marked_all (called_by x) marks
    → marked_all (called (drop (i + 1) xs)) new ≡ marked_all (called (drop i xs)) marks
called-at xs i x marks new h is after =
    ap (marked_all (called (drop (i + 1) xs))) after ∙ sym (marked_all-append (called_by x) (called (drop (i + 1) xs)) marks)
    ∙ ap (λ ys. marked_all (called ys) marks) (sym (drop_more xs i x h ∙ ap (λ y. y ∷ drop (i + 1) xs) (sym is)))

pub called-end : (xs : List Statement) (i : ℕ) (marks : List Bool) → length xs ≤ i → marks ≡ marked_all (called (drop i xs)) marks
called-end xs i marks h = ap (λ ys. marked_all (called ys) marks) (sym (drop_all i xs h))

pub called_in_arms-at : (xs : List Arm) (i : ℕ) (x : Arm) (marks new : List Bool) → i < length xs → x ≡ get_or xs i x → new ≡ marked_all (called_in_arm x) marks
    → marked_all (called_in_arms (drop (i + 1) xs)) new ≡ marked_all (called_in_arms (drop i xs)) marks
called_in_arms-at xs i x marks new h is after =
    ap (marked_all (called_in_arms (drop (i + 1) xs))) after ∙ sym (marked_all-append (called_in_arm x) (called_in_arms (drop (i + 1) xs)) marks)
    ∙ ap (λ ys. marked_all (called_in_arms ys) marks) (sym (drop_more xs i x h ∙ ap (λ y. y ∷ drop (i + 1) xs) (sym is)))

pub called_in_arms-end : (xs : List Arm) (i : ℕ) (marks : List Bool) → length xs ≤ i → marks ≡ marked_all (called_in_arms (drop i xs)) marks
called_in_arms-end xs i marks h = ap (λ ys. marked_all (called_in_arms ys) marks) (sym (drop_all i xs h))
