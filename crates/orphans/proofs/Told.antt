-- The aborts among outcomes, and names that are copied one after another.
use Rattle.std.proofs.Common.{Bool, List, [], ap, cond, false, get_or, length, refl, sym, take, true, ℕ, ◌+◌, ◌++◌, ◌<◌, ◌∙◌, ◌∷◌, ◌≡◌}
use Rattle.std.proofs.lemmas.List.{append-nil, append_assoc, map-append, take_more}
use Rattle.action_names.specs.Names.{Name}
use Rattle.run_model.specs.LocalReadings.{aborted_in}
use Rattle.orphans.specs.Logs.{name_of, names_of}
use Rattle.orphans.specs.declared.log.Abort.{Abort}

aborted_in-append : (xs ys : List (Name × Bool)) → aborted_in (xs ++ ys) ≡ aborted_in xs ++ aborted_in ys
aborted_in-append [] ys = refl
aborted_in-append (x ∷ xs) ys = of x.1 (aborted_in-append xs ys)
  where
    of : (b : Bool) → aborted_in (xs ++ ys) ≡ aborted_in xs ++ aborted_in ys
        → cond b (aborted_in (xs ++ ys)) (x.0 ∷ aborted_in (xs ++ ys)) ≡ cond b (aborted_in xs) (x.0 ∷ aborted_in xs) ++ aborted_in ys
    of true rest = rest
    of false rest = ap (λ (t : List Name). x.0 ∷ t) rest

-- one outcome more
aborted_in-more : (xs : List (Name × Bool)) (i : ℕ) (d : Name × Bool) → i < length xs
    → aborted_in (take (i + 1) xs) ≡ aborted_in (take i xs) ++ aborted_in (get_or xs i d ∷ [])
aborted_in-more xs i d lt = ap aborted_in (take_more xs i d lt) ∙ aborted_in-append (take i xs) (get_or xs i d ∷ [])

-- one name more
pub names_more : (before after : List Abort) (abort : Abort) → after ≡ before ++ abort ∷ [] → names_of after ≡ names_of before ++ name_of abort ∷ []
names_more before after abort is = ap names_of is ∙ map-append name_of before (abort ∷ [])

-- an outcome more is an abort, and another one is a commit
pub told_abort : (names : List Name) (outcomes : List (Name × Bool)) (i : ℕ) (x : Name × Bool) → i < length outcomes → x ≡ get_or outcomes i x → x.1 ≡ false
    → (names ++ aborted_in (take i outcomes)) ++ x.0 ∷ [] ≡ names ++ aborted_in (take (i + 1) outcomes)
told_abort names outcomes i x lt is aborted =
    append_assoc names (aborted_in (take i outcomes)) (x.0 ∷ [])
    ∙ ap (λ t. names ++ t) (ap (λ b. aborted_in (take i outcomes) ++ cond b [] (x.0 ∷ [])) (sym aborted)
    ∙ ap (λ y. aborted_in (take i outcomes) ++ aborted_in (y ∷ [])) is
    ∙ sym (aborted_in-more outcomes i x lt))

pub told_commit : (names : List Name) (outcomes : List (Name × Bool)) (i : ℕ) (x : Name × Bool) → i < length outcomes → x ≡ get_or outcomes i x → x.1 ≡ true
    → names ++ aborted_in (take i outcomes) ≡ names ++ aborted_in (take (i + 1) outcomes)
told_commit names outcomes i x lt is committed =
    ap (λ t. names ++ t) (sym (append-nil (aborted_in (take i outcomes)))
    ∙ ap (λ b. aborted_in (take i outcomes) ++ cond b [] (x.0 ∷ [])) (sym committed)
    ∙ ap (λ y. aborted_in (take i outcomes) ++ aborted_in (y ∷ [])) is
    ∙ sym (aborted_in-more outcomes i x lt))
