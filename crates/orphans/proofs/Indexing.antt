-- Indexes of names: one name more, another order of the paths.
use Rattle.std.proofs.Common.{Bool, IsPermutation, List, Vec, [], ap, ap₂, false, nat_eq, not, refl, reverse, sym, true, ℕ, ◌++◌, ◌∙◌, ◌∷◌, ◌≡◌, ◌||◌}
use Rattle.std.proofs.lemmas.List.Sorted.{list_any-IsPermutation}
use Rattle.std.specs.Cmp.Lexicographic.{pointwise}
use Rattle.std.specs.List.{list_any}
use Rattle.std.specs.declared.alloc.Global.{Global}
use Rattle.action_names.specs.Comparison.{same_name-equivalence, same_name-pointwise}
use Rattle.action_names.specs.Names.{Name, has_name, same_name}
use Rattle.orphans.specs.Indexes.{IsIndex}
use Rattle.orphans.proofs.Turned.{has_name_append, has_name_turned, or_turn}

-- the order of the paths does not matter
pub indexed_moved : (names : List Name) (before after : List (Vec ℕ Global)) → IsIndex names before → IsPermutation before after → IsIndex names after
indexed_moved names before after is moved = λ a. sym (list_any-IsPermutation (λ path. pointwise nat_eq a path.items) before after moved) ∙ is a

-- one name more, with its path
pub indexed_more : (names : List Name) (before after : List (Vec ℕ Global)) (name : Name) (path : Vec ℕ Global)
    → IsIndex names before → path.items ≡ name → IsPermutation (path ∷ before) after → IsIndex (names ++ name ∷ []) after
indexed_more names before after name path is same moved = λ a.
    sym (list_any-IsPermutation (λ p. pointwise nat_eq a p.items) (path ∷ before) after moved)
    ∙ ap₂ (λ x y. x || y) (ap (pointwise nat_eq a) same ∙ same_name-pointwise a name ∙ same_name-equivalence.symm a name) (is a)
    ∙ sym (has_name_append names (name ∷ []) a ∙ or_turn (has_name names a) (same_name name a))

-- whether a name is known, where an insertion says whether its path is new
is_new : (a b : Bool) → a ≡ not b → b ≡ not a
is_new true true h = h
is_new true false h = refl
is_new false true h = refl
is_new false false h = h

pub is_known : (names : List Name) (paths : List (Vec ℕ Global)) (name : Name) (path : Vec ℕ Global) (added : Bool) → IsIndex names paths → path.items ≡ name
    → added ≡ not (list_any (λ p. pointwise nat_eq path.items p.items) paths) → has_name (reverse names) name ≡ not added
is_known names paths name path added is same new =
    has_name_turned names name
    ∙ ap (has_name names) (sym same)
    ∙ sym (is path.items)
    ∙ is_new added (list_any (λ p. pointwise nat_eq path.items p.items) paths) new
