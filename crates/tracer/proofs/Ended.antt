-- Names found in what is kept of a history.
use Rattle.std.proofs.Common.{◌≡◌, Bool, true, false, cond, ◌&&◌, ◌||◌, List, [], ◌∷◌, Option, refl, sym, ap, ◌∙◌}
use Rattle.std.specs.List.{list_all}
use Rattle.std.specs.Ordering.{eq_by_cmp}
use Rattle.std.specs.BTreeMap as tree
use Rattle.std.specs.BTreeSet as sorted
use Rattle.std.specs.BTreeMap.{BTreeMap}
use Rattle.std.specs.BTreeSet.{BTreeSet}
use Rattle.action_names.specs.Comparison.{same_name-ties}
use Rattle.action_names.specs.Names.{Name, name_cmp, same_name}

-- in a set that gained a name are that name and those before
pub contains_more : (s n : BTreeSet Name) (k b q : Name) → k ≡ b
    → sorted.contains name_cmp n q ≡ cond (eq_by_cmp name_cmp k q) true (sorted.contains name_cmp s q)
    → sorted.contains name_cmp n q ≡ (same_name b q || sorted.contains name_cmp s q)
contains_more s n k b q same now =
    now
    ∙ ap (λ t. cond t true (sorted.contains name_cmp s q)) (sym (same_name-ties k q) ∙ ap (λ a. same_name a q) same)
    ∙ either (same_name b q)
  where
    either : (t : Bool) → cond t true (sorted.contains name_cmp s q) ≡ (t || sorted.contains name_cmp s q)
    either true = refl
    either false = refl

-- in a map that gained a value, that is the value of its name, and the others stay
pub get_more : {X : Type 0} (m n : BTreeMap Name X) (k b q : Name) (x : Option X) → k ≡ b
    → tree.get name_cmp n q ≡ cond (eq_by_cmp name_cmp k q) x (tree.get name_cmp m q)
    → tree.get name_cmp n q ≡ cond (same_name b q) x (tree.get name_cmp m q)
get_more m n k b q x same now =
    now
    ∙ ap (λ t. cond t x (tree.get name_cmp m q)) (sym (same_name-ties k q) ∙ ap (λ a. same_name a q) same)

-- tests that say the same of each name say the same of all
pub list_all_same : (p r : Name → Bool) (names : List Name) → ((a : Name) → p a ≡ r a) → list_all p names ≡ list_all r names
list_all_same p r [] same = refl
list_all_same p r (a ∷ names) same = ap (λ t. t && list_all p names) (same a) ∙ ap (λ t. r a && t) (list_all_same p r names same)
