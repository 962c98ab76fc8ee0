-- The laws of the two comparisons of names: `same_name` is an equivalence, and `name_cmp` a total order that agrees
-- with it. What a name feeds a hasher, which for the same names is the same.
use Rattle.std.specs.Prelude.{◌≡◌, [], ◌∷◌, ◌&&◌, ◌==◌, IsTrue, nat_eq, refl}
use Rattle.std.specs.Ordering.{eq_by_cmp, as_partial_cmp}
use Rattle.std.specs.Cmp.{IsEquivalence, IsPartialEquivalence, IsTotalOrder, IsPartialOrder, partial_equiv_from_equiv, po}
use Rattle.std.specs.Cmp.Lexicographic.{pointwise, bytes_decides, texts_ties, nat_list_cmp_total, nat_list_eq_equiv}
use Rattle.std.specs.Hash.{HashWrites, u32}
use Rattle.std.specs.List.{flat_map}
use mathlib.Core.Path.{sym, ap, subst, ◌∙◌}
use Rattle.action_names.specs.Names.{Name, same_name, name_cmp}

-- names are the same exactly where their numbers are, one by one
pub same_name-pointwise : (a b : Name) → pointwise nat_eq a b ≡ same_name a b
same_name-pointwise [] [] = refl
same_name-pointwise [] (n ∷ b) = refl
same_name-pointwise (m ∷ a) [] = refl
same_name-pointwise (m ∷ a) (n ∷ b) = ap (λ r. (m == n) && r) (same_name-pointwise a b)

pub same_name-equivalence : IsEquivalence same_name
same_name-equivalence = subst IsEquivalence (λ i a b. same_name-pointwise a b i) nat_list_eq_equiv

pub same_name-partial_equivalence : IsPartialEquivalence same_name
same_name-partial_equivalence = partial_equiv_from_equiv same_name-equivalence

pub name_cmp-total : IsTotalOrder name_cmp
name_cmp-total = nat_list_cmp_total

-- the order tells apart just the names that differ
pub same_name-ties : (a b : Name) → same_name a b ≡ eq_by_cmp name_cmp a b
same_name-ties a b = sym (same_name-pointwise a b) ∙ texts_ties a b

pub name_cmp-partial_order : IsPartialOrder same_name (as_partial_cmp name_cmp)
name_cmp-partial_order = po name_cmp-total same_name-ties

-- each number in turn
abbrev pub fed_name : Name → HashWrites
fed_name a = flat_map u32 a

pub same_name-fed : (a b : Name) → IsTrue (same_name a b) → fed_name a ≡ fed_name b
same_name-fed a b h = ap (flat_map u32) ((bytes_decides a b).0 (same_name-pointwise a b ∙ h))
