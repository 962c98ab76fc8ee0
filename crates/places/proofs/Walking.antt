-- Paths from the top of a tree down, and from an action up.
use Rattle.std.proofs.Common.{Bool, List, None, Option, Some, [], ap, append_assoc, arith, drop, false, get_or, length, refl, subst, sym, true, ℕ, ◌&&◌, ◌++◌, ◌+◌, ◌<◌, ◌==◌, ◌∙◌, ◌∷◌, ◌≡◌, ◌≢◌}
use Rattle.std.specs.List.{AllByRecursion}
use Rattle.std.specs.Prelude.{slice_get}
use Rattle.std.proofs.lemmas.Bool.{eq-eqb, eqb-true}
use Rattle.std.proofs.lemmas.List.{drop_more, length-append}
use Rattle.std.proofs.lemmas.Option.{same_Some, slice_get_within}
use Rattle.action_names.specs.Names.{IsComponent, IsName, Name, child_of, is_ancestor, is_prefix, is_top, parent_of}
use Rattle.places.specs.Placed.{AreMore, ArePlaced, place_in}
use Rattle.places.specs.Trees.{IsTree, name_at, name_of, names_by}
use Rattle.places.specs.declared.places.Node.{Node}
use Rattle.places.proofs.Looking.{place_at}
use Rattle.places.proofs.Growing.{names_length, not_top_child, parent_of-child}

-- the empty name has no place
pub no_root : (names : List Name) → ArePlaced names → place_in names [] ≡ None
no_root names placed = by_place (place_in names []) refl
  where
    by_place : (o : Option ℕ) → place_in names [] ≡ o → o ≡ None
    by_place None e = refl
    by_place (Some i) e =
        let at = place_at names [] i e in
        absurd (omega (arith, (placed.named i at.0).not_empty, ap length at.1))

pub append_nil : {X : Type 0} (xs : List X) → xs ++ [] ≡ xs
append_nil [] = refl
append_nil (x ∷ xs) = ap (λ ys. x ∷ ys) (append_nil xs)

-- where a child has a place, its parent has
parent_has : (names : List Name) → ArePlaced names → (a : Name) (n i : ℕ) → 0 < length a → place_in names (child_of a n) ≡ Some i
    → (j : ℕ) × (place_in names a ≡ Some j)
parent_has names placed a n i long e =
    let at = place_at names (child_of a n) i e in
    let up = placed.behind i at.0 (ap is_top at.1 ∙ not_top_child a n long) in
    let is : get_or names up.0 [] ≡ a = up.2 ∙ ap parent_of at.1 ∙ parent_of-child a n in
    (up.0, ap (place_in names) (sym is) ∙ placed.once up.0 (omega (arith, up.1, at.0)))

above_has : (names : List Name) → ArePlaced names → (a b : Name) (i : ℕ) → 0 < length a → place_in names (a ++ b) ≡ Some i
    → (j : ℕ) × (place_in names a ≡ Some j)
above_has names placed a [] i long e = (i, subst (λ c. place_in names c ≡ Some i) (append_nil a) e)
above_has names placed a (n ∷ b) i long e =
    let further : place_in names (child_of a n ++ b) ≡ Some i = ap (place_in names) (append_assoc a (n ∷ []) b) ∙ e in
    let child = above_has names placed (child_of a n) b i (omega (arith, length-append a (n ∷ []))) further in
    parent_has names placed a n child.0 long child.1

-- where a beginning of a path has no place, the path has none
pub no_way : (names : List Name) → ArePlaced names → (a b : Name) → 0 < length a → place_in names a ≡ None → place_in names (a ++ b) ≡ None
no_way names placed a b long none = by_place (place_in names (a ++ b)) refl
  where
    by_place : (o : Option ℕ) → place_in names (a ++ b) ≡ o → o ≡ None
    by_place None e = refl
    by_place (Some i) e = let up = above_has names placed a b i long e in absurd (cc)

-- ---- parents

-- the place of a node's parent
pub parent_place : (nodes : List Node) (top : ℕ → Option ℕ) (i : ℕ) (node : Node) → IsTree nodes top → slice_get nodes i ≡ Some node
    → node.parent ≡ place_in (names_by nodes) (parent_of (get_or (names_by nodes) i []))
parent_place nodes top i node tree got = by_parent node.parent refl
  where
    name : get_or (names_by nodes) i [] ≡ name_of (names_by nodes) node
    name = (tree.each i node got).name

    by_parent : (p : Option ℕ) → node.parent ≡ p → p ≡ place_in (names_by nodes) (parent_of (get_or (names_by nodes) i []))
    by_parent None e =
        let is : parent_of (get_or (names_by nodes) i []) ≡ [] =
        ap parent_of (name ∙ ap (λ p. child_of (name_at (names_by nodes) p) node.number) e) ∙ parent_of-child [] node.number in
        sym (ap (place_in (names_by nodes)) is ∙ no_root (names_by nodes) tree.placed)
    by_parent (Some j) e =
        let is : parent_of (get_or (names_by nodes) i []) ≡ get_or (names_by nodes) j [] =
        ap parent_of (name ∙ ap (λ p. child_of (name_at (names_by nodes) p) node.number) e) ∙ parent_of-child (get_or (names_by nodes) j []) node.number in
        let lt : j < length (names_by nodes) = omega (arith, (tree.each i node got).parent j e, slice_get_within nodes i node got, names_length nodes) in
        sym (ap (place_in (names_by nodes)) is ∙ tree.placed.once j lt)

prefix_child : (a b : Name) (n : ℕ) → (a ≡ child_of b n → ⊥) → is_prefix a (child_of b n) ≡ is_prefix a b
prefix_child [] b n other = refl
prefix_child (m ∷ []) [] n other = by_number (m == n) refl
  where
    by_number : (s : Bool) → (m == n) ≡ s → (s && true) ≡ false
    by_number true e = let same : m ≡ n = eqb-true m n e in absurd (other (ap (λ k. k ∷ []) same))
    by_number false e = refl
prefix_child (m ∷ k ∷ a) [] n other = and_false (m == n)
  where
    and_false : (s : Bool) → (s && false) ≡ false
    and_false true = refl
    and_false false = refl
prefix_child (m ∷ a) (o ∷ b) n other = by_number (prefix_child a b n) (m == o) refl
  where
    by_number : ((a ≡ child_of b n → ⊥) → is_prefix a (child_of b n) ≡ is_prefix a b) → (s : Bool) → (m == o) ≡ s
        → (s && is_prefix a (child_of b n)) ≡ (s && is_prefix a b)
    by_number rest false e = refl
    by_number rest true e =
        rest (λ same. other (ap (λ c. m ∷ c) same ∙ ap (λ k. k ∷ child_of b n) (eqb-true m o e)))

ancestor_child : (a b : Name) (n : ℕ) → (a ≡ child_of b n → ⊥) → is_ancestor a (child_of b n) ≡ is_ancestor a b
ancestor_child [] b n other = refl
ancestor_child (m ∷ a) b n other = prefix_child (m ∷ a) b n other

-- an ancestor of an action other than itself is one of its parent, if it has one
pub ancestor_above : (nodes : List Node) (top : ℕ → Option ℕ) (above i : ℕ) (node : Node) → IsTree nodes top → slice_get nodes i ≡ Some node
    → above < length (names_by nodes) → i ≢ above
    → is_ancestor (get_or (names_by nodes) above []) (get_or (names_by nodes) i []) ≡ is_ancestor (get_or (names_by nodes) above []) (name_at (names_by nodes) node.parent)
ancestor_above nodes top above i node tree got within other =
    ap (is_ancestor (get_or (names_by nodes) above [])) (tree.each i node got).name
    ∙ ancestor_child (get_or (names_by nodes) above []) (name_at (names_by nodes) node.parent) node.number (λ same.
    let lt : i < length (names_by nodes) = omega (arith, slice_get_within nodes i node got, names_length nodes) in
    let one : Some i ≡ Some above =
    sym (tree.placed.once i lt) ∙ ap (place_in (names_by nodes)) ((tree.each i node got).name ∙ sym same) ∙ tree.placed.once above within in
    other (same_Some i above one))

-- ---- what is added

pub more_none : (names : List Name) → AreMore names names
more_none names = record { added = []; behind = sym (append_nil names) }

pub more_more : (old mid new : List Name) → AreMore old mid → AreMore mid new → AreMore old new
more_more old mid new x y = record {
  added = x.added ++ y.added;
  behind = y.behind ∙ ap (λ ns. ns ++ y.added) x.behind ∙ append_assoc old x.added y.added;
}

-- ---- beginnings of a name

components_before : (a b : Name) → AllByRecursion IsComponent (a ++ b) → AllByRecursion IsComponent a
components_before [] b h = tt
components_before (m ∷ a) b h = (h.0, components_before a b h.1)

pub named_beginning : (a b : Name) → 0 < length a → IsName (a ++ b) → IsName a
named_beginning a b long named = record {
  not_empty = omega arith;
  not_too_deep = omega (arith, named.not_too_deep, length-append a b);
  components = components_before a b named.components;
}

-- what is left of a path is its next number and what comes behind
pub next_number : (done below : Name) (k : ℕ) → k < length below → done ++ drop k below ≡ child_of done (get_or below k 0) ++ drop (k + 1) below
next_number done below k h =
    ap (λ rest. done ++ rest) (drop_more below k 0 h) ∙ sym (append_assoc done (get_or below k 0 ∷ []) (drop (k + 1) below))

-- ---- ancestors

pub none_above : (a : Name) → is_ancestor a [] ≡ false
none_above [] = refl
none_above (m ∷ a) = refl

prefix_self : (a : Name) → is_prefix a a ≡ true
prefix_self [] = refl
prefix_self (n ∷ a) = rw (eq-eqb n n refl, prefix_self a) refl

pub own_ancestor : (a : Name) → 0 < length a → is_ancestor a a ≡ true
own_ancestor [] long = absurd (omega arith)
own_ancestor (n ∷ a) long = prefix_self (n ∷ a)

-- ---- the same tree

-- by other tops that lead to the same places
pub tree_same : (nodes : List Node) (top after : ℕ → Option ℕ) → IsTree nodes top → ((n : ℕ) → after n ≡ top n) → IsTree nodes after
tree_same nodes top after tree same = record { placed = tree.placed; each = tree.each; tops = λ n. same n ∙ tree.tops n }
