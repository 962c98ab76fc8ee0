-- A tree of names with one node more.
use Rattle.std.proofs.Common.{Bool, List, None, Option, Some, [], ap, arith, cond, false, get_or, inl, inr, length, refl, set, subst, suc, sym, true, zero, ℕ, ◌&&◌, ◌++◌, ◌+◌, ◌<◌, ◌==◌, ◌∙◌, ◌∷◌, ◌≡◌, ◌⊎◌, ◌≢◌}
use Rattle.std.specs.FinMap as map
use Rattle.std.specs.Cmp.{nat_cmp_total}
use Rattle.std.specs.Ordering.{is_eq, nat_cmp}
use Rattle.std.specs.declared.cmp.Ordering.{Ordering}
use Rattle.std.specs.declared.cmp.Ordering.TheVariants.{Less, Equal, Greater}
use Rattle.std.specs.Prelude.{IsFalse, slice_get}
use Rattle.std.proofs.lemmas.Bool.{cases_eq, eqb-true, true≢false}
use Rattle.std.proofs.lemmas.Bool.Decides.{nat_tests}
use Rattle.std.proofs.lemmas.List.{get_or_append_left, get_or_push, length-append}
use Rattle.std.proofs.lemmas.Option.{same_Some, slice_get_within}
use Rattle.action_names.specs.Names.{IsName, Name, child_of, is_top, parent_of, same_name}
use Rattle.action_names.proofs.Ancestry.{other_length, same_is, same_refl}
use Rattle.places.specs.Placed.{ArePlaced, place_in}
use Rattle.places.specs.Trees.{IsNode, IsTree, name_at, name_of, names_by, with_nodes}
use Rattle.places.specs.declared.places.Node.{Node}
use Rattle.places.proofs.Looking.{not_last, or_last, place_at, place_last}

-- ---- names of children

pub parent_of-child : (a : Name) (n : ℕ) → parent_of (child_of a n) ≡ a
parent_of-child [] n = refl
parent_of-child (m ∷ []) n = refl
parent_of-child (m ∷ o ∷ a) n = ap (λ b. m ∷ b) (parent_of-child (o ∷ a) n)

pub last_number : (a : Name) (m n : ℕ) → child_of a m ≡ child_of a n → m ≡ n
last_number [] m n e = cc
last_number (o ∷ a) m n e = let rest : a ++ m ∷ [] ≡ a ++ n ∷ [] = cc in last_number a m n rest

pub child_length : (a : Name) (n : ℕ) → length (child_of a n) ≡ length a + 1
child_length a n = length-append a (n ∷ [])

pub not_top_child : (a : Name) (n : ℕ) → 0 < length a → is_top (child_of a n) ≡ false
not_top_child [] n h = absurd (omega arith)
not_top_child (m ∷ []) n h = refl
not_top_child (m ∷ o ∷ a) n h = refl

-- ---- the names of nodes

with_push : (names : List Name) (nodes : List Node) (node : Node) → with_nodes names (nodes ++ node ∷ []) ≡ with_nodes names nodes ++ name_of (with_nodes names nodes) node ∷ []
with_push names [] node = refl
with_push names (n ∷ nodes) node = with_push (names ++ name_of names n ∷ []) nodes node

pub names_push : (nodes : List Node) (node : Node) → names_by (nodes ++ node ∷ []) ≡ names_by nodes ++ name_of (names_by nodes) node ∷ []
names_push nodes node = with_push [] nodes node

with_length : (names : List Name) (nodes : List Node) → length (with_nodes names nodes) ≡ length names + length nodes
with_length names [] = omega arith
with_length names (n ∷ nodes) =
    omega (arith, with_length (names ++ name_of names n ∷ []) nodes, length-append names (name_of names n ∷ []))

pub names_length : (nodes : List Node) → length (names_by nodes) ≡ length nodes
names_length nodes = omega (arith, with_length [] nodes)

with_set : (names : List Name) (nodes : List Node) (i : ℕ) (old new : Node) → slice_get nodes i ≡ Some old → new.number ≡ old.number → new.parent ≡ old.parent
    → with_nodes names (set nodes i new) ≡ with_nodes names nodes
with_set names [] i old new got number parent = refl
with_set names (n ∷ nodes) zero old new got number parent =
    let is : n ≡ old = same_Some n old got in
    let same : name_of names new ≡ name_of names n =
    ap (λ p. child_of (name_at names p) new.number) (parent ∙ ap (λ (m : Node). m.parent) (sym is))
    ∙ ap (child_of (name_at names n.parent)) (number ∙ ap (λ (m : Node). m.number) (sym is)) in
    ap (λ c. with_nodes (names ++ c ∷ []) nodes) same
with_set names (n ∷ nodes) (suc i) old new got number parent = with_set (names ++ name_of names n ∷ []) nodes i old new got number parent

pub names_set : (nodes : List Node) (i : ℕ) (old new : Node) → slice_get nodes i ≡ Some old → new.number ≡ old.number → new.parent ≡ old.parent
    → names_by (set nodes i new) ≡ names_by nodes
names_set nodes i old new got number parent = with_set [] nodes i old new got number parent

-- ---- one name more

-- names that have places still have them, with one more behind its parent
placed_more : (names : List Name) (c : Name) → ArePlaced names → IsName c → place_in names c ≡ None
    → (is_top c ≡ false → (j : ℕ) × (j < length names) × (get_or names j [] ≡ parent_of c)) → ArePlaced (names ++ c ∷ [])
placed_more names c placed named new above = record {
  named = λ i h. by_place i h (cases_eq i (length names)) where_named;
  once = λ i h. once i h (cases_eq i (length names));
  behind = λ i h. behind i h (cases_eq i (length names));
}
  where
    before : (i : ℕ) → i < length (names ++ c ∷ []) → i ≢ length names → i < length names
    before i h other = omega (arith, length-append names (c ∷ []))

    stays : (i : ℕ) → i < length names → get_or (names ++ c ∷ []) i [] ≡ get_or names i []
    stays i h = get_or_append_left names (c ∷ []) [] i h

    last : (i : ℕ) → i ≡ length names → get_or (names ++ c ∷ []) i [] ≡ c
    last i e = get_or_push names c [] i (sym e)

    where_named : ((i : ℕ) → i < length names → IsName (get_or names i [])) × IsName c
    where_named = (placed.named, named)

    by_place : (i : ℕ) → i < length (names ++ c ∷ []) → (i ≡ length names) ⊎ (i ≢ length names)
        → ((j : ℕ) → j < length names → IsName (get_or names j [])) × IsName c → IsName (get_or (names ++ c ∷ []) i [])
    by_place i h (inl e) k = subst IsName (sym (last i e)) k.1
    by_place i h (inr other) k = let lt = before i h other in subst IsName (sym (stays i lt)) (k.0 i lt)

    once : (i : ℕ) → i < length (names ++ c ∷ []) → (i ≡ length names) ⊎ (i ≢ length names)
        → place_in (names ++ c ∷ []) (get_or (names ++ c ∷ []) i []) ≡ Some i
    once i h (inl e) =
        ap (place_in (names ++ c ∷ [])) (last i e) ∙ place_last names c c
        ∙ ap (λ o. or_last o (same_name c c) (length names)) new ∙ ap (λ t. cond t (Some (length names)) None) (same_refl c) ∙ ap Some (sym e)
    once i h (inr other) =
        let lt = before i h other in
        ap (place_in (names ++ c ∷ [])) (stays i lt) ∙ place_last names c (get_or names i [])
        ∙ ap (λ o. or_last o (same_name c (get_or names i [])) (length names)) (placed.once i lt)

    behind : (i : ℕ) → i < length (names ++ c ∷ []) → (i ≡ length names) ⊎ (i ≢ length names) → IsFalse (is_top (get_or (names ++ c ∷ []) i []))
        → (j : ℕ) × (j < i) × (get_or (names ++ c ∷ []) j [] ≡ parent_of (get_or (names ++ c ∷ []) i []))
    behind i h (inl e) below =
        let up = above (ap is_top (sym (last i e)) ∙ below) in
        (up.0, omega (arith, up.1, e), stays up.0 up.1 ∙ up.2 ∙ ap parent_of (sym (last i e)))
    behind i h (inr other) below =
        let lt = before i h other in
        let up = placed.behind i lt (ap is_top (sym (stays i lt)) ∙ below) in
        (up.0, up.1, stays up.0 (omega (arith, up.1, lt)) ∙ up.2 ∙ ap parent_of (sym (stays i lt)))

-- what has no place has no children that have one
nothing_below : (names : List Name) (c : Name) → ArePlaced names → place_in names c ≡ None → 0 < length c → (n : ℕ) → place_in names (child_of c n) ≡ None
nothing_below names c placed new long n = by_place (place_in names (child_of c n)) refl
  where
    by_place : (o : Option ℕ) → place_in names (child_of c n) ≡ o → o ≡ None
    by_place None e = refl
    by_place (Some i) e =
        let at = place_at names (child_of c n) i e in
        let up = placed.behind i at.0 (ap is_top at.1 ∙ not_top_child c n long) in
        let is : get_or names up.0 [] ≡ c = up.2 ∙ ap parent_of at.1 ∙ parent_of-child c n in
        let there : place_in names c ≡ Some up.0 = ap (place_in names) (sym is) ∙ placed.once up.0 (omega (arith, up.1, at.0)) in
        absurd (cc)

-- a node where the name that is new leads to the end
pub record IsRenewed (names : List Name) (c : Name) (i : ℕ) (old new : Node) : Type 0 where
  pub number : new.number ≡ old.number
  pub parent : new.parent ≡ old.parent
  pub children : (n : ℕ) → map.get new.children n ≡ or_last (map.get old.children n) (same_name c (child_of (get_or names i []) n)) (length names)

name_kept : (names : List Name) (c : Name) (p : Option ℕ) → ((j : ℕ) → p ≡ Some j → j < length names) → name_at (names ++ c ∷ []) p ≡ name_at names p
name_kept names c None within = refl
name_kept names c (Some j) within = get_or_append_left names (c ∷ []) [] j (within j refl)

node_kept : (names : List Name) (c : Name) (i : ℕ) (old new : Node) → i < length names → IsNode names i old → IsRenewed names c i old new → IsNode (names ++ c ∷ []) i new
node_kept names c i old new lt is renewed =
    let stays : get_or (names ++ c ∷ []) i [] ≡ get_or names i [] = get_or_append_left names (c ∷ []) [] i lt in
    record {
      name =
          stays ∙ is.name
          ∙ ap (λ b. child_of b old.number) (sym (name_kept names c old.parent (λ j e. omega (arith, is.parent j e, lt))))
          ∙ ap (λ p. child_of (name_at (names ++ c ∷ []) p) old.number) (sym renewed.parent)
          ∙ ap (child_of (name_at (names ++ c ∷ []) new.parent)) (sym renewed.number);
      parent = λ j e. is.parent j (sym renewed.parent ∙ e);
      children = λ n.
          renewed.children n
          ∙ ap (λ o. or_last o (same_name c (child_of (get_or names i []) n)) (length names)) (is.children n)
          ∙ sym (place_last names c (child_of (get_or names i []) n))
          ∙ ap (λ b. place_in (names ++ c ∷ []) (child_of b n)) (sym stays);
    }

node_last : (names : List Name) (node : Node) → ArePlaced names → place_in names (name_of names node) ≡ None → 0 < length (name_of names node)
    → ((j : ℕ) → node.parent ≡ Some j → j < length names) → ((n : ℕ) → map.get node.children n ≡ None) → IsNode (names ++ name_of names node ∷ []) (length names) node
node_last names node placed new long within empty =
    let c : Name = name_of names node in
    let here : get_or (names ++ name_of names node ∷ []) (length names) [] ≡ name_of names node = get_or_push names (name_of names node) [] (length names) refl in
    record {
      name = here ∙ ap (λ b. child_of b node.number) (sym (name_kept names (name_of names node) node.parent within));
      parent = within;
      children = λ n.
          empty n
          ∙ sym (ap (λ b. place_in (names ++ name_of names node ∷ []) (child_of b n)) here
          ∙ place_last names (name_of names node) (child_of (name_of names node) n)
          ∙ ap (λ o. or_last o (same_name (name_of names node) (child_of (name_of names node) n)) (length names)) (nothing_below names (name_of names node) placed new long n)
          ∙ ap (λ t. cond t (Some (length names)) None)
          (other_length (name_of names node) (child_of (name_of names node) n) (λ e. absurd (omega (arith, e, child_length (name_of names node) n)))));
    }

-- the parent of a new name stands before it
parent_before : (names : List Name) (node : Node) → ((j : ℕ) → node.parent ≡ Some j → j < length names) → is_top (name_of names node) ≡ false
    → (j : ℕ) × (j < length names) × (get_or names j [] ≡ parent_of (name_of names node))
parent_before names node within below = by_parent node.parent refl below
  where
    by_parent : (p : Option ℕ) → node.parent ≡ p → is_top (child_of (name_at names p) node.number) ≡ false
        → (j : ℕ) × (j < length names) × (get_or names j [] ≡ parent_of (name_of names node))
    by_parent None e top = absurd (true≢false top)
    by_parent (Some j) e top =
        (j, within j e, sym (parent_of-child (get_or names j []) node.number) ∙ ap (λ p. parent_of (child_of (name_at names p) node.number)) (sym e))

-- a tree with one node more
tree_more : (nodes more : List Node) (top after : ℕ → Option ℕ) (node : Node) → IsTree nodes top
    → names_by more ≡ names_by nodes ++ name_of (names_by nodes) node ∷ [] → IsName (name_of (names_by nodes) node)
    → place_in (names_by nodes) (name_of (names_by nodes) node) ≡ None → ((j : ℕ) → node.parent ≡ Some j → j < length (names_by nodes))
    → ((n : ℕ) → map.get node.children n ≡ None)
    → ((i : ℕ) (new : Node) → slice_get more i ≡ Some new → i < length (names_by nodes)
    → (old : Node) × (slice_get nodes i ≡ Some old) × IsRenewed (names_by nodes) (name_of (names_by nodes) node) i old new)
    → ((new : Node) → slice_get more (length (names_by nodes)) ≡ Some new → new ≡ node)
    → ((n : ℕ) → after n ≡ or_last (top n) (same_name (name_of (names_by nodes) node) (n ∷ [])) (length (names_by nodes)))
    → IsTree more after
tree_more nodes more top after node tree named_by named new within empty kept last tops =
    let names : List Name = names_by nodes in
    record {
      placed = subst ArePlaced (sym named_by)
          (placed_more (names_by nodes) (name_of (names_by nodes) node) tree.placed named new (parent_before (names_by nodes) node within));
      each = λ i x got. subst (λ ns. IsNode ns i x) (sym named_by) (by_place i x got (cases_eq i (length (names_by nodes))));
      tops = λ n.
          tops n ∙ ap (λ o. or_last o (same_name (name_of (names_by nodes) node) (n ∷ [])) (length (names_by nodes))) (tree.tops n)
          ∙ sym (place_last (names_by nodes) (name_of (names_by nodes) node) (n ∷ [])) ∙ ap (λ ns. place_in ns (n ∷ [])) (sym named_by);
    }
  where
    by_place : (i : ℕ) (x : Node) → slice_get more i ≡ Some x → (i ≡ length (names_by nodes)) ⊎ (i ≢ length (names_by nodes))
        → IsNode (names_by nodes ++ name_of (names_by nodes) node ∷ []) i x
    by_place i x got (inl e) =
        let is : x ≡ node = last x (ap (slice_get more) (sym e) ∙ got) in
        subst (λ k. IsNode (names_by nodes ++ name_of (names_by nodes) node ∷ []) k x) (sym e)
        (subst (IsNode (names_by nodes ++ name_of (names_by nodes) node ∷ []) (length (names_by nodes))) (sym is)
        (node_last (names_by nodes) node tree.placed new named.not_empty within empty))
    by_place i x got (inr other) =
        let lt : i < length (names_by nodes) = omega (arith, slice_get_within more i x got, names_length more, ap length named_by, length-append (names_by nodes) (name_of (names_by nodes) node ∷ [])) in
        let from = kept i x got lt in
        node_kept (names_by nodes) (name_of (names_by nodes) node) i from.0 x lt (tree.each i from.0 from.1) from.2

-- ---- lists of nodes

get_before : {X : Type 0} (xs ys : List X) (i : ℕ) → i < length xs → slice_get (xs ++ ys) i ≡ slice_get xs i
get_before [] ys i h = absurd (omega arith)
get_before (x ∷ xs) ys zero h = refl
get_before (x ∷ xs) ys (suc i) h = get_before xs ys i (omega arith)

get_last : {X : Type 0} (xs : List X) (y x : X) → slice_get (xs ++ y ∷ []) (length xs) ≡ Some x → x ≡ y
get_last [] y x e = cc
get_last (z ∷ xs) y x e = get_last xs y x e

pub get_set : {X : Type 0} (xs : List X) (i : ℕ) (y : X) → i < length xs → slice_get (set xs i y) i ≡ Some y
get_set [] i y h = absurd (omega arith)
get_set (x ∷ xs) zero y h = refl
get_set (x ∷ xs) (suc i) y h = get_set xs i y (omega arith)

pub get_set_other : {X : Type 0} (xs : List X) (i j : ℕ) (y : X) → j ≢ i → slice_get (set xs i y) j ≡ slice_get xs j
get_set_other [] i j y h = refl
get_set_other (x ∷ xs) zero zero y h = absurd (h refl)
get_set_other (x ∷ xs) zero (suc j) y h = refl
get_set_other (x ∷ xs) (suc i) zero y h = refl
get_set_other (x ∷ xs) (suc i) (suc j) y h = get_set_other xs i j y (λ e. h (ap suc e))

set_length : {X : Type 0} (xs : List X) (i : ℕ) (y : X) → length (set xs i y) ≡ length xs
set_length [] i y = refl
set_length (x ∷ xs) zero y = refl
set_length (x ∷ xs) (suc i) y = ap suc (set_length xs i y)

pub set_self : {X : Type 0} (xs : List X) (i : ℕ) (x : X) → slice_get xs i ≡ Some x → set xs i x ≡ xs
set_self [] i x got = refl
set_self (y ∷ xs) zero x got = ap (λ z. z ∷ xs) (sym (same_Some y x got))
set_self (y ∷ xs) (suc i) x got = ap (λ ys. y ∷ ys) (set_self xs i x got)

-- ---- a top action more

pub top_added : (nodes : List Node) (top after : ℕ → Option ℕ) (node : Node) → IsTree nodes top → node.parent ≡ None → ((n : ℕ) → map.get node.children n ≡ None)
    → IsName (node.number ∷ []) → top node.number ≡ None → ((n : ℕ) → after n ≡ cond (node.number == n) (Some (length nodes)) (top n))
    → IsTree (nodes ++ node ∷ []) after
top_added nodes top after node tree root empty named new tops =
    tree_more nodes (nodes ++ node ∷ []) top after node tree (names_push nodes node) (subst IsName (sym is) named)
    (ap (place_in (names_by nodes)) is ∙ sym (tree.tops node.number) ∙ new) (λ j e. absurd (cc)) empty kept
    (λ x got. get_last nodes node x (ap (slice_get (nodes ++ node ∷ [])) (sym (names_length nodes)) ∙ got)) (λ n. tops n ∙ found n)
  where
    is : name_of (names_by nodes) node ≡ node.number ∷ []
    is = ap (λ p. child_of (name_at (names_by nodes) p) node.number) root

    kept : (i : ℕ) (x : Node) → slice_get (nodes ++ node ∷ []) i ≡ Some x → i < length (names_by nodes)
        → (old : Node) × (slice_get nodes i ≡ Some old) × IsRenewed (names_by nodes) (name_of (names_by nodes) node) i old x
    kept i x got lt = (
      x,
      sym (get_before nodes (node ∷ []) i (omega (arith, lt, names_length nodes))) ∙ got,
      record {
        number = refl;
        parent = refl;
        children = λ n.
            sym (ap (λ t. or_last (map.get x.children n) t (length (names_by nodes)))
            (other_length (name_of (names_by nodes) node) (child_of (get_or (names_by nodes) i []) n)
            (λ e. absurd (omega (arith, e, ap length is, child_length (get_or (names_by nodes) i []) n, (tree.placed.named i lt).not_empty))))
            ∙ not_last (map.get x.children n) (length (names_by nodes)));
      },
    )

    with_true : (b : Bool) → (b && true) ≡ b
    with_true true = refl
    with_true false = refl

    found : (n : ℕ) → cond (node.number == n) (Some (length nodes)) (top n)
        ≡ or_last (top n) (same_name (name_of (names_by nodes) node) (n ∷ [])) (length (names_by nodes))
    found n =
        by_number (node.number == n) refl
        ∙ ap (or_last (top n) (node.number == n)) (sym (names_length nodes))
        ∙ ap (λ t. or_last (top n) t (length (names_by nodes))) (sym (ap (λ a. same_name a (n ∷ [])) is ∙ with_true (node.number == n)))
      where
        by_number : (b : Bool) → (node.number == n) ≡ b → cond b (Some (length nodes)) (top n) ≡ or_last (top n) b (length nodes)
        by_number true e =
            let same : node.number ≡ n = eqb-true node.number n e in
            sym (ap (λ o. or_last o true (length nodes)) (ap top (sym same) ∙ new))
        by_number false e = sym (not_last (top n) (length nodes))

-- ---- a child more

cmp_equal : (x y : ℕ) → x ≡ y → nat_cmp x y ≡ Equal
cmp_equal x y h = grind (arith, nat_tests)

pub child_added : (nodes : List Node) (top : ℕ → Option ℕ) (p : ℕ) (old new node : Node) → IsTree nodes top → slice_get nodes p ≡ Some old
    → new.number ≡ old.number → new.parent ≡ old.parent → map.get old.children node.number ≡ None
    → new.children ≡ map.insert old.children node.number (length nodes) → node.parent ≡ Some p → ((n : ℕ) → map.get node.children n ≡ None)
    → IsName (child_of (get_or (names_by nodes) p []) node.number) → IsTree (set nodes p new ++ node ∷ []) top
child_added nodes top p old new node tree got number parent none children under empty named =
    tree_more nodes (set nodes p new ++ node ∷ []) top top node tree named_by (subst IsName (sym is) named)
    (ap (place_in (names_by nodes)) is ∙ sym ((tree.each p old got).children node.number) ∙ none)
    (λ j e. let same : p ≡ j = same_Some p j (sym under ∙ e) in subst (λ k. k < length (names_by nodes)) same within) empty kept
    (λ x h. get_last (set nodes p new) node x (ap (slice_get (set nodes p new ++ node ∷ [])) (set_length nodes p new ∙ sym (names_length nodes)) ∙ h))
    (λ n. sym (ap (λ t. or_last (top n) t (length (names_by nodes)))
    (other_length (name_of (names_by nodes) node) (n ∷ [])
    (λ e. absurd (omega (arith, e, ap length is, child_length (get_or (names_by nodes) p []) node.number, (tree.placed.named p within).not_empty))))
    ∙ not_last (top n) (length (names_by nodes))))
  where
    within : p < length (names_by nodes)
    within = omega (arith, slice_get_within nodes p old got, names_length nodes)

    is : name_of (names_by nodes) node ≡ child_of (get_or (names_by nodes) p []) node.number
    is = ap (λ q. child_of (name_at (names_by nodes) q) node.number) under

    named_by : names_by (set nodes p new ++ node ∷ []) ≡ names_by nodes ++ name_of (names_by nodes) node ∷ []
    named_by =
        names_push (set nodes p new) node
        ∙ ap (λ ns. ns ++ name_of ns node ∷ []) (names_set nodes p old new got number parent)

    -- the new name is no other child's
    other_child : (i n : ℕ) → i < length (names_by nodes) → i ≢ p → same_name (name_of (names_by nodes) node) (child_of (get_or (names_by nodes) i []) n) ≡ false
    other_child i n lt apart = by_name (same_name (name_of (names_by nodes) node) (child_of (get_or (names_by nodes) i []) n)) refl
      where
        by_name : (b : Bool) → same_name (name_of (names_by nodes) node) (child_of (get_or (names_by nodes) i []) n) ≡ b → b ≡ false
        by_name false e = refl
        by_name true e =
            let same : child_of (get_or (names_by nodes) p []) node.number ≡ child_of (get_or (names_by nodes) i []) n = sym is ∙ same_is _ _ e in
            let parents : get_or (names_by nodes) p [] ≡ get_or (names_by nodes) i [] =
            sym (parent_of-child (get_or (names_by nodes) p []) node.number) ∙ ap parent_of same ∙ parent_of-child (get_or (names_by nodes) i []) n in
            let places : Some p ≡ Some i = sym (tree.placed.once p within) ∙ ap (place_in (names_by nodes)) parents ∙ tree.placed.once i lt in
            absurd (apart (sym (same_Some p i places)))

    own_child : (n : ℕ) → map.get (map.insert old.children node.number (length nodes)) n
        ≡ or_last (map.get old.children n) (same_name (name_of (names_by nodes) node) (child_of (get_or (names_by nodes) p []) n)) (length (names_by nodes))
    own_child n = map.get-insert nat_cmp_total old.children node.number (length nodes) n ∙ by_cmp (nat_cmp n node.number) refl
      where
        same_child : n ≡ node.number → same_name (name_of (names_by nodes) node) (child_of (get_or (names_by nodes) p []) n) ≡ true
        same_child e =
            ap (λ k. same_name (name_of (names_by nodes) node) (child_of (get_or (names_by nodes) p []) k)) e
            ∙ ap (same_name (name_of (names_by nodes) node)) (sym is) ∙ same_refl (name_of (names_by nodes) node)

        apart : (n ≡ node.number → ⊥) → (b : Bool) → same_name (name_of (names_by nodes) node) (child_of (get_or (names_by nodes) p []) n) ≡ b → b ≡ false
        apart other false e = refl
        apart other true e =
            absurd (other (sym (last_number (get_or (names_by nodes) p []) node.number n (sym is ∙ same_is _ _ e))))

        other_child_of_it : (n ≡ node.number → ⊥) → map.get old.children n
            ≡ or_last (map.get old.children n) (same_name (name_of (names_by nodes) node) (child_of (get_or (names_by nodes) p []) n)) (length (names_by nodes))
        other_child_of_it other =
            sym (ap (λ t. or_last (map.get old.children n) t (length (names_by nodes))) (apart other _ refl) ∙ not_last (map.get old.children n) (length (names_by nodes)))

        by_cmp : (r : Ordering) → nat_cmp n node.number ≡ r → cond (is_eq r) (Some (length nodes)) (map.get old.children n)
            ≡ or_last (map.get old.children n) (same_name (name_of (names_by nodes) node) (child_of (get_or (names_by nodes) p []) n)) (length (names_by nodes))
        by_cmp Less c = other_child_of_it (λ e. let k : nat_cmp n node.number ≡ Equal = cmp_equal n node.number e in absurd (cc))
        by_cmp Greater c = other_child_of_it (λ e. let k : nat_cmp n node.number ≡ Equal = cmp_equal n node.number e in absurd (cc))
        by_cmp Equal c =
            let e : n ≡ node.number = map.nat_cmp-IsAntisymmetric n node.number c in
            ap Some (sym (names_length nodes))
            ∙ sym (ap (λ o. or_last o (same_name (name_of (names_by nodes) node) (child_of (get_or (names_by nodes) p []) n)) (length (names_by nodes)))
            (ap (map.get old.children) e ∙ none)
            ∙ ap (λ t. cond t (Some (length (names_by nodes))) None) (same_child e))

    kept : (i : ℕ) (x : Node) → slice_get (set nodes p new ++ node ∷ []) i ≡ Some x → i < length (names_by nodes)
        → (was : Node) × (slice_get nodes i ≡ Some was) × IsRenewed (names_by nodes) (name_of (names_by nodes) node) i was x
    kept i x h lt = by_place (cases_eq i p)
      where
        there : slice_get (set nodes p new) i ≡ Some x
        there = sym (get_before (set nodes p new) (node ∷ []) i (omega (arith, lt, names_length nodes, set_length nodes p new))) ∙ h

        by_place : (i ≡ p) ⊎ (i ≢ p) → (was : Node) × (slice_get nodes i ≡ Some was) × IsRenewed (names_by nodes) (name_of (names_by nodes) node) i was x
        by_place (inl e) =
            let is_new : new ≡ x = same_Some new x (sym (get_set nodes p new (slice_get_within nodes p old got)) ∙ ap (slice_get (set nodes p new)) (sym e) ∙ there) in (
              old,
              ap (slice_get nodes) e ∙ got,
              subst (λ y. IsRenewed (names_by nodes) (name_of (names_by nodes) node) i old y) is_new (record {
                number = number;
                parent = parent;
                children = λ n.
                    ap (λ m. map.get m n) children ∙ own_child n
                    ∙ ap (λ k. or_last (map.get old.children n) (same_name (name_of (names_by nodes) node) (child_of (get_or (names_by nodes) k []) n)) (length (names_by nodes))) (sym e);
              }),
            )
        by_place (inr other) = (
          x,
          sym (get_set_other nodes p i new other) ∙ there,
          record {
            number = refl;
            parent = refl;
            children = λ n.
                sym (ap (λ t. or_last (map.get x.children n) t (length (names_by nodes))) (other_child i n lt other)
                ∙ not_last (map.get x.children n) (length (names_by nodes)));
          },
        )
