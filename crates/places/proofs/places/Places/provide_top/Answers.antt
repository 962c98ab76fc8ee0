use Rattle.std.proofs.Common.{None, Some, [], ap, arith, cond, length, nat_eq, refl, sym, ◌++◌, ◌==◌, ◌∙◌, ◌∷◌, ◌≡◌}
use Rattle.std.specs.FinMap as map
use Rattle.std.specs.HashMap as hash
use Rattle.std.specs.Ordering.{nat_cmp}
use Rattle.std.specs.Map.{lookup}
use Rattle.action_names.specs.Names.{IsName}
use Rattle.places.specs.Placed.{place_in}
use Rattle.places.specs.Trees.{name_of, names_by}
use Rattle.places.specs.declared.places.Node.{Node}
use Rattle.places.proofs.Growing.{names_length, names_push, top_added}
use Rattle.places.proofs.Looking.{new_place}
use Rattle.places.proofs.Walking.{tree_same}
use Rattle.places.proofs.places.Places.provide_top.Goals as goal

pub invariant_of-self : goal.invariant_of-self
invariant_of-self c = rw c.reserve.ensures.items c.self.invariant

pub invariant_of-self-in_err-insert : goal.invariant_of-self-in_err-insert
invariant_of-self-in_err-insert c =
    rw c.reserve.ensures.items
    (tree_same c.self.inside.nodes.items _ _ c.self.invariant (λ n. ap (lookup (nat_eq n)) c.in_err-insert.ensures.err))

pub invariant_of-self-2 : goal.invariant_of-self-2
invariant_of-self-2 c =
    let nodes = c.self.inside.nodes.items in
    let node : Node = record { number = c.args.number; parent = None; children = c.new.result } in
    let same : c.push_reserved.new.self.items ≡ nodes ++ node ∷ [] =
    c.push_reserved.ensures.items ∙ ap (λ xs. xs ++ node ∷ []) c.reserve.ensures.items in
    let last : c.len-at.result ≡ length nodes = omega (arith, c.len-at.ensures, ap length c.reserve.ensures.items) in
    let named : IsName (c.args.number ∷ []) = record { not_empty = omega arith; not_too_deep = omega arith; components = ((c.requires, omega arith), tt) } in
    rw same
    (top_added nodes (λ n. hash.get nat_eq c.self.inside.tops n) _ node c.self.invariant refl
    (λ n. ap (λ m. map.get m n) c.new.ensures ∙ map.get-empty nat_cmp n) named (sym c.in_default.ensures.value)
    (λ n. c.in_ok-insert.ensures.updates.0 n
    ∙ ap (λ k. cond (c.args.number == n) (Some k) (hash.get nat_eq c.self.inside.tops n)) last))

pub returns-clause-more : goal.returns-clause-more
returns-clause-more c =
    let nodes = c.self.inside.nodes.items in
    let node : Node = record { number = c.args.number; parent = None; children = c.new.result } in
    let same : c.push_reserved.new.self.items ≡ nodes ++ node ∷ [] =
    c.push_reserved.ensures.items ∙ ap (λ xs. xs ++ node ∷ []) c.reserve.ensures.items in
    record {
      added = name_of c.args.self.now node ∷ [];
      behind = ap names_by same ∙ names_push nodes node ∙ ap (λ ns. ns ++ name_of ns node ∷ []) c.self.view_is;
    }

pub returns-clause-place : goal.returns-clause-place
unfolding returns-clause-more
returns-clause-place c =
    let nodes = c.self.inside.nodes.items in
    let number = c.args.number in
    let none : place_in c.args.self.now (number ∷ []) ≡ None =
    ap (λ ns. place_in ns (number ∷ [])) (sym c.self.view_is) ∙ sym (c.self.invariant.tops number) ∙ sym c.in_default.ensures.value in
    let end : c.len-at.result ≡ length c.args.self.now =
    omega (arith, c.len-at.ensures, ap length c.reserve.ensures.items, names_length nodes, ap length c.self.view_is) in
    new_place c.args.self.now _ (number ∷ []) c.len-at.result (returns-clause-more c).behind none end
