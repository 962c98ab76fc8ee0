use Rattle.std.proofs.Common.{None, Some, [], ap, arith, get_or, length, nat_eq, refl, set, subst, sym, ℕ, ◌++◌, ◌<◌, ◌∙◌, ◌∷◌, ◌≡◌}
use Rattle.std.specs.FinMap as map
use Rattle.std.specs.HashMap as hash
use Rattle.std.specs.Ordering.{nat_cmp}
use Rattle.std.specs.Prelude.{slice_get}
use Rattle.std.proofs.lemmas.Option.{same_Some, slice_get_read}
use Rattle.action_names.specs.Names.{IsName, child_of}
use Rattle.places.specs.Placed.{place_in}
use Rattle.places.specs.Trees.{IsTree, name_of, names_by}
use Rattle.places.specs.declared.places.Node.{Node}
use Rattle.places.proofs.Growing.{child_added, names_length, names_push, names_set, set_self}
use Rattle.places.proofs.Looking.{new_place}
use Rattle.places.proofs.places.Places.provide_child.Goals as goal

pub index-requires : goal.index-requires
index-requires c = omega (arith, ap length c.self.view_is, names_length c.self.inside.nodes.items)

pub returns-in-Some-clause-place : goal.returns-in-Some-clause-place
returns-in-Some-clause-place c =
    let nodes = c.self.inside.nodes.items in
    let p = c.args.parent in
    let node = c.index.result.now in
    let within : p < length nodes = omega (arith, ap length c.self.view_is, names_length nodes) in
    let got : slice_get nodes p ≡ Some node = slice_get_read nodes (length nodes) p node refl within c.index.ensures in
    rw (← c.self.view_is) (sym ((c.self.invariant.each p node got).children c.args.number) ∙ sym c.in-Some.ensures)

pub invariant_of-self : goal.invariant_of-self
invariant_of-self c = rw c.reserve.ensures.items c.self.invariant

pub index_mut-requires : goal.index_mut-requires
index_mut-requires c =
    omega (arith, ap length c.self.view_is, names_length c.self.inside.nodes.items, ap length c.reserve.ensures.items)

pub insert-requires : goal.insert-requires
insert-requires c =
    let nodes = c.self.inside.nodes.items in
    let p = c.args.parent in
    let node = c.index.result.now in
    let old = c.index_mut.result.now in
    let within : p < length nodes = omega (arith, ap length c.self.view_is, names_length nodes) in
    let got : slice_get nodes p ≡ Some node = slice_get_read nodes (length nodes) p node refl within c.index.ensures in
    let read : slice_get nodes p ≡ Some old =
    slice_get_read nodes (length nodes) p old refl within (c.index_mut.ensures.value ∙ ap (λ xs. get_or xs p old) c.reserve.ensures.items) in
    ap (λ (x : Node). map.get x.children c.args.number) (sym (same_Some node old (sym got ∙ read))) ∙ sym c.in_default.ensures

pub invariant_of-self-in_err-insert : goal.invariant_of-self-in_err-insert
invariant_of-self-in_err-insert c =
    let nodes = c.self.inside.nodes.items in
    let p = c.args.parent in
    let old = c.index_mut.result.now in
    let within : p < length nodes = omega (arith, ap length c.self.view_is, names_length nodes) in
    let read : slice_get nodes p ≡ Some old =
    slice_get_read nodes (length nodes) p old refl within (c.index_mut.ensures.value ∙ ap (λ xs. get_or xs p old) c.reserve.ensures.items) in
    let new : map.FinMap nat_cmp ℕ → Node = λ children. record { number = old.number; parent = old.parent; children = children } in
    let same : set c.reserve.new.self.items p (new c.insert.new.self) ≡ nodes =
    ap (λ xs. set xs p (new c.insert.new.self)) c.reserve.ensures.items
    ∙ ap (λ children. set nodes p (new children)) c.in_err-insert.ensures.err
    ∙ set_self nodes p old read in
    subst (λ ns. IsTree ns (λ n. hash.get nat_eq c.self.inside.tops n)) (sym same) c.self.invariant

pub invariant_of-self-2 : goal.invariant_of-self-2
invariant_of-self-2 c =
    let nodes = c.self.inside.nodes.items in
    let p = c.args.parent in
    let number = c.args.number in
    let was = c.index.result.now in
    let old = c.index_mut.result.now in
    let node : Node = record { number = number; parent = Some p; children = c.new.result } in
    let new : Node = record { number = old.number; parent = old.parent; children = c.insert.new.self } in
    let within : p < length nodes = omega (arith, ap length c.self.view_is, names_length nodes) in
    let got : slice_get nodes p ≡ Some was = slice_get_read nodes (length nodes) p was refl within c.index.ensures in
    let read : slice_get nodes p ≡ Some old =
    slice_get_read nodes (length nodes) p old refl within (c.index_mut.ensures.value ∙ ap (λ xs. get_or xs p old) c.reserve.ensures.items) in
    let none : map.get old.children number ≡ None =
    ap (λ (x : Node). map.get x.children number) (sym (same_Some was old (sym got ∙ read))) ∙ sym c.in_default.ensures in
    let same : c.push_reserved.new.self.items ≡ set nodes p new ++ node ∷ [] =
    c.push_reserved.ensures.items ∙ ap (λ xs. set xs p new ++ node ∷ []) c.reserve.ensures.items in
    let last : c.len-at.result ≡ length nodes = omega (arith, c.len-at.ensures, ap length c.reserve.ensures.items) in
    let children : new.children ≡ map.insert old.children number (length nodes) =
    c.in_ok-insert.ensures.ok ∙ ap (map.insert old.children number) last in
    let named : IsName (child_of (get_or (names_by nodes) p []) number) =
    subst (λ ns. IsName (child_of (get_or ns p []) number)) (sym c.self.view_is) c.requires.name in
    rw same
    (child_added nodes (λ n. hash.get nat_eq c.self.inside.tops n) p old new node c.self.invariant read refl refl none children refl
    (λ n. ap (λ m. map.get m n) c.new.ensures ∙ map.get-empty nat_cmp n) named)

pub returns-clause-more : goal.returns-clause-more
returns-clause-more c =
    let nodes = c.self.inside.nodes.items in
    let p = c.args.parent in
    let old = c.index_mut.result.now in
    let node : Node = record { number = c.args.number; parent = Some p; children = c.new.result } in
    let new : Node = record { number = old.number; parent = old.parent; children = c.insert.new.self } in
    let within : p < length nodes = omega (arith, ap length c.self.view_is, names_length nodes) in
    let read : slice_get nodes p ≡ Some old =
    slice_get_read nodes (length nodes) p old refl within (c.index_mut.ensures.value ∙ ap (λ xs. get_or xs p old) c.reserve.ensures.items) in
    let same : c.push_reserved.new.self.items ≡ set nodes p new ++ node ∷ [] =
    c.push_reserved.ensures.items ∙ ap (λ xs. set xs p new ++ node ∷ []) c.reserve.ensures.items in
    record {
      added = name_of c.args.self.now node ∷ [];
      behind = ap names_by same ∙ names_push (set nodes p new) node
          ∙ ap (λ ns. ns ++ name_of ns node ∷ []) (names_set nodes p old new read refl refl ∙ c.self.view_is);
    }

pub returns-clause-place : goal.returns-clause-place
unfolding returns-clause-more
returns-clause-place c =
    let nodes = c.self.inside.nodes.items in
    let p = c.args.parent in
    let number = c.args.number in
    let was = c.index.result.now in
    let within : p < length nodes = omega (arith, ap length c.self.view_is, names_length nodes) in
    let got : slice_get nodes p ≡ Some was = slice_get_read nodes (length nodes) p was refl within c.index.ensures in
    let none : place_in c.args.self.now (child_of (get_or c.args.self.now p []) number) ≡ None =
    ap (λ ns. place_in ns (child_of (get_or ns p []) number)) (sym c.self.view_is)
    ∙ sym ((c.self.invariant.each p was got).children number) ∙ sym c.in_default.ensures in
    let end : c.len-at.result ≡ length c.args.self.now =
    omega (arith, c.len-at.ensures, ap length c.reserve.ensures.items, names_length nodes, ap length c.self.view_is) in
    new_place c.args.self.now _ (child_of (get_or c.args.self.now p []) number) c.len-at.result (returns-clause-more c).behind none end
