use Rattle.std.proofs.Common.{[], ap, arith, sym, ◌++◌, ◌∙◌, ◌∷◌, ◌≡◌}
use Rattle.std.proofs.lemmas.Bool.Decides.{nat_tests}
use Rattle.std.proofs.lemmas.List.{nil_from_length}
use Rattle.std.specs.FinMap as map
use Rattle.std.specs.Ordering.{nat_cmp}
use Rattle.action_names.specs.Deps.{Entries, least_at, with_least}
use Rattle.places.specs.Children.{entries_of}
use Rattle.places.proofs.Keeping.{child_got, child_put, ok_then}
use Rattle.places.proofs.children.Children.insert.Goals as goal

pub add-requires-clause-absent : goal.add-requires-clause-absent
add-requires-clause-absent c =
    let pushed : c.push_reserved.new.self.items ≡ (c.in-One.first, c.in-One.at) ∷ [] =
    c.push_reserved.ensures.items ∙ ap (λ (xs : Entries). xs ++ (c.in-One.first, c.in-One.at) ∷ []) c.in_ok-places-in-One.ensures.items in
    ap (λ xs. least_at xs c.args.number) pushed
    ∙ ap (λ k. least_at (entries_of k) c.args.number) (sym c.in-One.is)
    ∙ child_got c.self.inside.kept c.args.self.now c.self.invariant c.self.view_is c.args.number
    ∙ c.requires

pub returns-then-is_empty-clause-ok : goal.returns-then-is_empty-clause-ok
returns-then-is_empty-clause-ok c =
    let none : c.in-Listed.places.items ≡ [] =
    nil_from_length c.in-Listed.places.items (grind (arith, nat_tests, c.if-is_empty.ensures)) in
    ap (λ xs. map.from_sorted {R = nat_cmp} (with_least xs c.args.number c.args.place))
    (sym none ∙ ap entries_of (sym c.in-Listed.is))
    ∙ child_put c.self.inside.kept c.args.self.now c.self.invariant c.self.view_is c.args.number c.args.place

pub add-requires-in-Listed-clause-absent : goal.add-requires-in-Listed-clause-absent
add-requires-in-Listed-clause-absent c =
    ap (λ k. least_at (entries_of k) c.args.number) (sym c.in-Listed.is)
    ∙ child_got c.self.inside.kept c.args.self.now c.self.invariant c.self.view_is c.args.number
    ∙ c.requires

pub returns-in_ok-add-in-One-clause-ok : goal.returns-in_ok-add-in-One-clause-ok
returns-in_ok-add-in-One-clause-ok c =
    let pushed : c.push_reserved.new.self.items ≡ (c.in-One.first, c.in-One.at) ∷ [] =
    c.push_reserved.ensures.items ∙ ap (λ (xs : Entries). xs ++ (c.in-One.first, c.in-One.at) ∷ []) c.in_ok-places-in-One.ensures.items in
    ap (λ xs. map.from_sorted {R = nat_cmp} xs) c.in_ok-add-in-One.ensures.ok
    ∙ ap (λ xs. map.from_sorted {R = nat_cmp} (with_least xs c.args.number c.args.place))
    (pushed ∙ ap entries_of (sym c.in-One.is))
    ∙ child_put c.self.inside.kept c.args.self.now c.self.invariant c.self.view_is c.args.number c.args.place

pub returns-else-is_empty-clause-ok : goal.returns-else-is_empty-clause-ok
returns-else-is_empty-clause-ok c =
    ok_then c.add-in-Listed.result _ _ (λ is.
    ap (λ xs. map.from_sorted {R = nat_cmp} xs) is
    ∙ ap (λ xs. map.from_sorted {R = nat_cmp} (with_least xs c.args.number c.args.place)) (ap entries_of (sym c.in-Listed.is))
    ∙ child_put c.self.inside.kept c.args.self.now c.self.invariant c.self.view_is c.args.number c.args.place)
    c.add-in-Listed.ensures.ok
