use Rattle.std.proofs.Common.{arith, length, refl, set, subst, sym, ◌+◌, ◌∙◌, ◌≡◌, ◌≤◌}
use Rattle.std.proofs.lemmas.Option.{slice_get_read}
use Rattle.action_forest.proofs.Adding.{no_room, room_written}
use Rattle.action_forest.proofs.Written.{written}
use Rattle.action_forest.specs.Rooms.{HasRoomAt}
use Rattle.action_forest.specs.Trees.{action_in, hung, trees, with_child}
use Rattle.action_forest.proofs.forest.Forest.hang.Goals as goal

pub returns-in-Some-get_mut-clause-hung : goal.returns-in-Some-get_mut-clause-hung
returns-in-Some-get_mut-clause-hung c =
    let node = c.in-Some-get_mut.node.now in
    let self = c.args.self.now in
    let there =
    slice_get_read self.nodes.items self.nodes.len c.in-Some.parent node self.nodes.ok.0
    (c.in-Some-get_mut.ensures.variant.0 refl) c.in-Some-get_mut.ensures.value in
    let new = record node { children = c.push_reserved-in-Some-get_mut.new.self } in
    let pushed : action_in new ≡ with_child c.args.place (action_in node) =
    (λ i. record (action_in node) { children = c.push_reserved-in-Some-get_mut.ensures.items i }) in
    (λ i. record {
      first_top = self.first_top;
      guardians = self.guardians;
      actions = written (with_child c.args.place) self.nodes.items c.in-Some.parent node new there pushed i;
      tops = self.tops.items;
    })
    ∙ sym (λ i. hung (c.if-top.false i) (c.in-Some.is i) c.args.place (trees self))

pub returns-in-Some-get_mut-clause-room : goal.returns-in-Some-get_mut-clause-room
returns-in-Some-get_mut-clause-room c = λ n k h.
    let node = c.in-Some-get_mut.node.now in
    let nodes = c.args.self.now.nodes.items in
    let there =
    slice_get_read nodes c.args.self.now.nodes.len c.in-Some.parent node c.args.self.now.nodes.ok.0
    (c.in-Some-get_mut.ensures.variant.0 refl) c.in-Some-get_mut.ensures.value in
    let new = record node { children = c.push_reserved-in-Some-get_mut.new.self } in
    subst (HasRoomAt (set nodes c.in-Some.parent new) n k) (sym c.in-Some.is)
    (room_written nodes c.in-Some.parent node new (n + 1) k n k there
    (λ r. let one = r.0 in (omega (arith, c.push_reserved-in-Some-get_mut.ensures.len, c.push_reserved-in-Some-get_mut.ensures.capacity), r.1))
    (subst (HasRoomAt nodes (n + 1) k) c.in-Some.is h))

pub returns-in_default-get_mut-clause-hung : goal.returns-in_default-get_mut-clause-hung
returns-in_default-get_mut-clause-hung c =
    let nodes = c.args.self.now.nodes in
    let past : length nodes.items ≤ c.in-Some.parent = omega (arith, nodes.ok.0, c.in_default-get_mut.ensures.item) in
    absurd (no_room nodes.items c.in-Some.parent 1 0 past (subst (HasRoomAt nodes.items 1 0) c.in-Some.is c.requires.below))
