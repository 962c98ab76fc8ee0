use Rattle.std.proofs.Common.{ap, arith, length, refl, set, subst, sym, ◌+◌, ◌∙◌, ◌≤◌}
use Rattle.std.proofs.lemmas.Option.{slice_get_read}
use Rattle.action_forest.proofs.Adding.{no_room, room_written}
use Rattle.action_forest.proofs.Written.{written}
use Rattle.action_forest.specs.Rooms.{HasRoomAt}
use Rattle.action_forest.specs.Trees.{changed_at, one_more, trees}
use Rattle.action_forest.proofs.forest.Forest.count_more.Goals as goal

pub returns-in-Some-get_mut-clause-counted : goal.returns-in-Some-get_mut-clause-counted
returns-in-Some-get_mut-clause-counted c =
    let node = c.in-Some-get_mut.node.now in
    let self = c.args.self.now in
    let there =
    slice_get_read self.nodes.items self.nodes.len c.in-Some.at node self.nodes.ok.0
    (c.in-Some-get_mut.ensures.variant.0 refl) c.in-Some-get_mut.ensures.value in
    (λ i. record {
      first_top = self.first_top;
      guardians = self.guardians;
      actions = written one_more self.nodes.items c.in-Some.at node (record node { unended = node.unended + 1 }) there refl i;
      tops = self.tops.items;
    })
    ∙ sym (ap (λ maker. changed_at one_more maker (trees self)) c.in-Some.is)

pub returns-in-Some-get_mut-clause-room : goal.returns-in-Some-get_mut-clause-room
returns-in-Some-get_mut-clause-room c = λ n k h.
    let node = c.in-Some-get_mut.node.now in
    let nodes = c.args.self.now.nodes.items in
    let there =
    slice_get_read nodes c.args.self.now.nodes.len c.in-Some.at node c.args.self.now.nodes.ok.0
    (c.in-Some-get_mut.ensures.variant.0 refl) c.in-Some-get_mut.ensures.value in
    let new = record node { unended = node.unended + 1 } in
    subst (HasRoomAt (set nodes c.in-Some.at new) n k) (sym c.in-Some.is)
    (room_written nodes c.in-Some.at node new n (k + 1) n k there (λ r. let one = r.1 in (r.0, omega arith))
    (subst (HasRoomAt nodes n (k + 1)) c.in-Some.is h))

pub returns-in_default-get_mut-clause-counted : goal.returns-in_default-get_mut-clause-counted
returns-in_default-get_mut-clause-counted c =
    let nodes = c.args.self.now.nodes in
    let past : length nodes.items ≤ c.in-Some.at = omega (arith, nodes.ok.0, c.in_default-get_mut.ensures.item) in
    absurd (no_room nodes.items c.in-Some.at 0 1 past (subst (HasRoomAt nodes.items 0 1) c.in-Some.is c.requires))
