use Rattle.std.proofs.Common.{ap, arith, subst, sym, vec_capacity, vec_len, ◌+◌}
use Rattle.action_forest.proofs.Adding.{room_at, room_below, room_pushed}
use Rattle.action_forest.specs.Rooms.{HasRoomAt}
use Rattle.action_forest.proofs.forest.Forest.add.Goals as goal

pub hang-requires-clause-below : goal.hang-requires-clause-below
hang-requires-clause-below c =
    let node = c.args.node in
    subst (λ nodes. HasRoomAt nodes 1 0 node.maker) (sym c.push_reserved.ensures.items)
    (room_pushed c.count_more.new.self.nodes.items node 1 0 node.maker
    (c.count_more.ensures.room 1 0 (room_at c.args.self.now 1 node.maker c.requires.below)))

pub returns-clause-room : goal.returns-clause-room
returns-clause-room c = λ n h.
    let node = c.args.node in
    let here = h.nodes in
    let tops = h.tops in
    let nodes_len = c.push_reserved.ensures.len in
    let nodes_room = c.push_reserved.ensures.capacity in
    record {
      nodes = omega (arith, c.count_more.ensures.len, c.count_more.ensures.capacity, c.hang.ensures.len, c.hang.ensures.capacity);
      tops =
          let same_len = ap vec_len c.count_more.ensures.tops in
          let same_room = ap vec_capacity c.count_more.ensures.tops in
          omega (arith, c.hang.ensures.tops_len, c.hang.ensures.tops_capacity);
      below = room_below c.hang.new.self n node.maker
          (c.hang.ensures.room n n
          (subst (λ nodes. HasRoomAt nodes (n + 1) n node.maker) (sym c.push_reserved.ensures.items)
          (room_pushed c.count_more.new.self.nodes.items node (n + 1) n node.maker
          (c.count_more.ensures.room (n + 1) n (room_at c.args.self.now (n + 1) node.maker h.below)))));
    }
