use Rattle.std.proofs.Common.{sym, subst}
use Rattle.values.specs.Chunks.{AreFull}
use Rattle.values.proofs.Joined.{full_push, is_full, part_behind}
use Rattle.values.proofs.chunks.Chunks.of_copies.Goals as goal

pub loop-left-preserved : goal.loop-left-preserved
loop-left-preserved c = record {
  same = part_behind c.loop-left.middle.items c.in_ok-of_copies.field-0 c.loop-left.left.now c.split_at.result.0.now c.split_at.result.1.now c.args.items.now c.push_back.new.self.items
      c.in_ok-push_back.ensures.items c.in_ok-of_copies.ensures.same c.split_at.ensures.front c.split_at.ensures.back c.loop-left.invariant.same;
  full = subst AreFull (sym c.in_ok-push_back.ensures.items)
      (full_push c.loop-left.middle.items c.in_ok-of_copies.field-0 c.loop-left.invariant.full
      (is_full c.in_ok-of_copies.field-0 c.split_at.result.0.now c.in_ok-of_copies.ensures.same c.split_at.ensures.front_len c.in_ok-of_copies.ensures.fit));
}
