use Rattle.std.proofs.Common.{◌≡◌}
use Rattle.overlays.specs.ArrayItems.{put_back_all}
use Rattle.overlays.proofs.array_items.put_back.Given as goal

-- what is left to put back gives what all gave
abbrev pub invariant-loop-index : goal.invariant-loop-index
invariant-loop-index l = put_back_all l.before.items l.items.entries ≡ put_back_all l.initial.before.items l.initial.items.entries

abbrev pub decreases-loop-index : goal.decreases-loop-index
decreases-loop-index l = goal.left-loop-index l
