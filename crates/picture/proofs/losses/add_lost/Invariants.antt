use Rattle.std.proofs.Common.{take}
use Rattle.picture.specs.Losses.{falls}
use Rattle.picture.proofs.Losing.{AreLooked}
use Rattle.picture.proofs.losses.add_lost.Given as goal

-- the actions so far were looked at
abbrev pub invariant-loop-name : goal.invariant-loop-name
invariant-loop-name l = AreLooked l.fn.lost l.lost (falls l.prepared l.bars l.guardian) (take l.name-index l.exposed)
