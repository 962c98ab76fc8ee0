use Rattle.std.proofs.Common.{take}
use Rattle.picture.proofs.Beginnings.{AreAdded}
use Rattle.picture.proofs.bars.add_begun.Given as goal

-- the names so far were added
abbrev pub invariant-loop-name : goal.invariant-loop-name
invariant-loop-name l = AreAdded l.fn.actions l.actions l.begun (take l.name-index l.names)
