use Rattle.std.proofs.Common.{◌≡◌, take}
use Rattle.store_texts.proofs.rising.set_of.Given as goal

abbrev pub invariant-loop-number : goal.invariant-loop-number
invariant-loop-number l = l.set.keys ≡ take l.number-index l.numbers
