use Rattle.std.proofs.Common.{reverse, take, ◌≡◌}
use Rattle.orphans.proofs.log.Log.newest.Given as goal

abbrev pub invariant-loop-back : goal.invariant-loop-back
invariant-loop-back l = l.newest.items ≡ take l.back (reverse l.self.names.items)
