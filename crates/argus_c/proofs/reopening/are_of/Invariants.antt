use Rattle.std.proofs.Common.{◌≡◌, ◌-◌, drop, map}
use Rattle.stable_store.specs.Held.{held}
use Rattle.store_recovery.specs.Belonging.{all_belong, belong_from}
use Rattle.argus_c.proofs.reopening.are_of.Given as goal

-- what is left decides
abbrev pub invariant-loop-guardian : goal.invariant-loop-guardian
invariant-loop-guardian l =
    belong_from l.setup l.guardian (drop (l.guardian - 1) (map held l.left)) ≡ all_belong l.setup (map held l.left)
