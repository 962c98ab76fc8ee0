use Rattle.std.proofs.Common.{drop, ◌-◌, ◌≡◌}
use Rattle.store_recovery.specs.Belonging.{all_belong, belong_from}
use Rattle.store_recovery.specs.Settling.{contents}
use Rattle.store_recovery.proofs.checking.all_belong.Given as goal

-- what is left decides
abbrev pub invariant-loop-guardian : goal.invariant-loop-guardian
invariant-loop-guardian g l =
    belong_from l.setup l.guardian (drop (l.guardian - 1) (contents g.S.Stable.seen l.stores)) ≡ all_belong l.setup (contents g.S.Stable.seen l.stores)
