use Rattle.std.proofs.Common.{◌≡◌, map, take}
use Rattle.script_engine.specs.Storing.{failures_in, held_in, saved}
use Rattle.script_engine.proofs.storing.save_all.Given as goal

-- the first bases are saved, and no failure was counted
abbrev pub invariant-loop-index : goal.invariant-loop-index
invariant-loop-index g l = record {
  held : map (held_in g.S.Stable.seen) l.stores
      ≡ saved (take l.index (map (λ base. base.entries) l.bases)) (map (held_in g.S.Stable.seen) l.fn.stores);
  calm : map (failures_in g.S.Stable.seen) l.stores ≡ map (failures_in g.S.Stable.seen) l.fn.stores;
}
