use Rattle.std.proofs.Common.{◌≡◌, ◌<◌, [], None, get_or, length, map, ℕ}
use Rattle.script_engine.specs.Storing.{found_in, Opens}
use Rattle.script_engine.proofs.storing.open_setup.Given as goal

-- the first stores open their guardians
abbrev pub invariant-loop-index : goal.invariant-loop-index
invariant-loop-index g l = record {
  count : length l.setup ≡ l.index;
  each : (n : ℕ) → n < l.index → Opens (get_or (map (found_in g.S.Stable.seen) l.stores) n None) (get_or l.script.guardians n []) (get_or l.setup n []);
}
